use borrow.Author.Rules.{rules}
use Rattle.lxt_tables.proofs.NamesLaws.{short, broken, memory_left, within, next, all_read, first_within, first}
use Rattle.lxt_tables.proofs.names.names_end.Goals as goal

pub loop-init : goal.loop-init
loop-init c = (search first_within, search first)

pub returns-then-end-p-lt2 : goal.returns-then-end-p-lt2
returns-then-end-p-lt2 c = record { value = search short; within = search rules }

pub returns-then-not-allowed : goal.returns-then-not-allowed
returns-then-not-allowed c = record { value = search broken; within = search rules }

pub overflow_sub-next : goal.overflow_sub-next
overflow_sub-next c = search memory_left

pub loop-preserved : goal.loop-preserved
loop-preserved c = (search within, search next)

pub returns : goal.returns
returns c = record { value = search all_read; within = search rules }
