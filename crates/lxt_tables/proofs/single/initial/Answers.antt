use Rattle.lxt_tables.proofs.SingleLaws.{readable, initial_absent, initial_code, initial_other}
use Rattle.lxt_tables.proofs.single.initial.Goals as goal

pub returns-then-at-eq0 : goal.returns-then-at-eq0
returns-then-at-eq0 c = search initial_absent

pub bounds-file-at : goal.bounds-file-at
bounds-file-at c = search readable

pub returns-then-code-le8 : goal.returns-then-code-le8
returns-then-code-le8 c = search initial_code

pub returns-else-code-le8 : goal.returns-else-code-le8
returns-else-code-le8 c = search initial_other
