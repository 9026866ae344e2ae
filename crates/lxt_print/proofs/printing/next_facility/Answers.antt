use borrow.Author.Rules.{rules}
use Rattle.lxt_print.proofs.NextLaws.{facility_next}
use Rattle.lxt_print.proofs.printing.next_facility.Goals as goal

pub next_facility-put-requires : goal.next_facility-put-requires
next_facility-put-requires c = (c.requires.0.opened, (c.requires.1.1, (c.requires.0.names, search rules)))

pub returns : goal.returns
returns c = search facility_next
