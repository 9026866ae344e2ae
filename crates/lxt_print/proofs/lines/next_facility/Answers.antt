use Rattle.lxt_print.proofs.NamingLaws.{next_asks, name_small, name_length, name_here_lem, names_next}
use borrow.Author.Rules.{rules}
use Rattle.lxt_print.proofs.lines.next_facility.Goals as goal

pub next-rest-requires : goal.next-rest-requires
next-rest-requires c = next_asks _ _ c.requires.0 _ _ _ c.requires.1.1.0 c.requires.1.0

pub slice_bounds-facility-end : goal.slice_bounds-facility-end
slice_bounds-facility-end c = name_small _ _ c.requires.0 _ _ _ c.requires.1.1.0 _ _ c.next-rest.ensures

pub slice_bounds-facility-end-2 : goal.slice_bounds-facility-end-2
slice_bounds-facility-end-2 c = name_length _ _ c.requires.0 _ _ _ c.requires.1.1.0 _ _ c.next-rest.ensures

pub facility-size-requires : goal.facility-size-requires
facility-size-requires c = (c.requires.0, (c.requires.1.0, (name_here_lem _ _ c.requires.0 _ _ _ c.requires.1.1.0 _ _ c.next-rest.ensures, c.requires.1.1.1)))

pub returns : goal.returns
returns c = record { size_value = search rules; names_at = names_next _ _ c.requires.0 _ _ _ c.requires.1.1.0 _ _ c.next-rest.ensures }
