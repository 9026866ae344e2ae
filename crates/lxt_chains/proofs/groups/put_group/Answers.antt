use native.Mathlib.Omega.{arith}
use Rattle.lxt_chains.proofs.ChainLaws.{facility_allowed_lem}
use Rattle.lxt_chains.proofs.GroupLawsStart.{alone_none, alone_narrow, alone_put}
use Rattle.lxt_chains.proofs.groups.put_group.Goals as goal

pub returns-then-o-eq0 : goal.returns-then-o-eq0
returns-then-o-eq0 c = alone_none _ _ _ _ _ c.if-o-eq0.true

pub own_facts-facts-requires : goal.own_facts-facts-requires
own_facts-facts-requires c =
    let pre = c.requires in
    let g = c.geometry.ensures in
    record {
      inside = rw g.place.1 pre.1.0;
      f_value = rw g.same_file (facility_allowed_lem _ _ pre.0 _ pre.1.0);
      f_value_2 = rw g.same_file (pre.1.1.1 (omega (arith, c.if-o-eq0.false)));
    }

pub bits_width-requires : goal.bits_width-requires
bits_width-requires c = let pre = c.requires in alone_narrow _ _ pre.0 _ pre.1.0 _ c.if-o-eq0.false pre.1.1.1 _ (rw c.geometry.ensures.same_file at c.own_facts-facts.ensures)

pub returns : goal.returns
returns c = let pre = c.requires in alone_put _ _ pre.0 _ pre.1.0 _ c.if-o-eq0.false pre.1.1.1 _ (rw c.geometry.ensures.same_file at c.own_facts-facts.ensures) _ _ pre.1.1.0.0 pre.1.1.0.1 _ _ c.bits_width.ensures c.kind_number.ensures
