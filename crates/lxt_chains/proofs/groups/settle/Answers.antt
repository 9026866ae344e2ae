use mathlib.Core.Path.{refl}
use Rattle.lxt_chains.proofs.GroupLaws.{settle_put, holder_width, holder_kinds, settle_added}
use Rattle.lxt_chains.proofs.groups.settle.Goals as goal

pub returns-in_default : goal.returns-in_default
returns-in_default c = settle_put _ _ _ _ _ _ c.requires _ _ c.in_default.ensures refl

pub bounds-widths-g : goal.bounds-widths-g
bounds-widths-g c = holder_width _ _ _ _ _ _ c.requires _ _ c.in-Some.ensures _ refl

pub bounds-widths-g-2 : goal.bounds-widths-g-2
bounds-widths-g-2 c = holder_width _ _ _ _ _ _ c.requires _ _ c.in-Some.ensures _ refl

pub bounds-kinds-g : goal.bounds-kinds-g
bounds-kinds-g c = holder_kinds _ _ _ _ _ _ c.requires _ _ c.in-Some.ensures _ refl

pub bounds-kinds-g-2 : goal.bounds-kinds-g-2
bounds-kinds-g-2 c = holder_kinds _ _ _ _ _ _ c.requires _ _ c.in-Some.ensures _ refl

pub returns : goal.returns
returns c = settle_added _ _ _ _ _ _ c.requires _ _ c.in-Some.ensures _ refl _ _ c.max.ensures c.both_kinds.ensures
