use native.Mathlib.Omega.{arith}
use mathlib.Core.Path.{refl}
use mathlib.Core.Logic.{inl}
use Rattle.lxt_changes.proofs.KeepLaws.{head_breaks, starts, symbols_keep, symbols_wide}
use Rattle.lxt_changes.proofs.keep.bits_keep.Goals as goal

pub returns-then-not-head_keeps : goal.returns-then-not-head_keeps
returns-then-not-head_keeps c = search head_breaks

pub symbols_keep-requires : goal.symbols_keep-requires
symbols_keep-requires c =
    let pre = c.requires in
    let s = starts _ _ _ _ c.args.width _ _ c.head_keeps.ensures c.if-not-head_keeps.false in
    ((symbols_wide _ _ _ _ pre (inl refl), pre.most), (omega (arith, pre.within), pre.within))

pub returns : goal.returns
returns c = symbols_keep _ _ _ _ _ _ _ c.head_keeps.ensures c.if-not-head_keeps.false (inl refl) _ c.symbols_keep.ensures
