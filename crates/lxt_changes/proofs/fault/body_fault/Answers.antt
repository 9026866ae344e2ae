use Rattle.std.proofs.lemmas.Result.{err_from_is_err_and}
use Rattle.lxt_changes.proofs.FaultLaws.{width_least, symbols_body, real_wrong, text_wrong, real_body, text_body}
use Rattle.lxt_changes.proofs.fault.body_fault.Goals as goal

pub symbol_fault-requires : goal.symbol_fault-requires
symbol_fault-requires c =
    let pre = c.requires in
    (pre.1.0, ((width_least _ _ _ _ _ pre.0 c.in-Bits.is, pre.0.most), (pre.1.1, pre.0.within)))

pub returns-in-Bits : goal.returns-in-Bits
returns-in-Bits c = search symbols_body

pub returns-in_err-real_fault-in-Real : goal.returns-in_err-real_fault-in-Real
returns-in_err-real_fault-in-Real c =
    let p = err_from_is_err_and c.from_residual.result c.from_residual.ensures.1 in
    rw (p.1, p.2) (real_wrong _ _ _ _ _ _ _ c.requires.0 c.requires.1.0 c.in-Real.is _ c.in_err-real_fault-in-Real.ensures)

pub returns-in_err-text_fault-in-Text : goal.returns-in_err-text_fault-in-Text
returns-in_err-text_fault-in-Text c =
    let p = err_from_is_err_and c.from_residual-in_err-text_fault-in-Text.result c.from_residual-in_err-text_fault-in-Text.ensures.1 in
    rw (p.1, p.2) (text_wrong _ _ _ _ _ _ _ c.requires.0 c.requires.1.0 c.in-Text.is _ c.in_err-text_fault-in-Text.ensures)

pub returns-in_ok-real_fault-in-Real : goal.returns-in_ok-real_fault-in-Real
returns-in_ok-real_fault-in-Real c = real_body _ _ _ _ _ _ _ c.requires.0 c.requires.1.0 c.in-Real.is c.in_ok-real_fault-in-Real.ensures

pub returns-in_ok-text_fault-in-Text : goal.returns-in_ok-text_fault-in-Text
returns-in_ok-text_fault-in-Text c = text_body _ _ _ _ _ _ _ c.requires.0 c.requires.1.0 c.in-Text.is c.in_ok-text_fault-in-Text.ensures
