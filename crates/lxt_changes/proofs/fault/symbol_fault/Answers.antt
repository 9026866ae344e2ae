use Rattle.lxt_changes.proofs.FaultLaws.{symbols_out, symbols_none, data_there, symbols_wrong, symbols_right}
use Rattle.lxt_changes.proofs.fault.symbol_fault.Goals as goal

pub returns-then-end-at : goal.returns-then-end-at
returns-then-end-at c = search symbols_out

pub returns-then-b-eq0 : goal.returns-then-b-eq0
returns-then-b-eq0 c = search symbols_none

pub codes_allowed-requires : goal.codes_allowed-requires
codes_allowed-requires c =
    let pre = c.requires in (
      pre.0,
      data_there _ _ _ _ _ _ _ c.size_of-b.ensures.0 c.data_at-at.ensures.0 c.packed_size.ensures.0 c.if-end-at.false
          pre.1.0.0 pre.1.0.1 pre.1.1.1,
    )

pub returns-in_default : goal.returns-in_default
returns-in_default c =
    symbols_wrong _ _ _ _ _ _ _ c.size_of-b.ensures.0 c.data_at-at.ensures.0 c.packed_size.ensures.0 c.if-end-at.false
    _ c.codes_allowed.ensures c.in_default.is

pub returns : goal.returns
returns c =
    symbols_right _ _ _ _ _ _ _ c.size_of-b.ensures.0 c.data_at-at.ensures.0 c.packed_size.ensures.0 c.if-end-at.false
    _ c.codes_allowed.ensures _ c.in-Some.is _ c.padding_clean.ensures
