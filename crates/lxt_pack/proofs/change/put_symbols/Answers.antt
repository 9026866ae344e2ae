use Rattle.lxt_pack.proofs.SizeLaws.{packed_by}
use native.Mathlib.Omega.{arith}
use Rattle.lxt_pack.proofs.ChangeLaws.{symbols_none, pack_held, symbols_put}
use Rattle.lxt_pack.proofs.change.put_symbols.Goals as goal

pub returns-then-b-eq0 : goal.returns-then-b-eq0
returns-then-b-eq0 c =
    let all = symbols_none _ _ _ _ _ c.symbol_size-b.ensures.0 c.if-b-eq0.true in
    record { out_after = all.0; value = all.1 }

pub pack-requires : goal.pack-requires
pack-requires c = pack_held _ _ _ _ _ c.requires c.symbol_size-b.ensures.0 c.if-b-eq0.false

pub returns : goal.returns
returns c =
    let a = c.args in
    let b = c.symbol_size-b.ensures.0 in
    let packed = symbols_put a.value.now _ a.out.now _ a.at _ b c.pack.ensures in
    record { out_after = packed; value = omega (arith, packed_by _ _ _ _ b c.packed_size.ensures.0) }
