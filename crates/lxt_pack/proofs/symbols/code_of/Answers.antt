use Rattle.lxt_pack.proofs.PackLaws.{code_sum_lem}
use Rattle.lxt_pack.proofs.symbols.code_of.Goals as goal

pub returns : goal.returns
returns c =
    let of-1 = c.from.ensures in
    let of-z = c.from-2.ensures in
    let of-x = c.from-3.ensures in
    let of-h = c.from-4.ensures in
    let of-u = c.from-5.ensures in
    let of-w = c.from-6.ensures in
    let of-l = c.from-7.ensures in
    code_sum_lem c.args.symbol c.ranges.symbol.fits _ _ _ _ _ _ _ _ of-1 of-z of-x of-h of-u of-w of-l c.from-8.ensures
