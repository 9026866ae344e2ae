use Rattle.lxt_tables.proofs.RealsLaws.{order_is}
use Rattle.lxt_tables.proofs.reals.byte_order.Goals as goal

pub returns : goal.returns
returns c =
    let a = c.args in
    order_is a.file.now a.at _ _ _ _ _ _ _ _ c.place_of.ensures c.place_of-2.ensures c.place_of-3.ensures c.place_of-4.ensures c.place_of-5.ensures c.place_of-6.ensures c.place_of-7.ensures c.place_of-8.ensures
