use Rattle.lxt_layout.proofs.LayoutLaws.{values_long, list_room, list_put}
use Rattle.lxt_layout.proofs.put_list.Goals as goal

pub slice_bounds-put_items-end : goal.slice_bounds-put_items-end
slice_bounds-put_items-end c = values_long c.args.p _ c.item_count-count.ensures.1

pub put_items-requires : goal.put_items-requires
put_items-requires c =
    let n = c.item_count-count.ensures in
    list_room c.args.p c.args.out.now c.args.at c.args.real _ n.0 n.1 c.requires.0

pub returns : goal.returns
returns c =
    let n = c.item_count-count.ensures in
    list_put c.args.p c.args.out.now c.args.at c.args.real _ n.0 n.1 _ c.put_items.ensures
