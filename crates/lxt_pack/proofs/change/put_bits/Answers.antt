use Rattle.lxt_pack.proofs.ChangeLaws.{bits_some, bits_head, bits_held, bits_put}
use Rattle.lxt_pack.proofs.change.put_bits.Goals as goal

pub command_of_symbols-command-requires : goal.command_of_symbols-command-requires
command_of_symbols-command-requires c = bits_some _ _ _ _ c.requires

pub put_head-data-requires : goal.put_head-data-requires
put_head-data-requires c = bits_head _ _ _ _ c.requires _ c.command_of_symbols-command.ensures

pub put_symbols-requires : goal.put_symbols-requires
put_symbols-requires c =
    let head = c.put_head-data.ensures in
    bits_held _ _ _ _ c.requires _ _ _ c.command_of_symbols-command.ensures head.value head.out_after

pub returns : goal.returns
returns c =
    let head = c.put_head-data.ensures in
    let packed = c.put_symbols.ensures in
    bits_put _ _ _ _ c.requires _ _ _ _ _ c.command_of_symbols-command.ensures head.out_after head.value packed.out_after packed.value
