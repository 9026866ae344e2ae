use Rattle.lxt_print.proofs.StepLaws.{chains_ask, offsets_ask, started}
use Rattle.lxt_print.proofs.changes.start.Goals as goal

pub chains_of-c-requires : goal.chains_of-c-requires
chains_of-c-requires c = chains_ask _ _ c.requires.0

pub put_root_offsets-requires : goal.put_root_offsets-requires
put_root_offsets-requires c = offsets_ask _ _ c.requires.0 _ c.chains_of-c.ensures _ _ c.requires.1.0 c.requires.1.1

pub returns : goal.returns
returns c = started _ _ c.requires.0 _ c.chains_of-c.ensures _ c.requires.1.0 _ _ c.put_root_offsets.ensures c.build.ensures.0 c.build.ensures.1
