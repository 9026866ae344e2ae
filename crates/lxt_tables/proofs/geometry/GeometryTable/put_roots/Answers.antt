use Rattle.lxt_tables.proofs.AliasLaws.{put_begun, put_stop, put_turn, put_end, roots_right}
use Rattle.lxt_tables.proofs.geometry.GeometryTable.put_roots.Goals as goal

pub loop-f-init : goal.loop-f-init
loop-f-init c = search put_begun

pub root_by-root-requires : goal.root_by-root-requires
root_by-root-requires c = roots_right _ _ _ c.args.self.there _ _ c.loop-f.invariant.table

pub returns-then-self-root : goal.returns-then-self-root
returns-then-self-root c = search put_stop

pub loop-f-preserved : goal.loop-f-preserved
loop-f-preserved c = search put_turn

pub returns : goal.returns
returns c = search put_end
