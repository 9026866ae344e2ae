use Rattle.lxt_walk.proofs.StartLaws.{asked_geometry, asked_none_known, asked_resolved}
use Rattle.lxt_walk.proofs.start.put_asked.Goals as goal

pub geometry-requires : goal.geometry-requires
geometry-requires c = search asked_geometry

pub put_roots-requires : goal.put_roots-requires
put_roots-requires c = rw (c.geometry.ensures.same_file, c.geometry.ensures.place.1) (search asked_none_known)

pub put_by_roots-requires : goal.put_by_roots-requires
put_by_roots-requires c = (c.requires, asked_resolved _ _ _ _ c.requires _ _ (rw (c.geometry.ensures.same_file, c.geometry.ensures.place.1) at c.put_roots.ensures))
