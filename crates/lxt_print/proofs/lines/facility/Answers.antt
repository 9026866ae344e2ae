use native.Mathlib.Omega.{arith}
use Rattle.lxt_print.proofs.LineLaws.{put_more, line_ended, name_short, facility_line_lem}
use Rattle.lxt_print.proofs.lines.facility.Goals as goal

pub put_facility-p-requires : goal.put_facility-p-requires
put_facility-p-requires c = omega (arith, name_short _ _ _ c.requires.1.1.0)

pub put_shape-q-requires : goal.put_shape-q-requires
put_shape-q-requires c = (c.requires.0, (c.requires.1.0, omega (arith, name_short _ _ _ c.requires.1.1.0)))

pub put_bytes-requires : goal.put_bytes-requires
put_bytes-requires c = omega (arith, name_short _ _ _ c.requires.1.1.0)

pub returns : goal.returns
returns c = line_ended (facility_line_lem _ _ _ c.requires.1.1.0) (put_more (put_more c.put_facility-p.ensures.0 c.put_shape-q.ensures.0) c.put_bytes.ensures)
