use native.Mathlib.Omega.{arith}
use Rattle.lxt_sections.proofs.LayoutLaws.{times_fit, size_is}
use Rattle.lxt_sections.proofs.times.size.Goals as goal

pub overflow_mul-result-3 : goal.overflow_mul-result-3
overflow_mul-result-3 c = record { fits = omega (arith, times_fit _ _ c.time_bytes-bytes.ensures.1 c.ranges.m.fits) }

pub overflow_add-result-3 : goal.overflow_add-result-3
overflow_add-result-3 c = record { fits = omega (arith, times_fit _ _ c.time_bytes-bytes.ensures.1 c.ranges.m.fits, c.time_bytes-bytes.ensures.1, c.ranges.m.fits) }

pub returns : goal.returns
returns c = size_is c.args.wide _ c.ranges.m.fits _ c.time_bytes-bytes.ensures.0 c.time_bytes-bytes.ensures.1
