use Rattle.lxt_format.specs.BytesLaws.{u32_bytes}
use native.Mathlib.Omega.{arith}
use Rattle.lxt_sections.proofs.be32.Goals as goal

pub returns : goal.returns
returns c = omega (arith, u32_bytes c.args.file.now c.args.at)
