use Rattle.lxt_format.specs.BytesLaws.{u16_bytes}
use native.Mathlib.Omega.{arith}
use Rattle.lxt_sections.proofs.be16.Goals as goal

pub returns : goal.returns
returns c = (omega (arith, u16_bytes c.args.file.now c.args.at), omega arith)
