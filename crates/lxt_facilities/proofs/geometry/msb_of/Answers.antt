use Rattle.std.proofs.Common.{inl, inr, rules}
use Rattle.lxt_written.specs.WrittenFile.{msb_for}
use Rattle.lxt_facilities.proofs.geometry.msb_of.Goals as goal

pub returns-in-Bits : goal.returns-in-Bits
unfolding msb_for
returns-in-Bits c = search rules

pub returns-in-Integer : goal.returns-in-Integer
unfolding msb_for
returns-in-Integer c = search rules

pub returns-in-Real : goal.returns-in-Real
unfolding msb_for
returns-in-Real c = elim c.in-Real.is [ inl e ↦ rw e | inr e ↦ rw e ]
