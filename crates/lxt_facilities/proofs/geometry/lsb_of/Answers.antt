use Rattle.std.proofs.Common.{inl, inr, rules}
use Rattle.lxt_written.specs.WrittenFile.{lsb_for}
use Rattle.lxt_facilities.proofs.geometry.lsb_of.Goals as goal

pub returns-in-Bits : goal.returns-in-Bits
unfolding lsb_for
returns-in-Bits c = search rules

pub returns-in-Integer : goal.returns-in-Integer
unfolding lsb_for
returns-in-Integer c = elim c.in-Integer.is [ inl e ↦ rw e | inr o ↦ elim o [ inl e ↦ rw e | inr e ↦ rw e ] ]
