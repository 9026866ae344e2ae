use Rattle.lxt_written.specs.WrittenFile.{flags_for}
use borrow.Author.Rules.{rules}
use Rattle.lxt_facilities.proofs.geometry.flags_of.Goals as goal

pub returns-in-Bits : goal.returns-in-Bits
unfolding flags_for
returns-in-Bits c = search rules

pub returns-in-Integer : goal.returns-in-Integer
unfolding flags_for
returns-in-Integer c = search rules

pub returns-in-Real : goal.returns-in-Real
unfolding flags_for
returns-in-Real c = search rules

pub returns-in-Text : goal.returns-in-Text
unfolding flags_for
returns-in-Text c = search rules
