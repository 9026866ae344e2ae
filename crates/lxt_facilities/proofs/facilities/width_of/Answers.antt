use Rattle.lxt_facilities.proofs.FacilityLaws.{width_bits, width_integer, width_none}
use Rattle.lxt_facilities.proofs.facilities.width_of.Goals as goal

pub returns-in-Bits : goal.returns-in-Bits
returns-in-Bits c = search width_bits

pub returns-in-Integer : goal.returns-in-Integer
returns-in-Integer c = search width_integer

pub returns-in-Real : goal.returns-in-Real
returns-in-Real c = width_none _ _ _ c.in-Real.is
