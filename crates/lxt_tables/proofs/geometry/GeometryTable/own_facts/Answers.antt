use Rattle.lxt_tables.proofs.FacilityLaws.{integer_facts, real_facts, text_facts, bits_facts, width_fits}
use Rattle.lxt_tables.proofs.geometry.GeometryTable.own_facts.Goals as goal

pub bits_facts-requires : goal.bits_facts-requires
bits_facts-requires c = search width_fits

pub returns-in-Bits : goal.returns-in-Bits
returns-in-Bits c = search bits_facts

pub returns-in-Integer : goal.returns-in-Integer
returns-in-Integer c = search integer_facts

pub returns-in-Real : goal.returns-in-Real
returns-in-Real c = search real_facts

pub returns-in-Text : goal.returns-in-Text
returns-in-Text c = search text_facts
