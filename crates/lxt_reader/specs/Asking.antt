-- What is known of a facility that was asked about, in an accepted file.
use Rattle.std.specs.Prelude.{ℕ, ◌+◌, List}
use Rattle.lxt_format.specs.Basics.{Answer, answer}
use Rattle.lxt_format.specs.Bytes.{u32_at}
use Rattle.lxt_format.specs.Sections.{section_of, end_of, facility_count}
use Rattle.lxt_format.specs.Geometry.{root_of}
use Rattle.lxt_format.specs.Questions.{facility_refusal}
use Rattle.lxt_tables.specs.Stage.{tables_of}
use Rattle.lxt_reader.specs.declared.facilities.Asked.{Asked}
use Rattle.lxt_reader.specs.declared.names.NamePlace.{NamePlace}

-- its root, and the tables
unfoldable pub asked_of : List ℕ → ℕ → Asked
asked_of s f = record { root = root_of s f; tables = tables_of s }

-- that, or the refusal of a question on it
abbrev pub asked : List ℕ → ℕ → Answer Asked
asked s f = answer (facility_refusal s f) (asked_of s f)

-- where the names stand: after n and M
unfoldable pub name_place : List ℕ → NamePlace
name_place s = record { at = section_of s 0x03 + 8; end = end_of s; facilities = facility_count s; memory = u32_at s (section_of s 0x03 + 4) }
