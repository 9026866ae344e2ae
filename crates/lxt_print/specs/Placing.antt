-- Text that is put into a buffer, and what putting a line asks.
use Rattle.std.specs.Prelude.{ℕ, ◌+◌, ◌≤◌, ◌≡◌, List, ◌++◌, length, ℤ, if◌then◌else◌}
use Rattle.lxt_format.specs.Buffers.{placed}
use Rattle.lxt_format.specs.Geometry.{is_alias, root_of, own_facts}
use Rattle.lxt_format.specs.Judge.{file_refusal}
use Rattle.lxt_tables.specs.Stage.{tables_of}
use Rattle.lxt_tables.specs.declared.Tables.{Tables}
use Rattle.lxt_format.specs.Names.{name_among, name_of}
use Rattle.lxt_values.specs.Names.{coming, Coming}
use Rattle.lxt_values.specs.declared.names.NamesLeft.{NamesLeft}
use Rattle.lxt_print.specs.Lines.{decimal, signed_decimal, space, facility_word, change_word, alias_word, kind_word}

-- a text that was put from `at` up to p: the buffer before, the text, and the buffer after
pub record Put (before : List ℕ) (at : ℕ) (text : List ℕ) (p : ℕ) (after : List ℕ) : Type 0 where
  pub place : p ≡ at + length text
  pub holds : after ≡ placed before at text
  pub fits : p ≤ length before

-- the tables of an accepted file
pub record Opened (s : List ℕ) (t : Tables) : Type 0 where
  pub tables : t ≡ tables_of s
  pub accepted : file_refusal s ≡ 0

-- the names of facility f and of those after it are left, and the buffer holds the name before
pub record NamesAt (s : List ℕ) (t : Tables) (f : ℕ) (c : NamesLeft) (name : List ℕ) : Type 0 where
  pub rest : Coming s t.end c.left c.at c.before name
  pub count : c.left + f ≡ t.facilities
  pub names : (j : ℕ) → name_among j (coming s t.end c.left c.at c.before name) ≡ name_of s (f + j)

-- ---- parts of lines

-- "facility 0 a ": up to the kind
unfoldable pub facility_head : ℕ → List ℕ → List ℕ
facility_head f name = facility_word ++ space ++ decimal f ++ space ++ name ++ space

-- "bits 1", "alias 0": the kind and the width, or the root
unfoldable pub facility_end : List ℕ → ℕ → List ℕ
facility_end s f =
    if is_alias s f then alias_word ++ space ++ decimal (root_of s f)
    else kind_word (own_facts s f).kind ++ space ++ decimal (own_facts s f).width

-- "change 0 6 5 ": up to the value
unfoldable pub change_head : ℕ → ℕ → ℤ → List ℕ
change_head f o time = change_word ++ space ++ decimal f ++ space ++ decimal o ++ space ++ signed_decimal time ++ space
