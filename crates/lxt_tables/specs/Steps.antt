-- What the functions answer that join the checks.
use Rattle.std.specs.Prelude.{ℕ, ◌+◌, List, [], if◌then◌else◌, Option, Some, None}
use Rattle.std.proofs.Math.Seq.{slice}
use Rattle.lxt_format.specs.Basics.{◌unless◌, ◌or_else◌}
use Rattle.lxt_format.specs.Names.{names_in, within_memory, names_allowed, names_size}
use Rattle.lxt_format.specs.Geometry.{geometries_allowed, aliases_allowed}
use Rattle.lxt_format.specs.Times.{times_allowed}
use Rattle.lxt_tables.specs.Stage.{after_names}

-- the offset after the last of n names that stand from `at` up to `end`; none where they break a rule, or M is too small for them
unfoldable pub end_of_names : List ℕ → ℕ → ℕ → ℕ → ℕ → Option ℕ
end_of_names s at end n memory =
    if within_memory memory (names_in n (slice at end s) []) then Some (at + names_size n (slice at end s)) else None

-- refusal 10: the offset after the last name of the file, or none
unfoldable pub name_table_end : List ℕ → Option ℕ
name_table_end s = if names_allowed s then Some (after_names s) else None

-- refusals 11 to 13
unfoldable pub middle_refusal : List ℕ → ℕ
middle_refusal s =
    11 unless geometries_allowed s
    or_else 12 unless aliases_allowed s
    or_else 13 unless times_allowed s
