-- What the functions over the whole input answer and ask.
use Rattle.std.specs.Prelude.{ℕ, ◌+◌, ◌*◌, ◌-◌, ◌≤◌, ◌<◌, ◌≡◌, Bool, true, false, List, [], ◌∷◌, ◌++◌, map, length, get_or, ℤ, Option, Some, None}
use Rattle.lxt_format.specs.Limits.{most_facilities}
use Rattle.lxt_format.specs.Basics.{joined}
use Rattle.lxt_format.specs.Names.{memory_of}
use Rattle.lxt_written.specs.Input.{facility_of, trace_of}
use Rattle.lxt_written.specs.WrittenFile.{words, names_from, names_of, geometry_bytes}
use Rattle.lxt_written.specs.Writing.{input_allowed}
use Rattle.lxt_layout.specs.declared.Sizes.{Sizes}
use Rattle.lxt_layout.specs.declared.Places.{Places}
use Rattle.lxt_layout.specs.Layout.{Bounded, Measures, PlacesFor, values_section, tail_of}
use Rattle.lxt_facilities.specs.Rows.{names_in, facilities_allowed}
use Rattle.lxt_writer.specs.declared.plan.Plan.{Plan}

-- ---- the first pass

-- of an input that is allowed: the sizes and the memory of its file
pub record PlanFound (facilities : List (List ℕ)) (names : List ℕ) (changes : List (List ℕ)) (values : List ℕ) (initial : ℕ) (timescale : ℤ) (r : Plan) : Type 0 where
  pub allowed : input_allowed facilities names changes values initial timescale ≡ true
  pub sizes : Measures (trace_of facilities names changes values initial timescale) r.sizes
  pub bounded : Bounded r.sizes
  pub memory : r.memory ≡ memory_of (names_of (trace_of facilities names changes values initial timescale))
  pub memory_most : r.memory < 4294967296

-- of others it finds nothing
abbrev pub Planned : List (List ℕ) → List ℕ → List (List ℕ) → List ℕ → ℕ → ℤ → Option Plan → Type 0
Planned facilities names changes values initial timescale (Some r) = PlanFound facilities names changes values initial timescale r
Planned facilities names changes values initial timescale None = input_allowed facilities names changes values initial timescale ≡ false

-- ---- the second pass

-- the times of the first and the last change; 0 where there is none
unfoldable pub first_of : List (List ℕ) → ℕ
first_of changes = get_or (get_or changes 0 []) 1 0

unfoldable pub final_of : List (List ℕ) → ℕ
final_of changes = get_or (get_or changes (length changes - 1) []) 1 0

-- names, geometry, sync and the head of the times, one after the other
unfoldable pub tables_bytes : List (List ℕ) → List ℕ → ℕ → List ℕ → ℕ → ℕ → ℕ → List ℕ
tables_bytes rows names memory last entries first final =
    words (length rows ∷ memory ∷ [])
    ++ (names_from [] (names_in names rows)
    ++ (joined geometry_bytes (map (facility_of []) rows) ++ (words last ++ words (entries ∷ first ∷ final ∷ []))))

-- facilities that are allowed, and room for these tables
pub record TablesAsked (rows : List (List ℕ)) (names last out : List ℕ) (p : Places) : Type 0 where
  pub count : length rows ≤ most_facilities
  pub allowed : facilities_allowed names rows ≡ true
  pub geometry : p.geometry ≡ p.names + 8 + length (names_from [] (names_in names rows))
  pub sync : p.sync ≡ p.geometry + 16 * length rows
  pub times : p.times ≡ p.sync + 4 * length last
  pub room : p.times + 12 ≤ length out

-- the sections of one value, END, the section list and the last byte
unfoldable pub end_bytes : ℤ → ℕ → Bool → Places → List ℕ
end_bytes timescale initial real p = values_section timescale initial real ++ tail_of p real

pub record EndAsked (real : Bool) (out : List ℕ) (p : Places) : Type 0 where
  pub sizes : Sizes
  pub real_is : sizes.real ≡ real
  pub bounded : Bounded sizes
  pub places : PlacesFor sizes p
  pub room : p.length ≤ length out

-- an input that is allowed, its sizes, and room for the file
pub record FileAsked (facilities : List (List ℕ)) (names : List ℕ) (changes : List (List ℕ)) (values : List ℕ) (initial : ℕ) (timescale : ℤ) (z : Sizes)
    (memory : ℕ) (out : List ℕ) : Type 0 where
  pub allowed : input_allowed facilities names changes values initial timescale ≡ true
  pub sizes : Measures (trace_of facilities names changes values initial timescale) z
  pub bounded : Bounded z
  pub memory_is : memory ≡ memory_of (names_of (trace_of facilities names changes values initial timescale))
  pub room : (p : Places) → PlacesFor z p → p.length ≤ length out
