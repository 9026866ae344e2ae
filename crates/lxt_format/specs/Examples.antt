-- Paper 01, "A whole small trace, and its neighbours": P1 to P12, as one table under one statement.
use Rattle.std.specs.Prelude.{ℕ, ◌≡◌, refl, true, List, [], ◌∷◌, ◌++◌, map, set, replicate, pos, negsuc}
use Rattle.std.proofs.Math.Option.{some}
use Rattle.lxt_format.specs.Basics.{given}
use Rattle.lxt_format.specs.Names.{names_in, name_of}
use Rattle.lxt_format.specs.Changes.{previous_of, unpack}
use Rattle.lxt_format.specs.Values.{symbol_of}
use Rattle.lxt_format.specs.Judge.{judge, file_refusal, chains_refusal}
use Rattle.lxt_format.specs.Walk.{full_list}
use Rattle.lxt_format.specs.Questions.{facts_asked, value_buffer, start_record, carry_asked, carry_output}
use Rattle.lxt_format.specs.Everything.{everything}
use Rattle.lxt_format.specs.Traces.{spelled, with32, trace, sync_entry, facilities_named}
use Rattle.lxt_format.specs.declared.Pair.{Pair}
use Rattle.lxt_format.specs.declared.Kind.TheVariants.{Bits}

-- a row of a table: its number, what the definitions give, and what it is to be
pub data Row : Type 1 where
  row : ℕ → {A : Type 0} → A → A → Row

-- the two are the same in every row
abbrev pub Holds : List Row → Type 0
Holds [] = Unit {0}
Holds (row k x y ∷ rows) = (x ≡ y) × Holds rows

abbrev pub pair : ℕ → ℕ → Pair
pair f o = record { number = f; offset = o }

-- byte 7 of the small trace, the delta of the change at 6, made b
abbrev delta : ℕ → List ℕ
delta b = set trace 7 b

-- the record that a start leaves where facility 0 is asked for
abbrev started : List Pair
started = start_record trace (1 ∷ []) (pair 0 0 ∷ [])

-- the four names of P11, each as its prefix length, its suffix and a zero
abbrev four_names : List ℕ
four_names = spelled 8 0x0000616C70686100 ++ spelled 7 0x000170706C6500 ++ spelled 10 0x000469636174696F6E00 ++ spelled 7 0x00007A65726F00

-- "alpha", then a name that takes k bytes of it
abbrev after_alpha : ℕ → List ℕ
after_alpha k = spelled 8 0x0000616C70686100 ++ spelled 2 k ++ spelled 1 0

abbrev alpha : List ℕ
alpha = spelled 5 0x616C706861

pub table : List Row
table =
    row 1 (judge trace) (given (record { facilities = 1; changes = 4; end = 68; timescale = negsuc 8; initial = 3; clean = true }))
    ∷ row 1 (name_of trace 0) (spelled 1 0x61)
    ∷ row 1 (facts_asked trace 0) (given (record { width = 1; msb = pos 0; lsb = pos 0; kind = Bits }))
    ∷ row 2 (carry_asked trace started 9 18) (given (2, true))
    ∷ row 2 (carry_output trace started 9 (replicate 18 0xFF)) (0 ∷ 6 ∷ 0 ∷ 4 ∷ replicate 14 0xFF)
    ∷ row 2 (full_list trace (1 ∷ [])) (pair 0 6 ∷ pair 0 4 ∷ [])
    ∷ row 3 (value_buffer trace 0 (pos 0) (0xFF ∷ [])) (0x31 ∷ [])
    ∷ row 3 (value_buffer trace 0 (pos 4) (0xFF ∷ [])) (0x31 ∷ [])
    ∷ row 3 (value_buffer trace 0 (pos 5) (0xFF ∷ [])) (0x30 ∷ [])
    ∷ row 4 (file_refusal (delta 0x04)) 0
    ∷ row 4 (full_list (delta 0x04) (1 ∷ [])) (pair 0 6 ∷ [])
    ∷ row 5 (file_refusal (delta 0x01)) 15
    ∷ row 6 (file_refusal (delta 0x05)) 15
    ∷ row 7 (file_refusal (with32 trace sync_entry 7)) 17
    ∷ row 7 (chains_refusal (with32 trace sync_entry 7)) 0
    ∷ row 7 (full_list (with32 trace sync_entry 7) (1 ∷ [])) (pair 0 7 ∷ pair 0 5 ∷ [])
    ∷ row 8 (file_refusal (spelled 6 0x0138000400B4)) 7
    ∷ row 9 (previous_of (replicate 0x1000 0 ++ spelled 3 0x100210) 0x1000) 0x0DEE
    ∷ row 10 (map symbol_of (unpack 1 11 (spelled 2 0xFE60))) (spelled 11 0x3131313131313130303131)
    ∷ row 10 (map symbol_of (unpack 2 3 (spelled 1 0xB4))) (spelled 3 0x5A5831)
    ∷ row 11 (names_in 4 four_names []) (some (alpha ∷ spelled 5 0x6170706C65 ∷ spelled 11 0x6170706C69636174696F6E ∷ spelled 4 0x7A65726F ∷ []))
    ∷ row 11 (file_refusal (facilities_named 4 29 four_names)) 0
    ∷ row 11 (file_refusal (facilities_named 4 28 four_names)) 10
    ∷ row 12 (names_in 2 (after_alpha 5) []) (some (alpha ∷ alpha ∷ []))
    ∷ row 12 (file_refusal (facilities_named 2 12 (after_alpha 5))) 0
    ∷ row 12 (file_refusal (facilities_named 2 12 (after_alpha 6))) 10
    ∷ []

-- a pair for each row, so that an error names the row and both values
pub examples : Holds table
unfolding everything trace spelled table
examples =
    (refl, (refl, (refl, (refl, (refl, (refl, (refl, (refl, (refl, (refl, (refl, (refl, (refl, (refl, (refl, (refl, (refl, (refl, (refl, (refl, (refl, (refl, (refl, (refl, (refl, (refl, tt))))))))))))))))))))))))))
