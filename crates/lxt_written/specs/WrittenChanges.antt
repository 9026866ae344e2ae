-- Paper 02, Ask 5: the bytes of the changes that are written.
use Rattle.std.specs.Prelude.{ℕ, zero, suc, ◌+◌, ◌*◌, ◌-◌, ◌/◌, ◌%◌, ◌^◌, Bool, ◌&&◌, List, [], ◌∷◌, ◌++◌, map, length, get_or, drop, ltb, eqb, if◌then◌else◌}
use Rattle.lxt_format.specs.Basics.{range, all, select, joined}
use Rattle.lxt_format.specs.Reals.{place_of}
use Rattle.lxt_format.specs.Changes.{command_allowed, symbol_size, packed_size}
use Rattle.lxt_format.specs.Values.{symbols, symbol_of}
use Rattle.lxt_format.specs.declared.Kind.{Kind}
use Rattle.lxt_format.specs.declared.Kind.TheVariants.{Bits, Integer, Real, Text}
use Rattle.lxt_format.specs.declared.Pair.{Pair}
use Rattle.lxt_written.specs.Input.{Facility, Change, Trace}

-- ---- numbers

-- "All integers are big-endian." x in k bytes
unfoldable pub big_endian : ℕ → ℕ → List ℕ
big_endian zero x = []
big_endian (suc k) x = x / 256 ^ k % 256 ∷ big_endian k x

-- ---- the data of a change

-- the code of a symbol: its place among 0 1 Z X H U W L -
unfoldable pub code_of : ℕ → ℕ
code_of symbol = place_of symbol symbols

-- whether a command of a facility of this kind "can hold the value": each symbol is the command's, or its code fits the command's bits
unfoldable pub can_hold : Kind → List ℕ → ℕ → Bool
can_hold kind value c =
    command_allowed kind c
    && (if eqb (symbol_size c) 0 then all (λ b. eqb b (symbol_of (c - 3))) value
    else all (λ b. ltb (code_of b) (2 ^ symbol_size c)) value)

-- of rising numbers, the lowest among those of the least size
unfoldable pub lowest_of_least : (ℕ → ℕ) → ℕ → List ℕ → ℕ
lowest_of_least size best [] = best
lowest_of_least size best (c ∷ cs) = lowest_of_least size (if ltb (size c) (size best) then c else best) cs

-- the same of a list, 0 where it is empty
unfoldable pub least : (ℕ → ℕ) → List ℕ → ℕ
least size [] = 0
least size (c ∷ cs) = lowest_of_least size c cs

-- "the lowest command number among those with the fewest data bytes that can hold the value"; "reals and texts under command 0"
unfoldable pub command_for : Kind → List ℕ → ℕ
command_for Bits value = least (λ c. packed_size (symbol_size c) (length value)) (select (can_hold Bits value) (range 0 12))
command_for Integer value = least (λ c. packed_size (symbol_size c) (length value)) (select (can_hold Integer value) (range 0 12))
command_for Real value = 0
command_for Text value = 0

-- "Symbols are packed from the top bit": the number of k codes of b bits, the first highest; past their end a code counts as 0
unfoldable pub packed_codes : ℕ → ℕ → List ℕ → ℕ
packed_codes b zero codes = 0
packed_codes b (suc k) codes = get_or codes 0 0 * 2 ^ (b * k) + packed_codes b k (drop 1 codes)

-- "data fills whole bytes, and unused bits are 0": n bytes, of which each holds 8 / b codes
unfoldable pub pack : ℕ → ℕ → List ℕ → List ℕ
pack b zero codes = []
pack b (suc n) codes = packed_codes b (8 / b) codes ∷ pack b n (drop (8 / b) codes)

-- symbols under a command
unfoldable pub packed_symbols : ℕ → List ℕ → List ℕ
packed_symbols c value = pack (symbol_size c) (packed_size (symbol_size c) (length value)) (map code_of value)

-- "reals go lowest byte first", as they are given; a text has "bytes up to and with a zero"
unfoldable pub data_for : Kind → List ℕ → List ℕ
data_for Bits value = packed_symbols (command_for Bits value) value
data_for Integer value = packed_symbols (command_for Integer value) value
data_for Real value = value
data_for Text value = value ++ (0 ∷ [])

-- ---- one change

-- "each takes the fewest delta bytes", of 1 to 4
unfoldable pub fewest_bytes : ℕ → ℕ
fewest_bytes delta = if ltb delta (256 ^ 1) then 1 else if ltb delta (256 ^ 2) then 2 else if ltb delta (256 ^ 3) then 3 else 4

-- "a command byte, k delta bytes, data .. bits 5 and 4 hold k - 1; bits 3 to 0 the command"
unfoldable pub change_bytes : Kind → ℕ → List ℕ → List ℕ
change_bytes kind delta value =
    (16 * (fewest_bytes delta - 1) + command_for kind value) ∷ (big_endian (fewest_bytes delta) delta ++ data_for kind value)

-- ---- all changes

-- a facility by its number
abbrev pub no_facility : Facility
no_facility = record { name = []; kind = Bits; msb = 0; lsb = 0 }

abbrev pub numbered : List Facility → ℕ → Facility
numbered facilities f = get_or facilities f no_facility

-- the newest change of facility f among those before, which stand newest first; 0 where there is none
unfoldable pub last_of : ℕ → List Pair → ℕ
last_of f [] = 0
last_of f (p ∷ before) = if eqb p.number f then p.offset else last_of f before

-- "The previous change is at o - delta - 2", which gives the delta of a change of facility f at o
abbrev pub delta_to : ℕ → ℕ → List Pair → ℕ
delta_to f o before = o - last_of f before - 2

-- a change with its offset and its bytes
pub record Laid : Type 0 where
  pub facility : ℕ
  pub time : ℕ
  pub offset : ℕ
  pub bytes : List ℕ

abbrev pub pair_of : Laid → Pair
pair_of l = record { number = l.facility; offset = l.offset }

-- a change laid at o, after those before
unfoldable pub lay_at : List Facility → ℕ → List Pair → Change → Laid
lay_at facilities o before c =
    record {
      facility = c.facility;
      time = c.time;
      offset = o;
      bytes = change_bytes (numbered facilities c.facility).kind (delta_to c.facility o before) c.value;
    }

-- changes one after the other, the first at o
unfoldable pub lay_from : List Facility → ℕ → List Pair → List Change → List Laid
lay_from facilities o before [] = []
lay_from facilities o before (c ∷ cs) =
    lay_at facilities o before c
    ∷ lay_from facilities (o + length (lay_at facilities o before c).bytes) (pair_of (lay_at facilities o before c) ∷ before) cs

-- "Changes start at 4"
unfoldable pub laid : Trace → List Laid
laid t = lay_from t.facilities 4 [] t.changes

unfoldable pub changes_bytes : Trace → List ℕ
changes_bytes t = joined (λ l. l.bytes) (laid t)
