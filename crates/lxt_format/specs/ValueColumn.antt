-- Paper 02, Ask 4: the values of many facilities at one time. The claims on that question, and its examples.
use Rattle.std.specs.Prelude.{ℕ, ◌+◌, ◌≤◌, ◌<◌, ◌≡◌, refl, List, [], ◌∷◌, ◌++◌, length, get_or, take, replicate, ℤ, pos, negsuc}
use Rattle.std.proofs.Math.Seq.{slice}
use Rattle.lxt_format.specs.Limits.{least_time, greatest_time}
use Rattle.lxt_format.specs.Basics.{Answer, given, refused, total}
use Rattle.lxt_format.specs.Geometry.{facts_of}
use Rattle.lxt_format.specs.Values.{TextSource}
use Rattle.lxt_format.specs.Answers.{Shown, bits_of, real_of, text_of, nothing}
use Rattle.lxt_format.specs.Questions.{value_asked, value_buffer, text_asked, widths_of, column_refusal, column_bits, record_by, column_asked, column_buffer, column_output}
use Rattle.lxt_format.specs.Everything.{everything}
use Rattle.lxt_format.specs.Traces.{spelled, facilities_named, requested}
use Rattle.lxt_format.specs.Examples.{Row, row, Holds}
use Rattle.lxt_format.specs.WideTimes as Wide
use Rattle.lxt_format.specs.WideTimes.{long_tabled_as}
use Rattle.lxt_format.specs.LentText.{texts}

-- ---- "The result equals asking one by one.": claims, proved in ValueColumnLaws

-- how many symbols a value has written
unfoldable pub symbols_in : Shown → ℕ
symbols_in (bits_of width) = width
symbols_in (real_of x b) = 0
symbols_in (text_of start size) = 0
symbols_in nothing = 0

-- where the bits of item i start: behind those of the items before it
abbrev pub start_at : List ℕ → ℤ → List ℕ → ℕ → ℕ
start_at s t asked i = length (column_bits s t (take i asked))

-- item i of a column, and the two questions about its number alone: the value at a time, lent a buffer of its own, and the text with the lent text
pub record Alone (s : List ℕ) (t : ℤ) (asked : List ℕ) (lent : ℕ) (bits : List ℕ) (records : List (List ℕ)) (i : ℕ) (buffer : List ℕ) : Type 0 where
  -- both are answered
  pub value : Shown
  pub value_is : (value_asked s (get_or asked i 0) t (length buffer)).value ≡ given value
  pub source : TextSource
  pub source_is : text_asked s (get_or asked i 0) t lent ≡ given source
  -- the record says where the text stands, of a text, and else the value
  pub record_is : get_or (column_output s t asked lent (length bits) records) i [] ≡ record_by (start_at s t asked i) value source
  -- and the bits are those that the value at a time writes
  pub bits_are : slice (start_at s t asked i) (start_at s t asked i + symbols_in value) (column_buffer s t asked bits (length records))
      ≡ take (symbols_in value) (value_buffer s (get_or asked i 0) t buffer)

-- each item of a column that is not refused, whatever buffer with room for it the question alone is lent
abbrev pub OneByOne : Type 0
OneByOne =
    (s : List ℕ) (t : ℤ) (asked : List ℕ) (lent : ℕ) (bits : List ℕ) (records : List (List ℕ)) → column_refusal s asked (length bits) (length records) ≡ 0
    → (i : ℕ) → i < length asked → (buffer : List ℕ) → (facts_of s (get_or asked i 0)).width ≤ length buffer → Alone s t asked lent bits records i buffer

-- the answer is the sum of what the value at a time answers for each, repeats each time
abbrev pub OneSum : Type 0
OneSum =
    (s : List ℕ) (t : ℤ) (asked : List ℕ) (room records : ℕ) → column_refusal s asked room records ≡ 0
    → column_asked s t asked room records ≡ given (total (λ f. (value_asked s f t (facts_of s f).width).visited) asked)

-- there are as many bits as the widths say, so that a column which is not refused stays within what was lent; proved in lxt_column
abbrev pub ExactRoom : Type 0
ExactRoom =
    (s : List ℕ) (t : ℤ) (asked : List ℕ) (room records : ℕ) → column_refusal s asked room records ≡ 0
    → (length (column_bits s t asked) ≡ widths_of s asked) × (widths_of s asked ≤ room)

-- ---- examples

-- the answer, the bits and the records, of a buffer of so many bytes and so many records lent
abbrev said : List ℕ → ℤ → List ℕ → ℕ → ℕ → ℕ → Answer ℕ × (List ℕ × List (List ℕ))
said s t asked lent room records =
    (column_asked s t asked room records, (column_buffer s t asked (replicate room 0x23) records, column_output s t asked lent room (replicate records [])))

-- refused: nothing lent has changed
abbrev no : ℕ → ℕ → ℕ → Answer ℕ × (List ℕ × List (List ℕ))
no number room records = (refused number, (replicate room 0x23, replicate records []))

-- records: bits, a real by its 64 bits, a text in the file, the lent text, not driven
abbrev bits_at : ℕ → ℕ → List ℕ
bits_at start width = 0 ∷ start ∷ width ∷ 0 ∷ []

abbrev real : ℕ → List ℕ
real b = 1 ∷ 0 ∷ 0 ∷ b ∷ []

abbrev in_file : ℕ → ℕ → List ℕ
in_file start size = 2 ∷ start ∷ size ∷ 0 ∷ []

abbrev lent_text : ℕ → List ℕ
lent_text size = 4 ∷ 0 ∷ size ∷ 0 ∷ []

abbrev not_driven : List ℕ
not_driven = 3 ∷ 0 ∷ 0 ∷ 0 ∷ []

-- 1.5
abbrev one_and_a_half : List ℕ
one_and_a_half = real 0x3FF8000000000000

pub columns : List Row
columns =
    -- the worked examples 4-A to 4-J of Ask 4, with a lent text of 4 bytes: the text of 4-C is that. # is 23
    row 1 (said requested (pos 25) (0 ∷ 3 ∷ 1 ∷ 2 ∷ 0 ∷ []) 4 10 6)
    (given 8, (spelled 10 0x30313130313130313123, bits_at 0 3 ∷ bits_at 3 3 ∷ one_and_a_half ∷ in_file 9 2 ∷ bits_at 6 3 ∷ [] ∷ []))
    ∷ row 2 (said requested (pos 9) (4 ∷ 0 ∷ []) 4 35 2) (given 2, (replicate 35 0x5A, bits_at 0 32 ∷ bits_at 32 3 ∷ []))
    ∷ row 3 (said requested (pos 9) (1 ∷ 2 ∷ []) 4 0 2) (given 2, ([], not_driven ∷ lent_text 4 ∷ []))
    ∷ row 4 (said requested (pos 9) [] 4 0 0) (given 0, ([], []))
    ∷ row 5 (said requested (pos 25) (0 ∷ 5 ∷ []) 4 0 0) (no 18 0 0)
    ∷ row 6 (said requested (pos 25) (0 ∷ 0 ∷ []) 4 5 2) (no 21 5 2)
    ∷ row 7 (said requested (pos 25) (0 ∷ 0 ∷ []) 4 6 1) (no 21 6 1)
    ∷ row 8 (said requested (pos 25) (replicate 4097 0) 4 0 0) (no 35 0 0)
    ∷ row 9 (said requested (pos 25) (replicate 4097 9) 4 0 0) (no 35 0 0)
    ∷ row 10 (said requested (pos 25) (replicate 4096 9) 4 0 0) (no 18 0 0)
    -- 11-A and 11-B
    ∷ row 11 (said requested (pos 9) (2 ∷ 1 ∷ 0 ∷ 2 ∷ []) 4 3 4) (given 5, (spelled 3 0x5A5A5A, lent_text 4 ∷ not_driven ∷ bits_at 0 3 ∷ lent_text 4 ∷ []))
    ∷ row 12 (said requested (pos 20) (2 ∷ 1 ∷ 2 ∷ []) 4 0 3) (given 3, ([], in_file 9 2 ∷ one_and_a_half ∷ in_file 9 2 ∷ []))
    -- exactly enough room of both, and one short of both; a wrong number at each place of three, before any room is looked at
    ∷ row 13 (said requested (pos 30) (3 ∷ 0 ∷ []) 4 6 2) (given 2, (spelled 6 0x5A58315A5831, bits_at 0 3 ∷ bits_at 3 3 ∷ []))
    ∷ row 13 (said requested (pos 30) (3 ∷ 0 ∷ []) 4 5 1) (no 21 5 1)
    ∷ row 14 (said requested (pos 25) (5 ∷ 0 ∷ 0 ∷ []) 4 0 0) (no 18 0 0)
    ∷ row 14 (said requested (pos 25) (0 ∷ 5 ∷ 0 ∷ []) 4 6 3) (no 18 6 3)
    ∷ row 14 (said requested (pos 25) (0 ∷ 0 ∷ 5 ∷ []) 4 9 3) (no 18 9 3)
    ∷ []

-- times at the ends of the range, other traces, a refused file
pub other_columns : List Row
other_columns =
    row 15 (said requested least_time (2 ∷ 0 ∷ []) 0 3 2) (given 3, (spelled 3 0x5A5A5A, lent_text 0 ∷ bits_at 0 3 ∷ []))
    ∷ row 15 (said requested greatest_time (1 ∷ 0 ∷ []) 0 3 2) (given 2, (spelled 3 0x5A5831, one_and_a_half ∷ bits_at 0 3 ∷ []))
    -- a driven text that is empty, also by an alias, and a text without any change
    ∷ row 16 (said texts (pos 10) (0 ∷ 1 ∷ 2 ∷ []) 4 0 3) (given 4, ([], in_file 6 0 ∷ in_file 6 0 ∷ lent_text 4 ∷ []))
    -- changes at -5 and 5, in 1-A
    ∷ row 17 (said Wide.example_a (negsuc 5) (0 ∷ 0 ∷ []) 0 2 2).0 (given 4)
    ∷ row 17 (said Wide.example_a (negsuc 4) (0 ∷ 0 ∷ []) 0 2 2).0 (given 4)
    ∷ row 17 (said Wide.example_a (pos 5) (0 ∷ 0 ∷ []) 0 2 2).0 (given 2)
    -- no facilities: an empty list is answered, and any number is wrong
    ∷ row 18 (said (facilities_named 0 0 []) (pos 0) [] 4 1 1) (given 0, (0x23 ∷ [], [] ∷ []))
    ∷ row 18 (said (facilities_named 0 0 []) (pos 0) (0 ∷ []) 4 1 1) (no 18 1 1)
    -- a refused file, before 35
    ∷ row 19 (said (requested ++ spelled 1 0x00) (pos 25) (replicate 4097 9) 4 1 1) (no 3 1 1)
    ∷ []

pub columns_hold : Holds columns
unfolding everything requested spelled columns
columns_hold =
    (refl, (refl, (refl, (refl, (refl, (refl, (refl, (refl, (refl, (refl, (refl, (refl, (refl, (refl, (refl, (refl, (refl, tt)))))))))))))))))

pub other_columns_hold : Holds other_columns
unfolding everything requested spelled texts long_tabled_as other_columns
other_columns_hold = (refl, (refl, (refl, (refl, (refl, (refl, (refl, (refl, (refl, tt)))))))))
