-- The answers of the C functions: 0 or the refusal's number, and the numbers of an answer.
use Rattle.std.specs.Prelude.{ℕ, Bool, List, [], ◌∷◌, ℤ, if◌then◌else◌}
use Rattle.lxt_format.specs.Basics.{Answer, given, refused}
use Rattle.lxt_format.specs.Values.{TextSource, in_file, lent_text, other_kind}
use Rattle.lxt_format.specs.Answers.{Shown, bits_of, real_of, text_of, nothing, Timed, LookedUp}
use Rattle.lxt_format.specs.declared.Summary.{Summary}
use Rattle.lxt_format.specs.declared.Facts.{Facts}
use Rattle.lxt_format.specs.declared.Kind.{Kind}
use Rattle.lxt_format.specs.declared.Kind.TheVariants.{Bits, Integer, Real, Text}

abbrev pub number_of : {A : Type 0} → Answer A → ℕ
number_of (given a) = 0
number_of (refused k) = k

-- yes and no as numbers
abbrev pub yes_no : Bool → ℕ
yes_no b = if b then 1 else 0

-- n, C, T, the initial symbol's code and whether all padding was clean; what was there where judging refused
abbrev pub judge_numbers : Answer Summary → List ℕ → List ℕ
judge_numbers (given a) before = a.facilities ∷ a.changes ∷ a.end ∷ a.initial ∷ yes_no a.clean ∷ []
judge_numbers (refused k) before = before

abbrev pub judge_timescale : Answer Summary → ℤ → ℤ
judge_timescale (given a) before = a.timescale
judge_timescale (refused k) before = before

-- kinds by number: 0 bits, 1 integer, 2 real, 3 text
abbrev pub kind_number : Kind → ℕ
kind_number Bits = 0
kind_number Integer = 1
kind_number Real = 2
kind_number Text = 3

-- the width and the kind of a facility, its msb and its lsb; what was there where the question is refused
abbrev pub facts_numbers : Answer Facts → List ℕ → List ℕ
facts_numbers (given a) before = a.width ∷ kind_number a.kind ∷ []
facts_numbers (refused k) before = before

abbrev pub facts_msb : Answer Facts → ℤ → ℤ
facts_msb (given a) before = a.msb
facts_msb (refused k) before = before

abbrev pub facts_lsb : Answer Facts → ℤ → ℤ
facts_lsb (given a) before = a.lsb
facts_lsb (refused k) before = before

-- an answer that is one number
abbrev pub one_number : {A : Type 0} → Answer A → A → A
one_number (given a) before = a
one_number (refused k) before = before

-- a value as three numbers: what it is, and its width, its 64 bits, or its start and length
abbrev pub shown_numbers : Shown → List ℕ
shown_numbers (bits_of width) = 0 ∷ width ∷ 0 ∷ []
shown_numbers (real_of x b) = 1 ∷ b ∷ 0 ∷ []
shown_numbers (text_of start size) = 2 ∷ start ∷ size ∷ []
shown_numbers nothing = 3 ∷ 0 ∷ 0 ∷ []

abbrev pub value_numbers : Answer Shown → List ℕ → List ℕ
value_numbers (given a) before = shown_numbers a
value_numbers (refused k) before = before

-- what is answered beside a value; what was there where the question is refused
abbrev pub beside_value : {A : Type 0} → Answer Shown → A → A → A
beside_value (given v) x before = x
beside_value (refused k) x before = before

-- a change's time, and whether its padding was clean
abbrev pub change_time : Timed → ℤ → ℤ
change_time a before = beside_value a.value a.time before

abbrev pub change_clean : Timed → ℕ → ℕ
change_clean a before = beside_value a.value (yes_no a.clean) before

-- how many changes a lookup visited
abbrev pub lookup_visited : LookedUp → ℕ → ℕ
lookup_visited a before = beside_value a.value a.visited before

-- a text as three numbers: which of the two, and its start and length there; what was there where the question is refused
abbrev pub source_numbers : TextSource → List ℕ
source_numbers (in_file start size) = 0 ∷ start ∷ size ∷ []
source_numbers (lent_text size) = 1 ∷ 0 ∷ size ∷ []
source_numbers other_kind = 2 ∷ 0 ∷ 0 ∷ []

abbrev pub text_numbers : Answer TextSource → List ℕ → List ℕ
text_numbers (given a) before = source_numbers a
text_numbers (refused k) before = before

-- carrying on: how many pairs were handed out, and whether all pending offsets are 0; what was there where it is refused
abbrev pub carry_numbers : Answer (ℕ × Bool) → List ℕ → List ℕ
carry_numbers (given a) before = a.0 ∷ yes_no a.1 ∷ []
carry_numbers (refused k) before = before
