-- The number and the values of paper 01 that each case of an answer stands for. The promises of the public calls use these.
use Rattle.std.specs.Prelude.{ℕ, Bool, false, length, ℤ, pos, Float, Result, Ok, Err}
use Rattle.lxt_format.specs.Basics.{Answer, given, refused}
use Rattle.lxt_format.specs.Values.{Content, bits, real, text, not_driven, TextSource, in_file, lent_text, other_kind}
use Rattle.lxt_format.specs.declared.Kind.{Kind}
use Rattle.lxt_format.specs.declared.Kind.TheVariants.{Bits, Integer, Real, Text}
use Rattle.lxt_format.specs.declared.Value.{Value}
use Rattle.lxt_format.specs.declared.Value.TheVariants as ofValue
use Rattle.lxt_format.specs.declared.TimedValue.{TimedValue}
use Rattle.lxt_format.specs.declared.Lookup.{Lookup}
use Rattle.lxt_format.specs.declared.TextPlace.{TextPlace}
use Rattle.lxt_format.specs.declared.TextPlace.TheVariants as ofText
use Rattle.lxt_format.specs.declared.Handed.{Handed}
use Rattle.lxt_format.specs.declared.refusal.Refusal.{Refusal}
use Rattle.lxt_format.specs.declared.refusal.Refusal.TheVariants as ofRefusal

-- "Refusal numbers"
abbrev pub refusal_number : Refusal → ℕ
refusal_number ofRefusal.Length = 1
refusal_number ofRefusal.Header = 2
refusal_number ofRefusal.LastByte = 3
refusal_number ofRefusal.SectionList = 4
refusal_number ofRefusal.Compressed = 5
refusal_number ofRefusal.TwoTimeTables = 6
refusal_number ofRefusal.SectionAbsent = 7
refusal_number ofRefusal.SectionOutside = 8
refusal_number ofRefusal.TooManyFacilities = 9
refusal_number ofRefusal.Names = 10
refusal_number ofRefusal.Geometry = 11
refusal_number ofRefusal.Aliases = 12
refusal_number ofRefusal.Times = 13
refusal_number ofRefusal.RealTest = 14
refusal_number ofRefusal.ChangeOutside = 15
refusal_number ofRefusal.ChangeContent = 16
refusal_number ofRefusal.SharedByte = 17
refusal_number ofRefusal.Facility = 18
refusal_number ofRefusal.Offset = 19
refusal_number ofRefusal.Record = 20
refusal_number ofRefusal.Room = 21
refusal_number ofRefusal.AskedBytes = 22
refusal_number ofRefusal.Input = 24
refusal_number ofRefusal.FileRoom = 25
refusal_number ofRefusal.ColumnLength = 35

-- what is given, or the refusal by its number
abbrev pub says : {A : Type 0} → Result A Refusal → Answer A
says (Ok a) = given a
says (Err r) = refused (refusal_number r)

-- kinds by number
unfoldable pub kind_number : Kind → ℕ
kind_number Bits = 0
kind_number Integer = 1
kind_number Real = 2
kind_number Text = 3

-- What is answered of a value: of bits the width, since their symbols stand in the lent buffer
pub data Shown : Type 0 where
  bits_of : ℕ → Shown
  real_of : Float → ℕ → Shown
  text_of : ℕ → ℕ → Shown
  nothing : Shown

abbrev pub shown : Content → Shown
shown (bits symbols) = bits_of (length symbols)
shown (real x b) = real_of x b
shown (text start size) = text_of start size
shown not_driven = nothing

abbrev pub value_shown : Value → Shown
value_shown (ofValue.Bits width) = bits_of width
value_shown (ofValue.Real x b) = real_of x b
value_shown (ofValue.Text start size) = text_of start size
value_shown ofValue.NotDriven = nothing

-- what is answered of a change: its time, its value, and whether its padding was clean; where it is refused, 0 and no
pub record Timed : Type 0 where
  pub time : ℤ
  pub value : Answer Shown
  pub clean : Bool

abbrev pub timed_says : Result TimedValue Refusal → Timed
timed_says (Ok t) = record { time = t.time; value = given (value_shown t.value); clean = t.clean }
timed_says (Err r) = record { time = pos 0; value = refused (refusal_number r); clean = false }

-- what is answered of a value at a time: the value, and how many changes were visited; where it is refused, 0
pub record LookedUp : Type 0 where
  pub value : Answer Shown
  pub visited : ℕ

abbrev pub lookup_says : Result Lookup Refusal → LookedUp
lookup_says (Ok l) = record { value = given (value_shown l.value); visited = l.visited }
lookup_says (Err r) = record { value = refused (refusal_number r); visited = 0 }

-- where a text stands: in the file, or the lent one
abbrev pub text_says : Result TextPlace Refusal → Answer TextSource
text_says (Ok (ofText.File start size)) = given (in_file start size)
text_says (Ok (ofText.Lent size)) = given (lent_text size)
text_says (Ok ofText.OtherKind) = given other_kind
text_says (Err r) = refused (refusal_number r)

-- how many pairs were handed out, and whether all pending offsets are 0
abbrev pub carry_says : Result Handed Refusal → Answer (ℕ × Bool)
carry_says (Ok h) = given (h.count, h.done)
carry_says (Err r) = refused (refusal_number r)
