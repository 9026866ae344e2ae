-- A written change is read as it was written: its previous change, its end, no fault, clean padding and its value.
use Prim.Native.Nat.{ℕ, ◌+◌, ◌-◌, ◌≤◌, ◌<◌}
use mathlib.Core.Path.{◌≡◌, refl, sym}
use mathlib.Core.Bool.{true}
use mathlib.Core.List.{List, [], ◌∷◌, ◌++◌}
use lib.ListN.{length, length-append}
use lib.Dec.{eqb}
use native.Mathlib.Omega.{arith}
use borrow.Author.Tests.{le-leb, lt-ltb, eqb-true}
use Rattle.lxt_format.specs.BasicsLaws.{on_zero, or_true}
use Rattle.lxt_format.specs.Bytes.{byte_at}
use Rattle.lxt_format.specs.BytesLaws.{AreBytes}
use Rattle.lxt_format.specs.Sections.{end_of}
use Rattle.lxt_format.specs.Reals.{byte_order, is_real}
use Rattle.lxt_format.specs.Changes.{Signal, signal, command_of, delta_of, data_at, previous_of, command_allowed, data_size, data_allowed, clean_at, change_end, previous_allowed, fault_at}
use Rattle.lxt_format.specs.Values.{content_by}
use Rattle.lxt_format.specs.declared.Kind.{Kind}
use Rattle.lxt_format.specs.declared.Kind.TheVariants.{Bits, Integer, Real, Text}
use Rattle.lxt_written.specs.WrittenChanges.{command_for, data_for, change_bytes}
use Rattle.lxt_written.specs.Writing.{value_allowed}
use Rattle.lxt_written.specs.RoundTrip.{value_seen}
use Rattle.lxt_written.specs.Stands.{Stands}
use Rattle.lxt_written.specs.CommandLaws.{value_length, command_holds, held_allowed, length_change}
use Rattle.lxt_round_trip.specs.Steps.{ChangeRead, lowest_first}
use Rattle.lxt_round_trip.proofs.CommandByteLaws.{HeadRead, head_read}
use Rattle.lxt_round_trip.proofs.SymbolReadLaws.{command_read}
use Rattle.lxt_round_trip.proofs.RealReadLaws.{real_read}
use Rattle.lxt_round_trip.proofs.TextReadLaws.{text_length, text_read}

-- ---- the data, by kind

-- what is read of the command and the data of a written change at o
record DataRead (s : List ℕ) (g : Signal) (o size : ℕ) (value : List ℕ) : Type 0 where
  command : command_allowed g.kind (command_of s o) ≡ true
  long : data_size s g o ≡ size
  allowed : data_allowed s g o ≡ true
  clean : clean_at s g o ≡ true
  read : value_seen s (content_by s g.kind g.width o) ≡ value

module _ (s : List ℕ) (C T o delta : ℕ) (width : ℕ) (value : List ℕ) where
  -- bits
  bits_data : value_allowed Bits width value ≡ true → HeadRead s o Bits delta value → DataRead s (signal C T Bits width) o (length (data_for Bits value)) value
  unfolding data_for data_size data_allowed clean_at content_by
  bits_data v h =
      let e = value_length Bits width value refl v in
      let r = command_read Bits width value refl v s o h.command h.stands in
      record {
        command = rw h.command (held_allowed Bits value (command_for Bits value) (command_holds Bits width value refl v));
        long = rw (← e) r.long;
        allowed = rw (← e) r.allowed;
        clean = rw (← e) r.clean;
        read = rw (← e) r.read;
      }

  -- an integer
  integer_data : value_allowed Integer width value ≡ true → HeadRead s o Integer delta value → DataRead s (signal C T Integer width) o (length (data_for Integer value)) value
  unfolding data_for data_size data_allowed clean_at content_by
  integer_data v h =
      let e = value_length Integer width value refl v in
      let r = command_read Integer width value refl v s o h.command h.stands in
      record {
        command = rw h.command (held_allowed Integer value (command_for Integer value) (command_holds Integer width value refl v));
        long = rw (← e) r.long;
        allowed = rw (← e) r.allowed;
        clean = rw (← e) r.clean;
        read = rw (← e) r.read;
      }

  -- a real
  real_data : AreBytes value → value_allowed Real width value ≡ true → byte_order s ≡ lowest_first → HeadRead s o Real delta value
      → DataRead s (signal C T Real width) o (length (data_for Real value)) value
  unfolding data_for data_size data_allowed clean_at content_by command_allowed value_allowed
  real_data bytes v order h =
      let long = eqb-true (length value) 8 v in
      record {
        command = refl;
        long = sym long;
        allowed = refl;
        clean = refl;
        read = real_read s (data_at s o) value bytes long order h.stands;
      }

  -- a text
  text_data : value_allowed Text width value ≡ true → HeadRead s o Text delta value → data_at s o + length (data_for Text value) ≤ T → T ≡ end_of s → T ≤ length s
      → DataRead s (signal C T Text width) o (length (data_for Text value)) value
  unfolding data_for data_size data_allowed clean_at content_by command_allowed value_allowed
  text_data v h inside end in-file =
      let long : length (value ++ (0 ∷ [])) ≡ length value + 1 = length-append value (0 ∷ []) in
      let within : data_at s o + length value + 1 ≤ T = omega arith in
      record {
        command = refl;
        long = rw (text_length s (data_at s o) T value v h.stands within in-file) (sym long);
        allowed = refl;
        clean = refl;
        read = rw (← end) (text_read s (data_at s o) T value v h.stands within in-file);
      }

  -- any kind
  data_read : (kind : Kind) → AreBytes value → value_allowed kind width value ≡ true → (is_real kind ≡ true → byte_order s ≡ lowest_first)
      → HeadRead s o kind delta value → data_at s o + length (data_for kind value) ≤ T → T ≡ end_of s → T ≤ length s
      → DataRead s (signal C T kind width) o (length (data_for kind value)) value
  unfolding is_real
  data_read Bits bytes v order h inside end in-file = bits_data v h
  data_read Integer bytes v order h inside end in-file = integer_data v h
  data_read Real bytes v order h inside end in-file = real_data bytes v (order refl) h
  data_read Text bytes v order h inside end in-file = text_data v h inside end in-file

-- ---- the change

-- a change that keeps every rule has no fault
no_fault : (s : List ℕ) (g : Signal) (o : ℕ) → g.from ≤ o → o < g.end → byte_at s o < 64 → command_allowed g.kind (command_of s o) ≡ true
    → change_end s g o ≤ g.end → data_allowed s g o ≡ true → previous_allowed s g.from o ≡ true → fault_at s g o ≡ 0
unfolding fault_at
no_fault s g o from before top command ends allowed previous =
    rw (le-leb g.from o from, lt-ltb o g.end before, lt-ltb (byte_at s o) 64 top, command, le-leb (change_end s g o) g.end ends, allowed, previous)

-- the previous change lies below, at C or above, or there is none
previous_there : (s : List ℕ) (C o prev : ℕ) → previous_of s o ≡ prev → delta_of s o + 2 ≤ o → (0 < prev → C ≤ prev) → previous_allowed s C o ≡ true
unfolding previous_allowed
previous_there s C o prev e l linked =
    rw (le-leb (delta_of s o + 2) o l, e) (on_zero prev (λ z. rw z) (λ p. or_true (eqb prev 0) (le-leb C prev (linked p))))

-- a written change is read as it was written
pub change_read : (s : List ℕ) (C T prev o : ℕ) (kind : Kind) (width : ℕ) (value : List ℕ)
    → AreBytes value → value_allowed kind width value ≡ true → (is_real kind ≡ true → byte_order s ≡ lowest_first)
    → Stands s o (change_bytes kind (o - prev - 2) value) → o + length (change_bytes kind (o - prev - 2) value) ≤ T → T ≡ end_of s → T ≤ length s
    → C ≤ o → prev + 2 ≤ o → (0 < prev → C ≤ prev) → o < 4294967296
    → ChangeRead s (signal C T kind width) prev o (change_bytes kind (o - prev - 2) value) value
unfolding change_end previous_of
change_read s C T prev o kind width value bytes v order there inside end in-file from before linked small =
    let delta : ℕ = o - prev - 2 in
    let g : Signal = signal C T kind width in
    let h = head_read s o kind delta value there (omega arith) in
    let size = length_change kind delta value in
    let at = h.at in
    let r = data_read s C T o delta width value kind bytes v order h (omega arith) end in-file in
    let is = h.delta_is in
    let previous : previous_of s o ≡ prev = rw is (omega arith) in
    let ends : change_end s g o ≡ o + length (change_bytes kind delta value) = rw r.long (omega arith) in
    record {
      previous = previous;
      end = ends;
      fault = no_fault s g o from (omega arith) h.top r.command (rw ends inside) r.allowed (previous_there s C o prev previous (omega arith) linked);
      clean = r.clean;
      read = r.read;
    }
