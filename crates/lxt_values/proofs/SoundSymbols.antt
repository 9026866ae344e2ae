-- A change of bits or of an integer that breaks no rule has symbols that can be written.
use Prim.Native.Nat.{ℕ, ◌≤◌}
use mathlib.Core.Path.{◌≡◌}
use mathlib.Core.Bool.{true, ◌||◌, false≢true}
use mathlib.Core.List.{List}
use lib.ListN.{length}
use lib.Dec.{eqb}
use native.Mathlib.Omega.{arith}
use borrow.Author.Tests.{leb-true, eqb-true}
use Rattle.lxt_format.specs.BasicsLaws.{or_either}
use Rattle.lxt_format.specs.Changes.{signal, command_allowed, data_size, change_end}
use Rattle.lxt_format.specs.Changes.{Sound}
use Rattle.lxt_format.specs.declared.Kind.{Kind}
use Rattle.lxt_format.specs.declared.Kind.TheVariants.{Bits, Integer, Real, Text}
use Rattle.lxt_changes.specs.Faults.{symbolic}
use Rattle.lxt_values.specs.Symbols.{Drawn}

-- the commands of an integer are commands of bits
integer_command : (c : ℕ) → command_allowed Integer c ≡ true → c ≤ 0xB
unfolding command_allowed
integer_command c h =
    or_either (eqb c 0) (eqb c 3 || eqb c 4) h (λ e. let q = eqb-true c 0 e in omega arith)
    (λ g. or_either (eqb c 3) (eqb c 4) g (λ e. let q = eqb-true c 3 e in omega arith) (λ e. let q = eqb-true c 4 e in omega arith))

-- a sound change whose kind has symbols
pub sound_drawn : (s : List ℕ) (C T : ℕ) (kind : Kind) (width o : ℕ) → symbolic kind ≡ true → T ≤ length s → Sound s (signal C T kind width) o → Drawn s width o
unfolding symbolic change_end data_size command_allowed
sound_drawn s C T Bits width o k t d =
    let a = d.before in
    let e = d.ends in
    record { starts = omega arith; inside = omega arith; command = leb-true _ _ d.command }
sound_drawn s C T Integer width o k t d =
    let a = d.before in
    let e = d.ends in
    record { starts = omega arith; inside = omega arith; command = integer_command _ d.command }
sound_drawn s C T Real width o k t d = absurd (false≢true k)
sound_drawn s C T Text width o k t d = absurd (false≢true k)
