-- The proof of ExactRoom, a claim in ValueColumn of lxt_format: the bits of a column are as many as the widths of its items.
use Prim.Native.Nat.{ℕ, suc, ◌<◌}
use mathlib.Core.Path.{◌≡◌, refl, ◌∙◌}
use mathlib.Core.List.{List, [], ◌∷◌}
use lib.ListN.{length, get_or, length-append}
use native.Mathlib.Omega.{arith}
use Rattle.lxt_format.specs.Basics.{joined, total}
use Rattle.lxt_format.specs.Geometry.{root_of, facts_of}
use Rattle.lxt_format.specs.Values.{content_at}
use Rattle.lxt_format.specs.Questions.{facility_refusal, written, widths_of, column_bits}
use Rattle.lxt_format.specs.ValueColumn.{ExactRoom}
use Rattle.lxt_format.proofs.ValueColumnLaws.{column_fine, number_fine}
use Rattle.lxt_tables.specs.Stage.{tables_of}
use Rattle.lxt_reader.proofs.AskWays.{below_of}
use Rattle.lxt_column.proofs.ItemLaws.{written_width}

-- lists added up, each as long as a number says
joined_long : (f : ℕ → List ℕ) (g : ℕ → ℕ) (l : List ℕ) → ((i : ℕ) → i < length l → length (f (get_or l i 0)) ≡ g (get_or l i 0)) → length (joined f l) ≡ total g l
unfolding joined total
joined_long f g [] same = refl
joined_long f g (x ∷ l) same =
    let rest = joined_long f g l (λ i below. same (suc i) (omega arith)) in
    let first = same 0 (omega arith) in
    length-append (f x) (joined f l) ∙ rw (first, rest)

pub exact_room : ExactRoom
unfolding column_bits widths_of
exact_room s t asked room records h =
    let w = column_fine s asked room records h in (
      joined_long (λ f. written (content_at s (root_of s f) t)) (λ f. (facts_of s f).width) asked
          (λ i below. let f : ℕ = get_or asked i 0 in
          written_width s (tables_of s) w.file refl f (below_of s f (number_fine (facility_refusal s) asked w.numbers i below)) t),
      w.bits_fit,
    )
