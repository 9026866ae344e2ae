-- The sync table of a written file: where the newest change of each facility is.
use Prim.Native.Nat.{ℕ, ◌+◌, ◌*◌, ◌≤◌, ◌<◌}
use mathlib.Core.Path.{◌≡◌, ◌∙◌}
use mathlib.Core.List.{List, map, reverse}
use lib.ListN.{length, get_or}
use lib.Dec.{eqb}
use native.Mathlib.Omega.{arith}
use Rattle.lxt_format.specs.Limits.{longest_file}
use Rattle.lxt_format.specs.Basics.{range}
use Rattle.lxt_format.specs.BasicsLaws.{on_test, length_range, get_d_range}
use Rattle.lxt_format.specs.Sections.{section_of}
use Rattle.lxt_format.specs.Geometry.{sync_of}
use Rattle.lxt_format.specs.declared.Pair.{Pair}
use Rattle.lxt_chains.specs.Pending.{Each}
use Rattle.lxt_written.specs.Input.{Trace}
use Rattle.lxt_written.specs.WrittenChanges.{big_endian, last_of, pair_of, laid}
use Rattle.lxt_written.specs.WrittenFile.{sync_body}
use Rattle.lxt_written.specs.Stands.{length_big_endian}
use Rattle.lxt_round_trip.specs.Steps.{changes_end}
use Rattle.lxt_round_trip.proofs.TableLaws.{stands_row, stands_u32}
use Rattle.lxt_round_trip.proofs.ListLaws.{each_reverse, each_image}
use Rattle.lxt_round_trip.proofs.LaidLaws.{laid_within}
use Rattle.lxt_round_trip.proofs.BodyLaws.{Bodies}

-- the newest change of a facility lies as low as all changes do
last_below : (f bound : ℕ) {ps : List Pair} → Each (λ p. p.offset ≤ bound) ps → last_of f ps ≤ bound
unfolding last_of
last_below f bound Each.none = omega arith
last_below f bound (Each.both {x = p} h rest) =
    let ih = last_below f bound rest in
    on_test (eqb p.number f) (λ e. rw e h) (λ e. rw e ih)

-- so it lies in the changes
newest_below : (t : Trace) (f : ℕ) → last_of f (reverse (map pair_of (laid t))) ≤ changes_end t
newest_below t f = last_below f (changes_end t) (each_reverse (each_image pair_of (λ l h. omega arith) (laid_within t)))

module _ (t : Trace) (s : List ℕ) (b : Bodies t s) (short : length s ≤ longest_file) where
  -- the sync entry of facility f is its newest change
  pub sync_read : (f : ℕ) → f < length t.facilities → sync_of s f ≡ last_of f (reverse (map pair_of (laid t)))
  unfolding sync_of sync_body
  sync_read f h =
      let n : ℕ = length t.facilities in
      let newest : ℕ → ℕ = λ g. last_of g (reverse (map pair_of (laid t))) in
      let l = length_range 0 n in
      let at : get_or (range 0 n) f 0 ≡ f = get_d_range 0 n f 0 h ∙ omega arith in
      let row = stands_row 4 (λ g. big_endian 4 (newest g)) (λ g. length_big_endian 4 _) s (section_of s 0x02) (range 0 n) 0 b.sync f (omega arith) in
      stands_u32 (newest f) s (section_of s 0x02 + 4 * f) (rw at at row) (omega (arith, newest_below t f, b.names.within))
