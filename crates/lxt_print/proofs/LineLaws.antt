-- Laws of lines: texts put one after the other, and what each line asks of an accepted file.
use Rattle.std.specs.Prelude.{if◌then◌else◌}
use Prim.Native.Nat.{ℕ, suc, ◌-◌, ◌≤◌, ◌<◌}
use native.Mathlib.Omega.{arith}
use mathlib.Core.Path.{◌≡◌, refl, sym, ap, ◌∙◌}
use mathlib.Core.Bool.{Bool, true, false}
use mathlib.Core.List.{List, [], ◌∷◌, ◌++◌, append_assoc}
use lib.ListN.{length, length-append}
use borrow.Author.Tests.{lt-ltb, le-ltb}
use Rattle.lxt_format.specs.Changes.{digits}
use Rattle.lxt_format.specs.Columns.{onto}
use Rattle.lxt_format.specs.Sections.{facility_count}
use Rattle.lxt_format.specs.BiasedTimes.{bias, unbiased}
use Rattle.lxt_format.specs.Names.{name_of, name_table}
use Rattle.lxt_format.specs.NamesLaws.{names_short}
use Rattle.lxt_format.specs.Geometry.{is_alias, root_of, own_facts, geometry_allowed}
use Rattle.lxt_format.specs.declared.Kind.{Kind}
use Rattle.lxt_format.specs.declared.Kind.TheVariants.{Bits, Integer, Real, Text}
use Rattle.lxt_format.specs.declared.Facts.{Facts}
use Rattle.lxt_tables.specs.Stage.{Geometry}
use Rattle.lxt_tables.specs.declared.Tables.{Tables}
use Rattle.lxt_tables.proofs.TablesLaws.{Known, tables_known, entry_allowed}
use Rattle.lxt_print.specs.Lines.{decimal, signed_decimal, space, newline, facility_word, done_word, refused_word, alias_word, kind_word, facility_line, done_line, refused_line}
use Rattle.lxt_print.specs.Placing.{Opened, Put, facility_head, facility_end}
use Rattle.lxt_format.specs.Buffers.{placed}
use Rattle.lxt_format.specs.Buffers.{length_placed, placed_more, placed_start}

-- ---- texts one after the other

-- a text after a text
pub put_more : {b b₁ b₂ t u : List ℕ} {at p q : ℕ} → Put b at t p b₁ → Put b₁ p u q b₂ → Put b at (t ++ u) q b₂
put_more {b = b} {b₁ = b₁} {t = t} {u = u} {at = at} {p = p} v w =
    let l = length-append t u in
    let e = v.place in
    let f = v.fits in
    let g = w.place in
    let h = w.fits in
    let long : length b₁ ≡ length b = rw v.holds (length_placed b at t (omega arith)) in
    let both : placed b₁ p u ≡ placed b at (t ++ u) = rw (v.holds, v.place) (placed_more b at t u (omega arith)) in
    record { place = omega arith; holds = w.holds ∙ both; fits = omega arith }

-- the text that was meant
pub put_is : {b b' t u : List ℕ} {at p : ℕ} → t ≡ u → Put b at t p b' → Put b at u p b'
put_is e w = rw (← e) w

-- a whole line
pub line_ended : {b b' t u : List ℕ} {p : ℕ} → t ≡ u → Put b 0 t p b' → (p ≡ length u) × (b' ≡ onto u b)
line_ended {b = b} {t = t} e w = rw (← e) (let k = w.place in omega arith, w.holds ∙ placed_start b t)

-- ---- words

module _ (k : ℕ) where
  pub refused_text : (0x72 ∷ 0x65 ∷ 0x66 ∷ 0x75 ∷ 0x73 ∷ 0x65 ∷ 0x64 ∷ 0x20 ∷ []) ++ decimal k ++ (0x0A ∷ []) ≡ refused_line k
  unfolding refused_line refused_word digits
  refused_text = refl

  pub done_text : (0x64 ∷ 0x6F ∷ 0x6E ∷ 0x65 ∷ 0x20 ∷ []) ++ decimal k ++ (0x0A ∷ []) ≡ done_line k
  unfolding done_line done_word digits
  done_text = refl

  pub facility_text : (name : List ℕ)
      → (0x66 ∷ 0x61 ∷ 0x63 ∷ 0x69 ∷ 0x6C ∷ 0x69 ∷ 0x74 ∷ 0x79 ∷ 0x20 ∷ []) ++ (decimal k ++ (0x20 ∷ [])) ++ name ++ (0x20 ∷ []) ≡ facility_head k name
  unfolding facility_head facility_word digits
  facility_text name = ap (λ l. l ++ name ++ (0x20 ∷ [])) (sym (append_assoc (facility_word ++ space) (decimal k) space))

-- a time with its bias, with "-" where it is negative
pub negative_text : (x : ℕ) → x < bias → (0x2D ∷ []) ++ decimal (bias - x) ≡ signed_decimal (unbiased x)
unfolding signed_decimal
negative_text x h = let e : suc (bias - suc x) ≡ bias - x = omega arith in rw (lt-ltb x bias h, e)

pub positive_text : (x : ℕ) → bias ≤ x → decimal (x - bias) ≡ signed_decimal (unbiased x)
unfolding signed_decimal
positive_text x h = rw (le-ltb x bias h)

module _ (kind : Kind) where
  pub bits_word : kind ≡ Bits → (0x62 ∷ 0x69 ∷ 0x74 ∷ 0x73 ∷ []) ≡ kind_word kind
  unfolding kind_word digits
  bits_word e = rw e

  pub integer_word : kind ≡ Integer → (0x69 ∷ 0x6E ∷ 0x74 ∷ 0x65 ∷ 0x67 ∷ 0x65 ∷ 0x72 ∷ []) ≡ kind_word kind
  unfolding kind_word digits
  integer_word e = rw e

  pub real_word : kind ≡ Real → (0x72 ∷ 0x65 ∷ 0x61 ∷ 0x6C ∷ []) ≡ kind_word kind
  unfolding kind_word digits
  real_word e = rw e

  pub text_word : kind ≡ Text → (0x74 ∷ 0x65 ∷ 0x78 ∷ 0x74 ∷ []) ≡ kind_word kind
  unfolding kind_word digits
  text_word e = rw e

-- ---- facilities

pub opened_known : (s : List ℕ) (t : Tables) → Opened s t → Known s t
opened_known s t w = tables_known s t w.tables w.accepted

module _ (s : List ℕ) (t : Tables) (w : Opened s t) (f : ℕ) (l : f < t.facilities) where
  inside : f < facility_count s
  inside = let k = opened_known s t w in rw (← k.facilities) l

  pub geometry_there : Geometry s t.geometry t.facilities
  geometry_there = (opened_known s t w).geometry_at

  pub own_asks : (is_alias s f ≡ false) → (f < t.facilities) × ((geometry_allowed s f ≡ true) × (is_alias s f ≡ false))
  own_asks e = let k = opened_known s t w in (l, (entry_allowed s k.passed f inside, e))

-- a name is at most 1,023 bytes long
pub name_short : (s : List ℕ) (f : ℕ) (name : List ℕ) → name ≡ name_of s f → length name ≤ 1023
unfolding name_of name_table
name_short s f name e = rw e (names_short _ _ _ f)

module _ (s : List ℕ) (f : ℕ) (a : Bool) (ea : a ≡ is_alias s f) where
  pub alias_end : a ≡ true → (r : ℕ) → r ≡ root_of s f → (0x61 ∷ 0x6C ∷ 0x69 ∷ 0x61 ∷ 0x73 ∷ 0x20 ∷ []) ++ decimal r ≡ facility_end s f
  unfolding facility_end alias_word digits
  alias_end h r er = rw (← ea, h, er)

  pub facts_end : a ≡ false → (x : Facts) → x ≡ own_facts s f → kind_word x.kind ++ (0x20 ∷ []) ++ decimal x.width ≡ facility_end s f
  unfolding facility_end
  facts_end h x ex = rw (← ea, h, ex)

flat_parts : (a b c d : List ℕ) → a ++ (b ++ c ++ d) ≡ a ++ b ++ c ++ d
flat_parts a b c d = sym (append_assoc a (b ++ c) d) ∙ ap (λ l. l ++ d) (sym (append_assoc a b c))

pub facility_line_lem : (s : List ℕ) (f : ℕ) (name : List ℕ) → name ≡ name_of s f → facility_head f name ++ facility_end s f ++ (0x0A ∷ []) ≡ facility_line s f
unfolding facility_head facility_end facility_line
facility_line_lem s f name e = rw e (line (is_alias s f))
  where
    h : List ℕ
    h = facility_word ++ space ++ decimal f ++ space ++ name_of s f ++ space

    line : (a : Bool)
        → h ++ (if a then alias_word ++ space ++ decimal (root_of s f) else kind_word (own_facts s f).kind ++ space ++ decimal (own_facts s f).width) ++ newline
        ≡ h ++ (if a then alias_word else kind_word (own_facts s f).kind) ++ space ++ decimal (if a then root_of s f else (own_facts s f).width) ++ newline
    line true = ap (λ l. l ++ newline) (flat_parts h alias_word space (decimal (root_of s f)))
    line false = ap (λ l. l ++ newline) (flat_parts h (kind_word (own_facts s f).kind) space (decimal (own_facts s f).width))
