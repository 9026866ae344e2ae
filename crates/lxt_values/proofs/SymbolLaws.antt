-- The laws of writing symbols: a buffer whose front they fill, and which symbol each place has, one law over the symbol's size of b bits.
use Prim.Native.Nat.{ℕ, zero, suc, ◌+◌, ◌*◌, ◌-◌, ◌≤◌, ◌<◌, ◌/◌, ◌%◌, ◌^◌}
use mathlib.Core.Path.{◌≡◌, refl, ap, ◌∙◌}
use mathlib.Core.List.{List, [], ◌∷◌, ◌++◌, map}
use lib.ListN.{length, get_or, take, drop, replicate, length-map}
use lib.Seq.{slice, length-slice, get_or-drop, get_or-take, take_all, length-take-le}
use lib.Dec.{lit<}
use native.Mathlib.Omega.{arith}
use native.Mathlib.Nat.{div-lt_iff_lt-mul, mul_comm}
use Rattle.lxt_format.specs.Bytes.{byte_at}
use Rattle.lxt_format.specs.Changes.{packed_size, codes_at}
use Rattle.lxt_format.specs.UnpackLaws.{Size, code_at, length_unpack}
use Rattle.lxt_format.specs.Values.{symbol_of}
use Rattle.lxt_values.specs.Symbols.{Packed}

-- ---- a list laid at the front of a buffer, one element after the other

-- the first i of the n elements of `new` stand in d, which is else as d₀ was
pub record Laid (new : List ℕ) (n : ℕ) (d₀ d : List ℕ) (i : ℕ) : Type 0 where
  pub size : length new ≡ n
  pub room : n ≤ length d₀
  pub within : i ≤ n
  pub long : length d ≡ length d₀
  pub shows : d ≡ take i new ++ drop i d₀

-- nothing is laid yet
pub none_laid : (new : List ℕ) (n : ℕ) (d : List ℕ) → length new ≡ n → n ≤ length d → Laid new n d d 0
none_laid new n d e h = record { size = e; room = h; within = omega arith; long = refl; shows = refl }

module _ (new : List ℕ) (n : ℕ) (d₀ d : List ℕ) (i : ℕ) (l : Laid new n d₀ d i) where
  -- all are laid
  pub all_laid : n ≤ i → d ≡ new ++ drop n d₀
  all_laid h =
      let within = l.within in
      let size = l.size in
      let e : i ≡ n = omega arith in
      let g : length new ≤ n = omega arith in
      rw (l.shows, e, take_all n new g)

-- ---- one symbol at every place

pub filled : (n x : ℕ) (d : List ℕ) → n ≤ length d → (new : List ℕ) → new ≡ replicate (length (take n d)) x → new ++ drop n d ≡ replicate n x ++ drop n d
filled n x d h new e = rw (e, length-take-le n d h)

-- ---- unpacking

-- an element of a list that was mapped
pub get_d_map : (f : ℕ → ℕ) (l : List ℕ) (i : ℕ) → i < length l → get_or (map f l) i 0 ≡ f (get_or l i 0)
get_d_map f [] i h = absurd (omega arith)
get_d_map f (x ∷ l) zero h = refl
get_d_map f (x ∷ l) (suc i) h = get_d_map f l i (omega arith)

-- a symbol takes some bits
pub some_bits : (b : ℕ) → Size b → 0 < b
some_bits b Size.one = lit< tt
some_bits b Size.two = lit< tt
some_bits b Size.four = lit< tt

-- a byte holds some symbols
pub some_fit : (b : ℕ) → Size b → 0 < 8 / b
some_fit b Size.one = lit< tt
some_fit b Size.two = lit< tt
some_fit b Size.four = lit< tt

-- the bytes of `width` symbols hold as many
holds : (b : ℕ) → Size b → (width : ℕ) → width ≤ 8 / b * packed_size b width
unfolding packed_size
holds b Size.one width = omega arith
holds b Size.two width = omega arith
holds b Size.four width = omega arith

-- the symbols of `width` codes of b bits from o on
abbrev pub symbols_of : List ℕ → ℕ → ℕ → ℕ → List ℕ
symbols_of s b width o = map symbol_of (codes_at s b width o)

module _ (s : List ℕ) (b width o : ℕ) (k : Packed s b width o) where
  -- the data is as long as the packed symbols
  data_length : length (slice o (o + packed_size b width) s) ≡ packed_size b width
  data_length = length-slice o (o + packed_size b width) s k.inside ∙ omega arith

  -- there are `width` codes
  codes_length : length (codes_at s b width o) ≡ width
  unfolding codes_at
  codes_length = length_unpack b (8 / b) (some_fit b k.size) refl width (slice o (o + packed_size b width) s) (rw data_length (holds b k.size width))

  -- and `width` symbols
  pub symbols_length : length (symbols_of s b width o) ≡ width
  symbols_length = length-map (codes_at s b width o) symbol_of ∙ codes_length

  module _ (i : ℕ) (h : i < width) where
    -- code i lies in the data
    within_data : i < 8 / b * packed_size b width
    within_data = let g = holds b k.size width in omega arith

    -- the byte that holds code i lies in the data
    byte_in : i / (8 / b) < packed_size b width
    byte_in = (div-lt_iff_lt-mul (some_fit b k.size)).1 (rw (mul_comm (packed_size b width) (8 / b)) within_data)

    -- symbol i, by the one fact on unpacking
    pub symbol_at : get_or (symbols_of s b width o) i 0 ≡ symbol_of (byte_at s (o + i / (8 / b)) / 2 ^ (b * (8 / b - suc (i % (8 / b)))) % 2 ^ b)
    unfolding codes_at
    symbol_at =
        let size : ℕ = packed_size b width in
        let bs : List ℕ = slice o (o + size) s in
        let g = byte_in in
        let byte : get_or bs (i / (8 / b)) 0 ≡ byte_at s (o + i / (8 / b)) = get_or-drop o (take (o + size) s) (i / (8 / b)) 0 ∙ get_or-take (o + size) s (o + i / (8 / b)) 0 (omega arith) in
        let code = code_at b (8 / b) (some_fit b k.size) refl width bs i h (rw data_length within_data) in
        get_d_map symbol_of (codes_at s b width o) i (rw codes_length h) ∙ ap symbol_of (code ∙ rw byte)
