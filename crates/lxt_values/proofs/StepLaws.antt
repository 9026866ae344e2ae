-- The laws of unpacking a byte at a time: one step, how many there are, the loop, and what all of them write.
use Prim.Native.Nat.{ℕ, zero, suc, ◌+◌, ◌*◌, ◌-◌, ◌/◌, ◌%◌, ◌^◌, ◌≤◌, ◌<◌, min}
use native.Mathlib.Nat.{mul-zero, mul-suc}
use native.Mathlib.Decide.{ℕ_discrete}
use native.Mathlib.Omega.{arith}
use native.Mathlib.Numerals.{add-one}
use mathlib.Core.Path.{◌≡◌, refl, sym, ap, ◌∙◌}
use mathlib.Core.List.{List, ◌∷◌, ◌++◌, append_assoc}
use lib.ListN.{length, get_or, take, drop, length-map, length-take, length-drop}
use lib.Seq.{get_or-drop, get_or-take, take_all, take_at, drop_at, drop-drop, take-add, ext_get_or, length-take-le}
use Rattle.lxt_format.specs.Buffers.{placed, length_placed}
use Rattle.lxt_format.specs.Bytes.{byte_at, little_endian}
use Rattle.lxt_format.specs.Changes.{digits, packed_size}
use Rattle.lxt_format.specs.UnpackLaws.{Size, length_digits, digit_at}
use Rattle.lxt_format.specs.Values.{symbol_of}
use Rattle.lxt_values.specs.Steps.{symbols_of_byte, step_symbols, after_steps, Bytewise}
use Rattle.lxt_values.specs.Symbols.{Packed, StepAsked}
use Rattle.lxt_values.proofs.SymbolLaws.{Laid, none_laid, all_laid, get_d_map, some_fit, symbols_of, symbols_length, symbol_at}

-- ---- one step

-- the first of the lowest bytes
little_endian_take : (c n x : ℕ) → c ≤ n → take c (little_endian n x) ≡ little_endian c x
unfolding little_endian
little_endian_take zero n x h = refl
little_endian_take (suc c) zero x h = absurd (omega arith)
little_endian_take (suc c) (suc n) x h = ap (λ l. x % 256 ∷ l) (little_endian_take c n (x / 256) (omega arith))

-- the first symbols of the byte are written
pub step_done : (s : List ℕ) (o b k count room : ℕ) → StepAsked s o b k count room → (word : ℕ) → little_endian (8 / b) word ≡ symbols_of_byte b (byte_at s (o + k))
    → (d d' : List ℕ) → d' ≡ placed d (8 / b * k) (little_endian count word) → d' ≡ placed d (8 / b * k) (take count (symbols_of_byte b (byte_at s (o + k))))
step_done s o b k count room a word e d d' f = f ∙ rw (← e, little_endian_take count (8 / b) word a.some)

-- a byte has 8 / b symbols
length_of_byte : (b x : ℕ) → length (symbols_of_byte b x) ≡ 8 / b
unfolding symbols_of_byte
length_of_byte b x = length-map (digits b (8 / b) x) symbol_of ∙ length_digits b (8 / b) x

-- ---- how many steps

-- a byte that `width` symbols fill
pub whole_step : (b : ℕ) → Size b → (width k : ℕ) → k < width / (8 / b) → (8 / b * k + 8 / b ≤ width) × (k < packed_size b width)
unfolding packed_size
whole_step b Size.one width k h = (omega arith, omega arith)
whole_step b Size.two width k h = (omega arith, omega arith)
whole_step b Size.four width k h = (omega arith, omega arith)

-- so many of them are no more than all symbols
pub steps_within : (b : ℕ) → Size b → (width k : ℕ) → k ≤ width / (8 / b) → 8 / b * k ≤ width
steps_within b Size.one width k h = omega arith
steps_within b Size.two width k h = omega arith
steps_within b Size.four width k h = omega arith

-- a step writes a symbol at least, so that there are no more steps than symbols
pub steps_fit : (b : ℕ) → Size b → (width k : ℕ) → k ≤ width / (8 / b) → 8 / b * k < width → k + 1 ≤ width
steps_fit b Size.one width k h g = omega arith
steps_fit b Size.two width k h g = omega arith
steps_fit b Size.four width k h g = omega arith

-- where no symbol is left, there were as many steps as data bytes
pub none_left : (b : ℕ) → Size b → (width k : ℕ) → k ≤ width / (8 / b) → width / (8 / b) ≤ k → width - 8 / b * k ≡ 0 → k ≡ (b * width + 7) / 8
none_left b Size.one width k h g e = omega arith
none_left b Size.two width k h g e = omega arith
none_left b Size.four width k h g e = omega arith

-- else there is one more, of those that do not fill a byte
pub some_left : (b : ℕ) → Size b → (width k : ℕ) → k ≤ width / (8 / b) → width / (8 / b) ≤ k → (width - 8 / b * k ≡ 0 → ⊥)
    → (width - 8 / b * k ≤ 8 / b) × (k + 1 ≡ (b * width + 7) / 8)
some_left b Size.one width k h g n = (omega arith, omega arith)
some_left b Size.two width k h g n = (omega arith, omega arith)
some_left b Size.four width k h g n = (omega arith, omega arith)

-- ---- the loop

-- after k steps, each of a whole byte
pub record Stepping (s : List ℕ) (b width o : ℕ) (d₀ d : List ℕ) (k : ℕ) : Type 0 where
  pub done : d ≡ after_steps s b width o k d₀
  pub long : length d ≡ length d₀
  pub upto : k ≤ width / (8 / b)

pub steps_begun : (s : List ℕ) (b width o : ℕ) (d : List ℕ) → Stepping s b width o d d 0
unfolding after_steps
steps_begun s b width o d = record { done = refl; long = refl; upto = omega arith }

module _ (s : List ℕ) (b width o : ℕ) (a : Packed s b width o) (d₀ d : List ℕ) (room : width ≤ length d₀) (k : ℕ) (w : Stepping s b width o d₀ d k) where
  -- one step more
  after : (d' : List ℕ) (count : ℕ) → d' ≡ placed d (8 / b * k) (take count (symbols_of_byte b (byte_at s (o + k))))
      → take count (symbols_of_byte b (byte_at s (o + k))) ≡ step_symbols s b width o k → d' ≡ after_steps s b width o (k + 1) d₀
  unfolding after_steps
  after d' count e f = e ∙ rw (f, w.done, add-one k)

  module _ (h : k < width / (8 / b)) where
    -- what a whole step asks
    pub whole_asks : StepAsked s o b k (8 / b) (length d)
    whole_asks =
        let inside = a.inside in
        let long = w.long in
        let fits = whole_step b a.size width k h in
        let first = fits.0 in
        let second = fits.1 in
        record { size = a.size; inside = omega arith; some = omega arith; enough = omega arith }

    -- the count fits
    pub whole_fits : k + 1 ≤ width
    whole_fits =
        let some = some_fit b a.size in
        let first = (whole_step b a.size width k h).0 in
        steps_fit b a.size width k w.upto (omega arith)

    -- the turn of the loop
    pub whole_turn : (d' : List ℕ) → length d' ≡ length d → d' ≡ placed d (8 / b * k) (take (8 / b) (symbols_of_byte b (byte_at s (o + k)))) → Stepping s b width o d₀ d' (k + 1)
    unfolding step_symbols
    whole_turn d' l e =
        let bytes : List ℕ = symbols_of_byte b (byte_at s (o + k)) in
        let long = length_of_byte b (byte_at s (o + k)) in
        let fits = (whole_step b a.size width k h).0 in
        let all : take (8 / b) bytes ≡ bytes = take_all (8 / b) bytes (omega arith) in
        let most : take (width - 8 / b * k) bytes ≡ bytes = take_all (width - 8 / b * k) bytes (omega arith) in
        record {
          done = after d' (8 / b) e (all ∙ sym most);
          long = l ∙ w.long;
          upto = omega arith;
        }

  module _ (h : width / (8 / b) ≤ k) where
    -- no symbol is left
    pub all_done : width - 8 / b * k ≡ 0 → (k ≡ (b * width + 7) / 8) × (d ≡ after_steps s b width o k d₀)
    all_done e = (none_left b a.size width k w.upto h e, w.done)

    module _ (n : width - 8 / b * k ≡ 0 → ⊥) where
      -- what the last step asks
      pub last_asks : StepAsked s o b k (width - 8 / b * k) (length d)
      unfolding packed_size
      last_asks =
          let inside = a.inside in
          let long = w.long in
          let left = some_left b a.size width k w.upto h n in
          let within = steps_within b a.size width k w.upto in
          let one = left.1 in
          record { size = a.size; inside = omega arith; some = left.0; enough = omega arith }

      -- the count fits
      pub last_fits : k + 1 ≤ width
      last_fits = steps_fit b a.size width k w.upto (omega arith)

      -- it writes those left
      pub last_done : (d' : List ℕ) → d' ≡ placed d (8 / b * k) (take (width - 8 / b * k) (symbols_of_byte b (byte_at s (o + k))))
          → (k + 1 ≡ (b * width + 7) / 8) × (d' ≡ after_steps s b width o (k + 1) d₀)
      unfolding step_symbols
      last_done d' e = ((some_left b a.size width k w.upto h n).1, after d' (width - 8 / b * k) e refl)

-- ---- all steps

-- a part of a list is laid behind what is there
part_laid : (new : List ℕ) (n : ℕ) (d₀ d : List ℕ) (i : ℕ) → Laid new n d₀ d i → (t : List ℕ) → i + length t ≤ n → t ≡ take (length t) (drop i new)
    → Laid new n d₀ (placed d i t) (i + length t)
part_laid new n d₀ d i l t h e =
    let c : ℕ = length t in
    let size = l.size in
    let room = l.room in
    let long = l.long in
    let front : length (take i new) ≡ i = length-take-le i new (omega arith) in
    let before : take i d ≡ take i new = rw l.shows (take_at (take i new) (drop i d₀) i front) in
    let rest : drop i d ≡ drop i d₀ = rw l.shows (drop_at (take i new) (drop i d₀) i front) in
    let behind : drop (i + c) d ≡ drop (i + c) d₀ = sym (drop-drop c i d) ∙ ap (λ q. drop c q) rest ∙ drop-drop c i d₀ in
    let joint : take i new ++ t ≡ take (i + c) new = ap (λ q. take i new ++ q) e ∙ sym (take-add i c new) in
    record {
      size = l.size;
      room = l.room;
      within = h;
      long = length_placed d i t (omega arith) ∙ l.long;
      shows = ap (λ q. q ++ (t ++ drop (i + c) d)) before
          ∙ ap (λ q. take i new ++ (t ++ q)) behind
          ∙ sym (append_assoc (take i new) t (drop (i + c) d₀))
          ∙ ap (λ q. q ++ drop (i + c) d₀) joint;
    }

-- symbol j of byte k
in_byte : (b : ℕ) → Size b → (k j : ℕ) → j < 8 / b → ((8 / b * k + j) / (8 / b) ≡ k) × ((8 / b * k + j) % (8 / b) ≡ j)
in_byte b Size.one k j h = (omega arith, omega arith)
in_byte b Size.two k j h = (omega arith, omega arith)
in_byte b Size.four k j h = (omega arith, omega arith)

byte_symbol : (b x j : ℕ) → j < 8 / b → get_or (symbols_of_byte b x) j 0 ≡ symbol_of (x / 2 ^ (b * (8 / b - suc j)) % 2 ^ b)
unfolding symbols_of_byte
byte_symbol b x j h = get_d_map symbol_of (digits b (8 / b) x) j (rw (length_digits b (8 / b) x) h) ∙ ap symbol_of (digit_at b (8 / b) x j h)

module _ (s : List ℕ) (b width o : ℕ) (a : Packed s b width o) where
  abbrev new : List ℕ
  new = symbols_of s b width o

  step_length : (k : ℕ) → length (step_symbols s b width o k) ≡ min (width - 8 / b * k) (8 / b)
  unfolding step_symbols
  step_length k = length-take (width - 8 / b * k) (symbols_of_byte b (byte_at s (o + k))) ∙ rw (length_of_byte b (byte_at s (o + k)))

  -- what a step writes stands there in the symbols of the value, by the one fact on unpacking
  step_part : (k : ℕ) (c : ℕ) → length (step_symbols s b width o k) ≡ c → c ≤ 8 / b → 8 / b * k + c ≤ width
      → step_symbols s b width o k ≡ take c (drop (8 / b * k) new)
  unfolding step_symbols
  step_part k c e h g =
      let i : ℕ = 8 / b * k in
      let x : ℕ = byte_at s (o + k) in
      let t : List ℕ = step_symbols s b width o k in
      let long = symbols_length s b width o a in
      let some = length-drop i new in
      let lengths : length t ≡ length (take c (drop i new)) = e ∙ sym (length-take-le c (drop i new) (omega arith)) in
      ext_get_or 0 t (take c (drop i new)) lengths
      (λ j l.
      let small : j < c = rw (← e) l in
      let there = in_byte b a.size k j (omega arith) in
      let left : get_or t j 0 ≡ symbol_of (x / 2 ^ (b * (8 / b - suc j)) % 2 ^ b) =
      get_or-take (width - i) (symbols_of_byte b x) j 0 (omega arith) ∙ byte_symbol b x j (omega arith) in
      let right : get_or (take c (drop i new)) j 0 ≡ symbol_of (x / 2 ^ (b * (8 / b - suc j)) % 2 ^ b) =
      get_or-take c (drop i new) j 0 small ∙ get_or-drop i new j 0 ∙ symbol_at s b width o a (i + j) (omega arith) ∙ rw (there.0, there.1) in
      left ∙ sym right)

  module _ (d : List ℕ) (room : width ≤ length d) where
    -- a step lays its symbols
    step_laid : (k c : ℕ) (d' : List ℕ) → length (step_symbols s b width o k) ≡ c → c ≤ 8 / b → 8 / b * k + c ≤ width
        → Laid new width d d' (8 / b * k) → Laid new width d (placed d' (8 / b * k) (step_symbols s b width o k)) (8 / b * k + c)
    step_laid k c d' e h g l = rw (← e) (part_laid new width d d' (8 / b * k) l (step_symbols s b width o k) (rw e g) (rw e (step_part k c e h g)))

    -- so do the steps of whole bytes
    whole_laid : (k : ℕ) → k ≤ width / (8 / b) → Laid new width d (after_steps s b width o k d) (8 / b * k)
    unfolding after_steps
    whole_laid zero h = rw (mul-zero (8 / b)) (none_laid new width d (symbols_length s b width o a) room)
    whole_laid (suc k) h =
        let fits = (whole_step b a.size width k (omega arith)).0 in
        let size = step_length k in
        rw (mul-suc (8 / b) k) (step_laid k (8 / b) (after_steps s b width o k d) (omega arith) (omega arith) fits (whole_laid k (omega arith)))

    -- all of them lay all symbols
    pub all_steps : after_steps s b width o ((b * width + 7) / 8) d ≡ new ++ drop width d
    unfolding after_steps
    all_steps =
        let k : ℕ = width / (8 / b) in
        let laid = whole_laid k (omega arith) in
        elim (ℕ_discrete (width - 8 / b * k) 0) [
          | yes e ↦ (let count = none_left b a.size width k (omega arith) (omega arith) e in rw (← count) (all_laid new width d (after_steps s b width o k d) (8 / b * k) laid (omega arith)))
          | no n ↦ (let left = some_left b a.size width k (omega arith) (omega arith) n in
              let within = steps_within b a.size width k (omega arith) in
              let few = left.0 in
              let size = step_length k in
              let last = step_laid k (width - 8 / b * k) (after_steps s b width o k d) (omega arith) left.0 (omega arith) laid in
              rw (← left.1, add-one k) (all_laid new width d (after_steps s b width o (suc k) d) (8 / b * k + (width - 8 / b * k)) last (omega arith)))
        ]

-- ---- the claim

data_packed : (s : List ℕ) (width o : ℕ) → o + (width + 7) / 8 ≤ length s → Packed s 1 width o
unfolding packed_size
data_packed s width o h = record { size = Size.one; inside = omega arith }

pub bytewise : Bytewise
unfolding step_symbols Bytewise
bytewise s width o bits inside room =
    let a : Packed s 1 width o = data_packed s width o inside in
    let e : 1 * width ≡ width = omega arith in
    record {
      all = rw e at (all_steps s 1 width o a bits room);
      eight = λ k h. take_all (width - 8 * k) (symbols_of_byte 1 (byte_at s (o + k))) (omega (arith, length_of_byte 1 (byte_at s (o + k))));
      last = λ k h. (omega (arith, step_length s 1 width o a k), omega arith);
    }
