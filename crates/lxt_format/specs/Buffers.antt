-- A buffer in which bytes, or rows of numbers, stand from a place on, and the laws of putting them there.
use Rattle.std.specs.Prelude.{ℕ, zero, suc, ◌+◌, ◌-◌, ◌≤◌, ◌<◌, ◌≡◌, refl, List, [], ◌∷◌, ◌++◌, length, get_or, set, take, drop}
use Rattle.std.proofs.Common.{add-zero, zero-add, arith, sym, ap, ◌∙◌, append_assoc, append-nil, length-append, length-drop, length-set, take-append-drop, length-take-le, take_at, drop_at, drop-cons, drop-drop, drop-set-lt}
use Rattle.std.proofs.Math.Seq.{take-length, drop-length, append_snoc}
use Rattle.std.proofs.lemmas.List.{set_at, take-set-le}
use Rattle.lxt_format.specs.Columns.{onto}

-- a buffer that holds a text from `at` on
abbrev pub placed : {A : Type 0} → List A → ℕ → List A → List A
placed buffer at text = take at buffer ++ (text ++ drop (at + length text) buffer)

module _ {A : Type 0} where
  -- what stands up to the end of the text
  head_long : (b : List A) (at : ℕ) (t : List A) → at + length t ≤ length b → length (take at b ++ t) ≡ at + length t
  head_long b at t h = length-append (take at b) t ∙ ap (λ k. k + length t) (length-take-le at b (omega arith))

  placed_split : (b : List A) (at : ℕ) (t : List A) → placed b at t ≡ (take at b ++ t) ++ drop (at + length t) b
  placed_split b at t = sym (append_assoc (take at b) t (drop (at + length t) b))

  -- a buffer keeps its length
  pub length_placed : (b : List A) (at : ℕ) (t : List A) → at + length t ≤ length b → length (placed b at t) ≡ length b
  length_placed b at t h =
      let e : length (placed b at t) ≡ length (take at b ++ t) + length (drop (at + length t) b) =
      rw (placed_split b at t) (length-append (take at b ++ t) (drop (at + length t) b)) in
      let f = head_long b at t h in
      let g = length-drop (at + length t) b in
      omega arith

  -- no text changes nothing
  pub placed_none : (b : List A) (at : ℕ) → placed b at [] ≡ b
  placed_none b at = ap (λ k. take at b ++ drop k b) (add-zero at) ∙ take-append-drop at b

  -- text at the start
  pub placed_start : (b t : List A) → placed b 0 t ≡ onto t b
  placed_start b t = ap (λ k. t ++ drop k b) (zero-add (length t))

  -- text after text
  pub placed_more : (b : List A) (at : ℕ) (t u : List A) → at + length t ≤ length b → placed (placed b at t) (at + length t) u ≡ placed b at (t ++ u)
  placed_more b at t u h =
      let k : ℕ = at + length t in
      let long : length (take at b ++ t) ≡ k = head_long b at t h in
      let front : take k (placed b at t) ≡ take at b ++ t = rw (placed_split b at t) (take_at (take at b ++ t) (drop k b) k long) in
      let e = length-append t u in
      let sum : k + length u ≡ at + length (t ++ u) = omega arith in
      let back : drop (k + length u) (placed b at t) ≡ drop (at + length (t ++ u)) b =
      sym (drop-drop (length u) k (placed b at t))
      ∙ ap (λ l. drop (length u) l) (rw (placed_split b at t) (drop_at (take at b ++ t) (drop k b) k long))
      ∙ drop-drop (length u) k b
      ∙ ap (λ n. drop n b) sum in
      ap (λ l. l ++ (u ++ drop (k + length u) (placed b at t))) front
      ∙ ap (λ l. (take at b ++ t) ++ (u ++ l)) back
      ∙ append_assoc (take at b) t (u ++ drop (at + length (t ++ u)) b)
      ∙ ap (λ l. take at b ++ l) (sym (append_assoc t u (drop (at + length (t ++ u)) b)))

  -- a byte stored after text
  pub placed_byte : (b : List A) (at : ℕ) (t : List A) (x : A) (k : ℕ) → k ≡ at + length t → k < length b → set (placed b at t) k x ≡ placed b at (t ++ (x ∷ []))
  placed_byte b at t x k ek h =
      let g = length-append t (x ∷ []) in
      let sum : suc k ≡ at + length (t ++ (x ∷ [])) = omega arith in
      let p : List A = take at b ++ t in
      let long : length p ≡ k = head_long b at t (omega arith) ∙ sym ek in
      let e : placed b at t ≡ p ++ get_or b k x ∷ drop (suc k) b = placed_split b at t ∙ ap (λ l. p ++ l) (rw (← ek) (drop-cons b k x h)) in
      ap (λ l. set l k x) e
      ∙ set_at p (get_or b k x) (drop (suc k) b) x k long
      ∙ append_assoc (take at b) t (x ∷ drop (suc k) b)
      ∙ ap (λ l. take at b ++ l) (sym (append_snoc t x (drop (suc k) b)))
      ∙ ap (λ n. take at b ++ ((t ++ (x ∷ [])) ++ drop n b)) sum

  -- a byte stored at a place
  pub stored_one : (b : List A) (at : ℕ) (x : A) → at < length b → set b at x ≡ placed b at (x ∷ [])
  stored_one b at x h = ap (λ q. set q at x) (sym (placed_none b at)) ∙ placed_byte b at [] x at (omega arith) h

  -- a byte, and then more behind it
  pub placed_next : (b : List A) (at : ℕ) (x : A) (t : List A) → at < length b → placed (set b at x) (at + 1) t ≡ placed b at (x ∷ t)
  placed_next b at x t h = rw (stored_one b at x h) (placed_more b at (x ∷ []) t (omega arith))

  -- text put before a byte that is stored already
  pub placed_before : (b : List A) (at : ℕ) (t : List A) (x : A) (k : ℕ) → k ≡ at + length t → k < length b → placed (set b k x) at t ≡ placed b at (t ++ (x ∷ []))
  placed_before b at t x k ek h =
      let g = length-append t (x ∷ []) in
      let sum : suc k ≡ at + length (t ++ (x ∷ [])) = omega arith in
      let rest : drop (at + length t) (set b k x) ≡ x ∷ drop (suc k) b =
      rw (← ek) (drop-cons (set b k x) k x (rw (length-set b k x) h) ∙ ap (λ l. get_or (set b k x) k x ∷ l) (drop-set-lt (suc k) b k x (omega arith)) ∙ ap (λ y. y ∷ drop (suc k) b) (get_d_same b k x)) in
      ap (λ l. l ++ (t ++ drop (at + length t) (set b k x))) (take-set-le at b k x (omega arith))
      ∙ ap (λ l. take at b ++ (t ++ l)) rest
      ∙ ap (λ l. take at b ++ l) (sym (append_snoc t x (drop (suc k) b)))
      ∙ ap (λ n. take at b ++ ((t ++ (x ∷ [])) ++ drop n b)) sum
    where
      get_d_same : {A : Type 0} (l : List A) (i : ℕ) (y : A) → get_or (set l i y) i y ≡ y
      get_d_same [] i y = refl
      get_d_same (z ∷ l) zero y = refl
      get_d_same (z ∷ l) (suc i) y = get_d_same l i y

-- ---- a part that is lent on, from a place to the end

-- the part of a buffer from `at` on, and the buffer with another part there
abbrev pub part_from : List ℕ → ℕ → List ℕ
part_from b at = take (length b - at) (drop at b)

abbrev pub part_back : List ℕ → ℕ → List ℕ → List ℕ
part_back b at ys = take at b ++ (ys ++ drop (length b - at) (drop at b))

module _ (b : List ℕ) (at : ℕ) where
  part_whole : part_from b at ≡ drop at b
  part_whole = ap (λ n. take n (drop at b)) (sym (length-drop at b)) ∙ take-length (drop at b)

  pub part_long : length (part_from b at) ≡ length b - at
  part_long = rw part_whole (length-drop at b)

  -- nothing stands after the part
  rest_none : drop (length b - at) (drop at b) ≡ []
  rest_none = ap (λ n. drop n (drop at b)) (sym (length-drop at b)) ∙ drop-length (drop at b)

  -- text at the start of the part
  pub part_put : (y : List ℕ) → part_back b at (y ++ drop (length y) (part_from b at)) ≡ placed b at y
  part_put y =
      let e : drop (length y) (part_from b at) ≡ drop (at + length y) b = rw part_whole (drop-drop (length y) at b) in
      rw (rest_none, e) (ap (λ l. take at b ++ l) (append-nil (y ++ drop (at + length y) b)))
