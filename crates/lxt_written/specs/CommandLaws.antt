-- The laws of one written change: symbols and codes, the command, the lengths, and the bounds of its bytes.
use Prim.Native.Nat.{ℕ, zero, suc, ◌+◌, ◌*◌, ◌-◌, ◌≤◌, ◌<◌, ◌/◌, ◌^◌}
use Rattle.std.specs.Prelude.{◌≡◌, Bool, false, length, get_or, drop, ltb, eqb}
use Rattle.std.proofs.Math.Path.{refl}
use Rattle.std.proofs.Common.{subst, sym, ap, ◌∙◌, length-append, get_or-drop, lit<, pow-add, mul-suc}
use Rattle.std.proofs.Math.Bool.{true, false≢true}
use mathlib.Core.List.{List, [], ◌∷◌, map}
use Rattle.std.proofs.Math.Arith.{digits_lt}
use native.Mathlib.Omega.{arith}
use Rattle.std.proofs.Math.Decide.{ℕ_discrete, dec_le}
use borrow.Author.Tests.{eqb-true, ltb-true, lt-ltb, le-ltb, le-leb, eq-eqb, ne_eqb}
use Rattle.lxt_format.specs.Basics.{range, all, any, select}
use Rattle.lxt_format.specs.BasicsLaws.{on_test, and_both, both_and, or_either}
use Rattle.lxt_format.specs.Reals.{place_of}
use Rattle.lxt_format.specs.Changes.{command_allowed, symbol_size, packed_size}
use Rattle.lxt_format.specs.Values.{symbols, symbol_of}
use Rattle.lxt_format.specs.declared.Kind.{Kind}
use Rattle.lxt_format.specs.declared.Kind.TheVariants.{Bits, Integer, Real, Text}
use Rattle.lxt_written.specs.WrittenChanges.{big_endian, code_of, can_hold, lowest_of_least, least, command_for, packed_codes, pack, packed_symbols, data_for, fewest_bytes, change_bytes}
use Rattle.lxt_written.specs.Writing.{is_symbol, is_bit, value_allowed}
use Rattle.lxt_written.specs.Stands.{length_big_endian}

-- ---- symbols and their codes

-- a byte that stands among others stands at its place
place_found : (b : ℕ) (bs : List ℕ) → any (eqb b) bs ≡ true → (place_of b bs < length bs) × (get_or bs (place_of b bs) 0 ≡ b)
unfolding any place_of
place_found b [] h = absurd (false≢true h)
place_found b (x ∷ bs) h =
    let later : any (eqb b) bs ≡ true → (place_of b bs < length bs) × (get_or bs (place_of b bs) 0 ≡ b) = λ k. place_found b bs k in
    elim (ℕ_discrete x b) [
      | yes e ↦ rw (eq-eqb x b e) (omega arith, e)
      | no n ↦ (let k : any (eqb b) bs ≡ true = or_either (eqb b x) (any (eqb b) bs) h (λ q. absurd (n (sym (eqb-true b x q)))) (λ q. q) in
          let r = later k in
          simp (ne_eqb x b n) (omega arith, r.1))
    ]

-- the code of a symbol is one of nine
pub code_small : (b : ℕ) → is_symbol b ≡ true → code_of b < 9
unfolding is_symbol code_of
code_small b h = (place_found b symbols h).0

-- and it is the code of that symbol
pub symbol_of_code : (b : ℕ) → is_symbol b ≡ true → symbol_of (code_of b) ≡ b
unfolding is_symbol code_of symbol_of
symbol_of_code b h = (place_found b symbols h).1

-- the code of a code's symbol is that code
code_of_symbol : (c : ℕ) → c < 9 → code_of (symbol_of c) ≡ c
unfolding code_of symbol_of place_of
code_of_symbol zero h = refl
code_of_symbol (suc zero) h = refl
code_of_symbol (suc (suc zero)) h = refl
code_of_symbol (suc (suc (suc zero))) h = refl
code_of_symbol (suc (suc (suc (suc zero)))) h = refl
code_of_symbol (suc (suc (suc (suc (suc zero))))) h = refl
code_of_symbol (suc (suc (suc (suc (suc (suc zero)))))) h = refl
code_of_symbol (suc (suc (suc (suc (suc (suc (suc zero))))))) h = refl
code_of_symbol (suc (suc (suc (suc (suc (suc (suc (suc zero)))))))) h = refl
code_of_symbol (suc (suc (suc (suc (suc (suc (suc (suc (suc c))))))))) h = absurd (omega arith)

-- a bit is 0 or 1 in ASCII
bit_is {ℓ} : {P : Type ℓ} (b : ℕ) → is_bit b ≡ true → (b ≡ 0x30 → P) → (b ≡ 0x31 → P) → P
unfolding is_bit any
bit_is b h f g =
    or_either (eqb b 0x30) _ h (λ e. f (eqb-true b 0x30 e)) (λ k. or_either (eqb b 0x31) false k (λ e. g (eqb-true b 0x31 e)) (λ e. absurd (false≢true e)))

-- it is a symbol
pub bit_symbol : (b : ℕ) → is_bit b ≡ true → is_symbol b ≡ true
unfolding is_symbol any
bit_symbol b h = bit_is b h (λ e. rw e) (λ e. rw e)

-- whose code takes one bit
pub bit_code : (b : ℕ) → is_bit b ≡ true → code_of b < 2
unfolding code_of place_of
bit_code b h = bit_is b h (λ e. rw e (lit< tt)) (λ e. rw e (lit< tt))

-- ---- tests of every element

module _ (p q : ℕ → Bool) where
  -- what holds of each, and gives another, gives that of each
  all_give : (l : List ℕ) → ((x : ℕ) → p x ≡ true → q x ≡ true) → all p l ≡ true → all q l ≡ true
  unfolding all
  all_give [] f h = refl
  all_give (x ∷ l) f h =
      let both = and_both (p x) (all p l) h in
      both_and (q x) (all q l) (f x both.0) (all_give l f both.1)

-- where all are one, all are the first
one_is_first : (b : ℕ) (l : List ℕ) → all (λ x. eqb x b) l ≡ true → all (λ x. eqb x (get_or l 0 0)) l ≡ true
unfolding all
one_is_first b [] h = refl
one_is_first b (x ∷ l) h = let e = eqb-true x b (and_both (eqb x b) (all (λ y. eqb y b) l) h).0 in
    subst (λ (z : ℕ). all (λ y. eqb y z) (x ∷ l) ≡ true) (sym e) h

-- ---- the least of a selection

module _ (size : ℕ → ℕ) (held : ℕ → Bool) where
  -- the best so far stays where no later one is less
  best_stays : (best i k : ℕ) → ((j : ℕ) → i ≤ j → j < i + k → held j ≡ true → size best ≤ size j) → lowest_of_least size best (select held (range i k)) ≡ best
  unfolding lowest_of_least select range
  best_stays best i zero h = refl
  best_stays best i (suc k) h =
      let rest = best_stays best (suc i) k (λ j a b e. h j (omega arith) (omega arith) e) in
      on_test (held i)
      (λ e. rw (e, lowest_of_least, le-ltb (size i) (size best) (h i (omega arith) (omega arith) e)) rest)
      (λ e. rw e rest)

  module _ (c : ℕ) (c-held : held c ≡ true) where
    -- c is found after a larger best
    found_later : (best i k : ℕ) → i ≤ c → c < i + k → size c < size best → ((j : ℕ) → i ≤ j → j < c → held j ≡ true → size c < size j)
        → ((j : ℕ) → c < j → j < i + k → held j ≡ true → size c ≤ size j) → lowest_of_least size best (select held (range i k)) ≡ c
    unfolding lowest_of_least select range
    found_later best i zero low high l before after = absurd (omega arith)
    found_later best i (suc k) low high l before after =
        let rest : (new : ℕ) → size c < size new → i < c → lowest_of_least size new (select held (range (suc i) k)) ≡ c =
        λ new m a. found_later new (suc i) k a (omega arith) m (λ j x y e. before j (omega arith) y e) (λ j x y e. after j x (omega arith) e) in
        elim (ℕ_discrete i c) [
          | yes e ↦ rw (e, c-held, lowest_of_least, lt-ltb (size c) (size best) l) (best_stays c (suc c) k (λ j x y h. after j x (omega arith) h))
          | no n ↦ (let a : i < c = omega arith in
              on_test (held i)
              (λ h. rw h (on_test (ltb (size i) (size best)) (λ t. rw (t, lowest_of_least) (rest i (before i (omega arith) a h) a)) (λ t. rw (t, lowest_of_least) (rest best l a))))
              (λ h. rw h (rest best l a)))
        ]

    -- c is the lowest of the least
    least_is : (i k : ℕ) → i ≤ c → c < i + k → ((j : ℕ) → i ≤ j → j < c → held j ≡ true → size c < size j)
        → ((j : ℕ) → c < j → j < i + k → held j ≡ true → size c ≤ size j) → least size (select held (range i k)) ≡ c
    unfolding least select range
    least_is i zero low high before after = absurd (omega arith)
    least_is i (suc k) low high before after =
        let rest : i < c → least size (select held (range (suc i) k)) ≡ c =
        λ a. least_is (suc i) k a (omega arith) (λ j x y e. before j (omega arith) y e) (λ j x y e. after j x (omega arith) e) in
        elim (ℕ_discrete i c) [
          | yes e ↦ rw (e, c-held) (best_stays c (suc c) k (λ j x y h. after j x (omega arith) h))
          | no n ↦ (let a : i < c = omega arith in
              on_test (held i)
              (λ h. rw h (found_later i (suc i) k a (omega arith) (before i (omega arith) a h) (λ j x y e. before j (omega arith) y e) (λ j x y e. after j x (omega arith) e)))
              (λ h. rw h (rest a)))
        ]

  module _ (P : ℕ → Type 0) where
    -- what holds of the best and of all that are held, holds of the least
    best_has : (best i k : ℕ) → P best → ((j : ℕ) → i ≤ j → j < i + k → held j ≡ true → P j) → P (lowest_of_least size best (select held (range i k)))
    unfolding lowest_of_least select range
    best_has best i zero p h = p
    best_has best i (suc k) p h =
        let rest : (new : ℕ) → P new → P (lowest_of_least size new (select held (range (suc i) k))) = λ new q. best_has new (suc i) k q (λ j a b e. h j (omega arith) (omega arith) e) in
        on_test (held i)
        (λ e. rw e (on_test (ltb (size i) (size best)) (λ t. rw (t, lowest_of_least) (rest i (h i (omega arith) (omega arith) e))) (λ t. rw (t, lowest_of_least) (rest best p))))
        (λ e. rw e (rest best p))

    -- the same of a list, where it holds of 0 or something is held
    least_has : (i k : ℕ) → (((j : ℕ) → i ≤ j → j < i + k → held j ≡ false) → P 0) → ((j : ℕ) → i ≤ j → j < i + k → held j ≡ true → P j)
        → P (least size (select held (range i k)))
    unfolding least select range
    least_has i zero none h = none (λ j a b. absurd (omega arith))
    least_has i (suc k) none h =
        let rest : (held i ≡ false) → P (least size (select held (range (suc i) k))) =
        λ e. least_has (suc i) k
        (λ f. none (λ j a b. elim (ℕ_discrete i j) [ yes q ↦ rw (← q) e | no n ↦ f j (omega arith) (omega arith) ]))
        (λ j a b q. h j (omega arith) (omega arith) q) in
        on_test (held i)
        (λ e. rw e (best_has i (suc i) k (h i (omega arith) (omega arith) e) (λ j a b q. h j (omega arith) (omega arith) q)))
        (λ e. rw e (rest e))

-- ---- what a command can hold

-- the kinds whose values are symbols
abbrev pub has_symbols : Kind → Bool
has_symbols Bits = true
has_symbols Integer = true
has_symbols Real = false
has_symbols Text = false

-- the symbols of a value are of the nine
pub value_symbols : (kind : Kind) (width : ℕ) (value : List ℕ) → has_symbols kind ≡ true → value_allowed kind width value ≡ true → all is_symbol value ≡ true
unfolding value_allowed
value_symbols Bits width value k h = (and_both (eqb (length value) width) (all is_symbol value) h).1
value_symbols Integer width value k h = all_give is_bit is_symbol value bit_symbol (and_both (eqb (length value) width) (all is_bit value) h).1
value_symbols Real width value k h = absurd (false≢true k)
value_symbols Text width value k h = absurd (false≢true k)

-- and as many as its width
pub value_length : (kind : Kind) (width : ℕ) (value : List ℕ) → has_symbols kind ≡ true → value_allowed kind width value ≡ true → length value ≡ width
unfolding value_allowed
value_length Bits width value k h = eqb-true (length value) width (and_both (eqb (length value) width) (all is_symbol value) h).0
value_length Integer width value k h = eqb-true (length value) width (and_both (eqb (length value) width) (all is_bit value) h).0
value_length Real width value k h = absurd (false≢true k)
value_length Text width value k h = absurd (false≢true k)

-- the codes of symbols take 4 bits
nine_small : (value : List ℕ) → all is_symbol value ≡ true → all (λ x. ltb (code_of x) 16) value ≡ true
nine_small value h = all_give is_symbol (λ x. ltb (code_of x) 16) value (λ x e. let l = code_small x e in lt-ltb (code_of x) 16 (omega arith)) h

-- those of an integer take 1
pub integer_codes : (width : ℕ) (value : List ℕ) → value_allowed Integer width value ≡ true → all (λ x. ltb (code_of x) 2) value ≡ true
unfolding value_allowed
integer_codes width value v =
    all_give is_bit (λ x. ltb (code_of x) 2) value (λ x e. lt-ltb (code_of x) 2 (bit_code x e)) (and_both (eqb (length value) width) (all is_bit value) v).1

-- the commands from 3 on have no data
pub no_data : (c : ℕ) → 3 ≤ c → symbol_size c ≡ 0
unfolding symbol_size
no_data c h =
    let a : c ≡ 0 → ⊥ = omega arith in
    let b : c ≡ 1 → ⊥ = omega arith in
    let d : c ≡ 2 → ⊥ = omega arith in
    simp (ne_eqb c 0 a, ne_eqb c 1 b, ne_eqb c 2 d)

module _ (kind : Kind) (value : List ℕ) where
  -- a command from 3 on holds a value of its one symbol
  one_held : (c : ℕ) → 3 ≤ c → command_allowed kind c ≡ true → all (λ x. eqb x (symbol_of (c - 3))) value ≡ true → can_hold kind value c ≡ true
  unfolding can_hold
  one_held c l a h = rw (a, no_data c l) h

  -- and no other
  pub held_one : (c : ℕ) → 3 ≤ c → can_hold kind value c ≡ true → all (λ x. eqb x (symbol_of (c - 3))) value ≡ true
  unfolding can_hold
  held_one c l h = (and_both (command_allowed kind c) _ (rw (no_data c l) at h)).1

  -- a command below 3 holds the symbols whose codes take its bits
  codes_held : (c : ℕ) → c < 3 → command_allowed kind c ≡ true → all (λ x. ltb (code_of x) (2 ^ symbol_size c)) value ≡ true → can_hold kind value c ≡ true
  unfolding can_hold symbol_size
  codes_held zero l a h = rw a h
  codes_held (suc zero) l a h = rw a h
  codes_held (suc (suc zero)) l a h = rw a h
  codes_held (suc (suc (suc c))) l a h = absurd (omega arith)

  -- and no others
  pub held_codes : (c : ℕ) → c < 3 → can_hold kind value c ≡ true → all (λ x. ltb (code_of x) (2 ^ symbol_size c)) value ≡ true
  unfolding can_hold symbol_size
  held_codes zero l h = (and_both (command_allowed kind 0) _ h).1
  held_codes (suc zero) l h = (and_both (command_allowed kind 1) _ h).1
  held_codes (suc (suc zero)) l h = (and_both (command_allowed kind 2) _ h).1
  held_codes (suc (suc (suc c))) l h = absurd (omega arith)

-- a command that holds a value is one of its kind's
pub held_allowed : (kind : Kind) (value : List ℕ) (c : ℕ) → can_hold kind value c ≡ true → command_allowed kind c ≡ true
unfolding can_hold
held_allowed kind value c h = (and_both (command_allowed kind c) _ h).0

-- ---- the command of a value

-- the bytes of a value's data under a command
abbrev data_bytes : List ℕ → ℕ → ℕ
data_bytes value c = packed_size (symbol_size c) (length value)

-- of symbols, it is the lowest of the least
least_command : (kind : Kind) (value : List ℕ) → has_symbols kind ≡ true → command_for kind value ≡ least (data_bytes value) (select (can_hold kind value) (range 0 12))
unfolding command_for
least_command Bits value k = refl
least_command Integer value k = refl
least_command Real value k = absurd (false≢true k)
least_command Text value k = absurd (false≢true k)

-- every command is one of 0 to B
pub command_bound : (kind : Kind) (value : List ℕ) → command_for kind value ≤ 11
unfolding command_for
command_bound Bits value = least_has (data_bytes value) (can_hold Bits value) (λ c. c ≤ 11) 0 12 (λ _. omega arith) (λ j a b e. omega arith)
command_bound Integer value = least_has (data_bytes value) (can_hold Integer value) (λ c. c ≤ 11) 0 12 (λ _. omega arith) (λ j a b e. omega arith)
command_bound Real value = omega arith
command_bound Text value = omega arith

-- and takes 4 bits
pub command_small : (kind : Kind) (value : List ℕ) → command_for kind value < 16
command_small kind value = let h = command_bound kind value in omega arith

-- a command with data takes a byte at least
some_data : (value : List ℕ) (c : ℕ) → 1 ≤ length value → c < 3 → 0 < data_bytes value c
unfolding packed_size symbol_size
some_data value zero h l = omega arith
some_data value (suc zero) h l = omega arith
some_data value (suc (suc zero)) h l = omega arith
some_data value (suc (suc (suc c))) h l = absurd (omega arith)

-- one without takes none
none_taken : (value : List ℕ) (c : ℕ) → 3 ≤ c → data_bytes value c ≡ 0
unfolding packed_size
none_taken value c h = rw (no_data c h) (omega arith)

-- of the commands with data, a lower one takes no more
more_data : (value : List ℕ) (d c : ℕ) → c < d → d < 3 → data_bytes value c ≤ data_bytes value d
unfolding packed_size symbol_size
more_data value zero c l h = absurd (omega arith)
more_data value (suc zero) zero l h = omega arith
more_data value (suc zero) (suc c) l h = absurd (omega arith)
more_data value (suc (suc zero)) zero l h = omega arith
more_data value (suc (suc zero)) (suc zero) l h = omega arith
more_data value (suc (suc zero)) (suc (suc c)) l h = absurd (omega arith)
more_data value (suc (suc (suc d))) c l h = absurd (omega arith)

-- ---- the command, by the symbols

-- what holds of each of some that are all one, holds of that one
of_the_one : (p : ℕ → Bool) (l : List ℕ) (b : ℕ) → 1 ≤ length l → all (λ x. eqb x b) l ≡ true → all p l ≡ true → p b ≡ true
unfolding all
of_the_one p [] b n h a = absurd (omega arith)
of_the_one p (x ∷ l) b n h a = rw (← eqb-true x b (and_both (eqb x b) (all (λ y. eqb y b) l) h).0) (and_both (p x) (all p l) a).0

-- the command of one bit is one of an integer's
bit_command : (b : ℕ) → is_bit b ≡ true → command_allowed Integer (3 + code_of b) ≡ true
unfolding command_allowed code_of place_of
bit_command b h = bit_is b h (λ e. rw e) (λ e. rw e)

-- the command of one symbol is one of its kind's
one_allowed : (kind : Kind) (width : ℕ) (value : List ℕ) (b : ℕ) → has_symbols kind ≡ true → value_allowed kind width value ≡ true → 1 ≤ length value
    → all (λ x. eqb x b) value ≡ true → command_allowed kind (3 + code_of b) ≡ true
unfolding value_allowed command_allowed
one_allowed Bits width value b k v n h =
    let small = code_small b (of_the_one is_symbol value b n h (value_symbols Bits width value k v)) in
    le-leb (3 + code_of b) 11 (omega arith)
one_allowed Integer width value b k v n h = bit_command b (of_the_one is_bit value b n h (and_both (eqb (length value) width) (all is_bit value) v).1)
one_allowed Real width value b k v n h = absurd (false≢true k)
one_allowed Text width value b k v n h = absurd (false≢true k)

-- command 0 is one of every kind's
first_allowed : (kind : Kind) → command_allowed kind 0 ≡ true
unfolding command_allowed
first_allowed Bits = refl
first_allowed Integer = refl
first_allowed Real = refl
first_allowed Text = refl

module _ (kind : Kind) (width : ℕ) (value : List ℕ) (symbolic : has_symbols kind ≡ true) (allowed : value_allowed kind width value ≡ true) where
  -- all symbols are one: the command of that symbol
  pub command_one : (b : ℕ) → 1 ≤ length value → all (λ x. eqb x b) value ≡ true → command_for kind value ≡ 3 + code_of b
  command_one b n h =
      let is-symbol = of_the_one is_symbol value b n h (value_symbols kind width value symbolic allowed) in
      let small = code_small b is-symbol in
      let none : data_bytes value (3 + code_of b) ≡ 0 = none_taken value (3 + code_of b) (omega arith) in
      let same : 3 + code_of b - 3 ≡ code_of b = omega arith in
      let all_one : all (λ x. eqb x (symbol_of (3 + code_of b - 3))) value ≡ true = rw (same, symbol_of_code b is-symbol) h in
      let one_is : (j : ℕ) → 3 ≤ j → j < 3 + code_of b → can_hold kind value j ≡ true → ⊥ = λ j l m e.
      let q = eqb-true b (symbol_of (j - 3)) (of_the_one (λ x. eqb x (symbol_of (j - 3))) value b n h (held_one kind value j l e)) in
      let r : code_of b ≡ j - 3 = ap code_of q ∙ code_of_symbol (j - 3) (omega arith) in
      omega arith in
      least_command kind value symbolic
      ∙ least_is (data_bytes value) (can_hold kind value) (3 + code_of b)
      (one_held kind value (3 + code_of b) (omega arith) (one_allowed kind width value b symbolic allowed n h) all_one)
      0 12 (omega arith) (omega arith)
      (λ j _ l e. elim (dec_le 3 j) [
        | yes m ↦ absurd (one_is j m l e)
        | no m ↦ (let t = some_data value j n (omega arith) in omega arith)
      ])
      (λ j _ l e. omega arith)

  module _ (mixed : all (λ x. eqb x (get_or value 0 0)) value ≡ false) where
    -- no command without data holds them
    not_one : (j : ℕ) → 3 ≤ j → can_hold kind value j ≡ true → ⊥
    not_one j l e = false≢true (sym mixed ∙ one_is_first (symbol_of (j - 3)) value (held_one kind value j l e))

    -- the lowest command with data that holds them is theirs
    lowest_with_data : (c : ℕ) → c < 3 → can_hold kind value c ≡ true → ((j : ℕ) → j < c → can_hold kind value j ≡ true → ⊥) → command_for kind value ≡ c
    lowest_with_data c l h before =
        least_command kind value symbolic
        ∙ least_is (data_bytes value) (can_hold kind value) c h 0 12 (omega arith) (omega arith)
        (λ j _ m e. absurd (before j m e))
        (λ j m _ e. elim (dec_le 3 j) [ yes q ↦ absurd (not_one j q e) | no q ↦ more_data value j c m (omega arith) ])

    -- codes of 1 bit: command 0
    pub command_0 : all (λ x. ltb (code_of x) 2) value ≡ true → command_for kind value ≡ 0
    unfolding symbol_size
    command_0 h = lowest_with_data 0 (lit< tt) (codes_held kind value 0 (lit< tt) (first_allowed kind) h) (λ j l e. omega arith)

-- bits of more than one symbol
module _ (width : ℕ) (value : List ℕ) (allowed : value_allowed Bits width value ≡ true) (mixed : all (λ x. eqb x (get_or value 0 0)) value ≡ false)
    (not-1 : all (λ x. ltb (code_of x) 2) value ≡ false) where
  -- codes of 2 bits: command 1
  pub command_1 : all (λ x. ltb (code_of x) 4) value ≡ true → command_for Bits value ≡ 1
  unfolding symbol_size command_allowed
  command_1 h = lowest_with_data Bits width value refl allowed mixed 1 (lit< tt) (codes_held Bits value 1 (lit< tt) refl h) before
    where
      before : (j : ℕ) → j < 1 → can_hold Bits value j ≡ true → ⊥
      before zero l e = false≢true (sym not-1 ∙ held_codes Bits value 0 (lit< tt) e)
      before (suc j) l e = omega arith

  -- codes of 4 bits: command 2
  pub command_2 : all (λ x. ltb (code_of x) 4) value ≡ false → command_for Bits value ≡ 2
  unfolding symbol_size command_allowed
  command_2 h = lowest_with_data Bits width value refl allowed mixed 2 (lit< tt) (codes_held Bits value 2 (lit< tt) refl (nine_small value (value_symbols Bits width value refl allowed))) before
    where
      before : (j : ℕ) → j < 2 → can_hold Bits value j ≡ true → ⊥
      before zero l e = false≢true (sym not-1 ∙ held_codes Bits value 0 (lit< tt) e)
      before (suc zero) l e = false≢true (sym h ∙ held_codes Bits value 1 (lit< tt) e)
      before (suc (suc j)) l e = omega arith

-- ---- lengths

-- n bytes
pub length_pack : (b n : ℕ) (codes : List ℕ) → length (pack b n codes) ≡ n
unfolding pack
length_pack b zero codes = refl
length_pack b (suc n) codes = ap suc (length_pack b n (drop (8 / b) codes))

-- the bytes of a value's symbols under a command
pub length_packed : (c : ℕ) (value : List ℕ) → length (packed_symbols c value) ≡ packed_size (symbol_size c) (length value)
unfolding packed_symbols
length_packed c value = length_pack (symbol_size c) (packed_size (symbol_size c) (length value)) (map code_of value)

-- the bytes of a change
pub length_change : (kind : Kind) (delta : ℕ) (value : List ℕ) → length (change_bytes kind delta value) ≡ 1 + fewest_bytes delta + length (data_for kind value)
unfolding change_bytes
length_change kind delta value =
    let a = length-append (big_endian (fewest_bytes delta) delta) (data_for kind value) in
    let b = length_big_endian (fewest_bytes delta) delta in
    omega arith

-- k bytes for a delta: 1 to 4, which hold it
pub record FewestBytes (delta k : ℕ) : Type 0 where
  pub some : 1 ≤ k
  pub most : k ≤ 4
  pub hold : delta < 4294967296 → delta < 256 ^ k

-- the fewest are such
pub fewest_bytes_lem : (delta : ℕ) → FewestBytes delta (fewest_bytes delta)
unfolding fewest_bytes
fewest_bytes_lem delta =
    on_test (ltb delta 256)
    (λ e. rw e (record { some = omega arith; most = omega arith; hold = λ _. ltb-true delta 256 e }))
    (λ e. rw e (on_test (ltb delta 65536)
    (λ f. rw f (record { some = omega arith; most = omega arith; hold = λ _. ltb-true delta 65536 f }))
    (λ f. rw f (on_test (ltb delta 16777216)
    (λ g. rw g (record { some = omega arith; most = omega arith; hold = λ _. ltb-true delta 16777216 g }))
    (λ g. rw g (record { some = omega arith; most = omega arith; hold = λ h. h }))))))

-- a change takes two bytes at least
pub change_long : (kind : Kind) (delta : ℕ) (value : List ℕ) → 2 ≤ length (change_bytes kind delta value)
change_long kind delta value = let e = length_change kind delta value in let f = fewest_bytes_lem delta in omega arith

-- ---- bounds of bytes

-- the command byte, which is a change's first, leaves its top two bits 0
pub head_small : (kind : Kind) (delta : ℕ) (value : List ℕ) → 16 * (fewest_bytes delta - 1) + command_for kind value < 64
head_small kind delta value = let f = fewest_bytes_lem delta in let c = command_bound kind value in omega arith

-- k codes of b bits take b * k bits
pub codes_small : (b k : ℕ) (codes : List ℕ) → ((i : ℕ) → get_or codes i 0 < 2 ^ b) → packed_codes b k codes < 2 ^ (b * k)
unfolding packed_codes
codes_small b zero codes h = let e : b * 0 ≡ 0 = omega arith in rw e (omega arith)
codes_small b (suc k) codes h =
    let rest = codes_small b k (drop 1 codes) (λ i. rw (get_or-drop 1 codes i 0) (h (1 + i))) in
    let e : b * suc k ≡ b + b * k = omega (arith, mul-suc b k) in
    rw (e, pow-add 2 b (b * k)) (digits_lt (h 0) rest)

-- the codes of symbols that a command holds, at every place
pub codes_below : (m : ℕ) → 0 < m → (value : List ℕ) → all (λ x. ltb (code_of x) m) value ≡ true → (i : ℕ) → get_or (map code_of value) i 0 < m
unfolding all
codes_below m p [] h i = p
codes_below m p (x ∷ l) h zero = ltb-true (code_of x) m (and_both (ltb (code_of x) m) (all (λ y. ltb (code_of y) m) l) h).0
codes_below m p (x ∷ l) h (suc i) = codes_below m p l (and_both (ltb (code_of x) m) (all (λ y. ltb (code_of y) m) l) h).1 i

-- ---- the command holds the value

-- some command does: for bits command 2, for an integer command 0
some_command : (kind : Kind) (width : ℕ) (value : List ℕ) → has_symbols kind ≡ true → value_allowed kind width value ≡ true → (c : ℕ) × (c < 12) × (can_hold kind value c ≡ true)
unfolding symbol_size command_allowed
some_command Bits width value k v = (2, lit< tt, codes_held Bits value 2 (lit< tt) refl (nine_small value (value_symbols Bits width value k v)))
some_command Integer width value k v = (0, lit< tt, codes_held Integer value 0 (lit< tt) refl (integer_codes width value v))
some_command Real width value k v = absurd (false≢true k)
some_command Text width value k v = absurd (false≢true k)

-- so the one that is written does
pub command_holds : (kind : Kind) (width : ℕ) (value : List ℕ) → has_symbols kind ≡ true → value_allowed kind width value ≡ true → can_hold kind value (command_for kind value) ≡ true
command_holds kind width value k v =
    let w = some_command kind width value k v in
    rw (least_command kind value k)
    (least_has (data_bytes value) (can_hold kind value) (λ c. can_hold kind value c ≡ true) 0 12
    (λ none. absurd (false≢true (sym (none w.0 (omega arith) (omega (arith, w.1))) ∙ w.2)))
    (λ j a b e. e))
