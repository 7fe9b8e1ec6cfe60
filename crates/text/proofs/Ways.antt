-- The readers of numbers and words at a place of a text: one law for each way that the code goes. Assumes nothing.
use native.Mathlib.Numerals.{add-one}
use native.Mathlib.Decide.{dec_lt}
use native.Mathlib.Omega.{arith}
use lib.ListN.{drop_of_length-le}
use lib.Seq.{drop-cons}
use borrow.Author.Tests.{lt-ltb, le-ltb, eq-eqb, ne_eqb}
use Rattle.std.specs.Prelude.{◌+◌, ◌-◌, ◌*◌, ◌<◌, ◌≤◌, ◌&&◌, ◌≡◌, Ok, Err}
use Rattle.rules.specs.Prelude.{ℕ, suc, max, Bool, true, false, not, List, refl, sym, ap, ◌∙◌, eqb, length, get_or, drop, Result}
use Rattle.rules.specs.Text.Words.{Reading}
use Rattle.rules.specs.When.{when}
use Rattle.rules.proofs.Laws.Tests.{by_when}
use Rattle.text.proofs.Laws.{inside, get_d_any}
use Rattle.rules.specs.Text.Words.{byte_at, more_digits, magnitude_at, plain_at, minus, number_at, agreed, or_word, byte_is, var_at, operator_at, head_of, operator_head, head_at}

-- one of two, by two tests
choice : {A : Type 0} (x y : Bool) (o w : A) (v : Bool) → v ≡ (x && not y) → when x (λ _. when y (λ _. o) (λ _. w)) (λ _. o) ≡ when v (λ _. w) (λ _. o)
choice true true o w v e = rw e
choice true false o w v e = rw e
choice false y o w v e = rw e

-- ---- digits, at i

module _ (s : List ℕ) (i v most : ℕ) where
  pub at_end : length s ≤ i → more_digits (drop i s) i v most ≡ Ok (v, i)
  unfolding more_digits
  at_end h = rw (drop_of_length-le s)

  module _ (h : i < length s) where
    pub at_low : get_or s i 0 < 48 → more_digits (drop i s) i v most ≡ Ok (v, i)
    unfolding more_digits
    at_low a = rw (drop-cons s i 0, lt-ltb (get_or s i 0) 48)

    pub at_high : 48 ≤ get_or s i 0 → 57 < get_or s i 0 → more_digits (drop i s) i v most ≡ Ok (v, i)
    unfolding more_digits
    at_high a b = rw (drop-cons s i 0, le-ltb (get_or s i 0) 48, lt-ltb 57 (get_or s i 0))

    module _ (a : 48 ≤ get_or s i 0) (b : get_or s i 0 ≤ 57) where
      pub at_zero : v ≡ 0 → more_digits (drop i s) i v most ≡ Err i
      unfolding more_digits
      at_zero e = rw (drop-cons s i 0, le-ltb (get_or s i 0) 48, le-ltb 57 (get_or s i 0), eq-eqb v 0)

      -- where v is 0, too
      pub at_over : most < v * 10 + (get_or s i 0 - 48) → more_digits (drop i s) i v most ≡ Err i
      unfolding more_digits
      at_over e =
          rw (drop-cons s i 0, le-ltb (get_or s i 0) 48, le-ltb 57 (get_or s i 0), lt-ltb most (v * 10 + (get_or s i 0 - 48)))
          (by_when (λ (r : Reading). r ≡ Err i) (eqb v 0) _ _ (λ _. refl) (λ _. refl))

      pub at_more : (v ≡ 0 → ⊥) → v * 10 + (get_or s i 0 - 48) ≤ most
          → more_digits (drop i s) i v most ≡ more_digits (drop (i + 1) s) (i + 1) (v * 10 + (get_or s i 0 - 48)) most
      unfolding more_digits
      at_more n e = rw (drop-cons s i 0, le-ltb (get_or s i 0) 48, le-ltb 57 (get_or s i 0), ne_eqb v 0, le-ltb most (v * 10 + (get_or s i 0 - 48)), add-one)

-- after a leading zero, by the byte there
module _ (s : List ℕ) (at : ℕ) {b : ℕ} (e : b ≡ byte_at s at) (most : ℕ) where
  pub zero_low : b < 48 → more_digits (drop at s) at 0 most ≡ Ok (0, at)
  zero_low l =
      let h : at < length s = inside s at (omega arith) in
      at_low s at 0 most h (omega (arith, get_d_any s at 0 256 h))

  high_by : 57 < b → Dec (at < length s) → more_digits (drop at s) at 0 most ≡ Ok (0, at)
  high_by g (yes h) = let x = get_d_any s at 0 256 h in at_high s at 0 most h (omega arith) (omega arith)
  high_by g (no h) = at_end s at 0 most (omega arith)

  pub zero_high : 57 < b → more_digits (drop at s) at 0 most ≡ Ok (0, at)
  zero_high g = high_by g (dec_lt at (length s))

  pub zero_digit : 48 ≤ b → b ≤ 57 → more_digits (drop at s) at 0 most ≡ Err at
  zero_digit l g =
      let h : at < length s = inside s at (omega arith) in
      let x = get_d_any s at 0 256 h in
      at_zero s at 0 most h (omega arith) (omega arith) refl

-- ---- a word and a text, at k and i

module _ (w s : List ℕ) (k i : ℕ) where
  pub word_ends : length w ≤ k → agreed (drop k w) (drop i s) ≡ 0
  unfolding agreed
  word_ends h = rw (drop_of_length-le w)

  module _ (h : k < length w) where
    pub text_ends : length s ≤ i → agreed (drop k w) (drop i s) ≡ 0
    unfolding agreed
    text_ends g = rw (drop_of_length-le s g, drop-cons w k 0)

    module _ (g : i < length s) where
      pub differs : (get_or s i 0 ≡ get_or w k 0 → ⊥) → agreed (drop k w) (drop i s) ≡ 0
      unfolding agreed
      differs n = rw (drop-cons s i 0 g, drop-cons w k 0 h, ne_eqb (get_or s i 0) (get_or w k 0))

      pub goes_on : get_or s i 0 ≡ get_or w k 0 → agreed (drop k w) (drop i s) ≡ suc (agreed (drop (k + 1) w) (drop (i + 1) s))
      unfolding agreed
      goes_on e = rw (drop-cons s i 0 g, drop-cons w k 0 h, eq-eqb (get_or s i 0) (get_or w k 0), add-one k, add-one i)

module _ (s : List ℕ) (at : ℕ) (w : List ℕ) (k p n : ℕ) (e : n ≡ agreed w (drop at s)) where
  pub or_hit : n ≡ length w → or_word s at w k (Err p) ≡ Ok (k, at + n)
  unfolding or_word
  or_hit h = rw (← e, eq-eqb n (length w) h) (ap (λ (x : ℕ). Ok (k, at + x)) (sym h))

  pub or_miss : (n ≡ length w → ⊥) → or_word s at w k (Err p) ≡ Err (max p (at + n))
  unfolding or_word
  or_miss h = rw (← e, ne_eqb n (length w))

-- ---- where the byte at `at` was read as b

module _ (s : List ℕ) (at : ℕ) {b : ℕ} (e : b ≡ byte_at s at) where
  module _ (low most : ℕ) where
    pub too_low : b < low → magnitude_at s at low most ≡ Err at
    unfolding magnitude_at
    too_low h = rw (← e, lt-ltb b low)

    module _ (l : low ≤ b) where
      pub too_high : 57 < b → magnitude_at s at low most ≡ Err at
      unfolding magnitude_at
      too_high h = rw (← e, le-ltb b low, lt-ltb 57 b)

      pub digit : b ≤ 57 → magnitude_at s at low most ≡ more_digits (drop (at + 1) s) (at + 1) (b - 48) most
      unfolding magnitude_at
      digit h = rw (← e, le-ltb b low, le-ltb 57 b)

      pub digit_zero : b ≡ 48 → magnitude_at s at low most ≡ more_digits (drop (at + 1) s) (at + 1) 0 most
      digit_zero h = digit (omega arith) ∙ ap (λ (v : ℕ). more_digits (drop (at + 1) s) (at + 1) v most) (omega arith)

  pub no_minus : (b ≡ 45 → ⊥) → number_at s at ≡ plain_at s at
  unfolding number_at
  no_minus h = rw (← e, ne_eqb b 45)

  pub after_minus : b ≡ 45 → number_at s at ≡ minus (magnitude_at s (at + 1) 49 2147483648)
  unfolding number_at
  after_minus h = rw (← e, eq-eqb b 45)

  pub byte_there : (x : ℕ) → b ≡ x → byte_is s at x ≡ Ok (at + 1)
  unfolding byte_is
  byte_there x h = rw (← e, eq-eqb b x)

  pub byte_not : (x : ℕ) → (b ≡ x → ⊥) → byte_is s at x ≡ Err at
  unfolding byte_is
  byte_not x h = rw (← e, ne_eqb b x)

  pub head_number : b < 58 → head_at s at ≡ head_of 1 (number_at s at)
  unfolding head_at
  head_number h = rw (← e, lt-ltb b 58)

  -- what is no number: a variable or an operator
  module _ (h : 58 ≤ b) {v : Bool} (q : v ≡ (eqb (byte_at s at) 118 && not (eqb (byte_at s (at + 1)) 97))) where
    pub head_variable : v ≡ true → head_at s at ≡ head_of 2 (var_at s at)
    unfolding head_at
    head_variable t = rw (le-ltb (byte_at s at) 58 (rw e at h)) (choice (eqb (byte_at s at) 118) (eqb (byte_at s (at + 1)) 97) _ _ v q ∙ rw t)

    pub head_operator : v ≡ false → head_at s at ≡ operator_head s (operator_at s at)
    unfolding head_at
    head_operator t = rw (le-ltb (byte_at s at) 58 (rw e at h)) (choice (eqb (byte_at s at) 118) (eqb (byte_at s (at + 1)) 97) _ _ v q ∙ rw t)

-- ---- on from a byte that was passed

module _ {A : Type 0} (go : ℕ → Result A ℕ) (at : ℕ) where
  bad_by : (t : Bool) {p : ℕ} → when t (λ _. Ok (at + 1)) (λ _. Err at) ≡ Err p → when t (λ _. go (at + 1)) (λ _. Err at) ≡ Err p
  bad_by true e = absurd (grind arith)
  bad_by false e = ap Err (grind arith)

  good_by : (t : Bool) {n : ℕ} → when t (λ _. Ok (at + 1)) (λ _. Err at) ≡ Ok n → when t (λ _. go (at + 1)) (λ _. Err at) ≡ go n
  good_by true e = ap go (grind arith)
  good_by false e = absurd (grind arith)

module _ (s : List ℕ) (at : ℕ) where
  pub var_not : {p : ℕ} → byte_is s at 118 ≡ Err p → var_at s at ≡ Err p
  unfolding byte_is var_at
  var_not e = bad_by (plain_at s) at (eqb (byte_at s at) 118) e

  pub var_there_lem : {n : ℕ} → byte_is s at 118 ≡ Ok n → var_at s at ≡ plain_at s n
  unfolding byte_is var_at
  var_there_lem e = good_by (plain_at s) at (eqb (byte_at s at) 118) e

  pub val_short : {p : ℕ} → byte_is s at 32 ≡ Err p → operator_head s (Ok (5, at)) ≡ Err p
  unfolding byte_is
  val_short e = bad_by (λ n. head_of 5 (plain_at s n)) at (eqb (byte_at s at) 32) e

  pub val_row : {n : ℕ} → byte_is s at 32 ≡ Ok n → operator_head s (Ok (5, at)) ≡ head_of 5 (plain_at s n)
  unfolding byte_is
  val_row e = good_by (λ n. head_of 5 (plain_at s n)) at (eqb (byte_at s at) 32) e

pub no_val : (s : List ℕ) (op n : ℕ) → (op ≡ 5 → ⊥) → operator_head s (Ok (op, n)) ≡ Ok (op, 0, n)
no_val s op n h = rw (ne_eqb op 5)
