-- What proofs over tables share: tests of a count, a thing past the last, and the rest of a viewed list. Assumes nothing.
use native.Mathlib.Omega.{arith as lin}
use native.Mathlib.Decide.{dec_lt}
use native.Mathlib.Numerals.{add-one}
use mathlib.Core.Path.{◌≡◌, sym, ap, ◌∙◌}
use mathlib.Core.List.{◌∷◌}
use Prim.Native.Nat.{ℕ, suc, ◌+◌, ◌<◌, ◌≤◌, min}
use lib.ListN.{get_or, drop, get_or-eq_default}
use lib.Seq.{drop-cons}
use Rattle.rules.specs.View.{tab}
use Rattle.rules.proofs.Laws.Lists.{tab_length, tab_in}

-- what a test of a count says of what it counts
pub below : {i n m : ℕ} → n ≡ m → i < n → i < m
below e h = omega (lin, e, h)

pub above : {i n m : ℕ} → n ≡ m → n ≤ i → m ≤ i
above e h = omega (lin, e, h)

-- where all from n on are alike, the least of v and n does for v
clamped_by : {A : Type 0} (f : ℕ → A) (d : A) (n v m : ℕ) → m ≡ min v n → ((u : ℕ) → n ≤ u → f u ≡ d) → Dec (v < n) → f m ≡ f v
clamped_by f d n v m e past (yes h) = ap f (omega (lin, e, h))
clamped_by f d n v m e past (no h) = past m (omega (lin, e, h)) ∙ sym (past v (omega (lin, h)))

pub clamped : {A : Type 0} (f : ℕ → A) (d : A) (n v m : ℕ) → m ≡ min v n → ((u : ℕ) → n ≤ u → f u ≡ d) → f m ≡ f v
clamped f d n v m e past = clamped_by f d n v m e past (dec_lt v n)

-- ---- a viewed list, element by element

module _ {A : Type 0} (n : ℕ) (f : ℕ → A) (i : ℕ) where
  pub tab_out : (d : A) → n ≤ i → get_or (tab n f) i d ≡ d
  tab_out d h = get_or-eq_default (tab n f) d (rw (tab_length n f) h)

  -- what a loop over it has left: one more, or nothing
  pub tab_drop : A → i < n → drop i (tab n f) ≡ f i ∷ drop (i + 1) (tab n f)
  tab_drop d h =
      rw (add-one i)
      (drop-cons (tab n f) i d (rw (tab_length n f) h) ∙ ap (λ (x : A). x ∷ drop (suc i) (tab n f)) (tab_in n f i d h))
