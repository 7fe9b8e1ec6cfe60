-- A number that is no key of a `match` with the keys from 0 on stands past the end of the list of its arms. Assumes nothing.
use Prim.Native.Nat.{ℕ, zero, suc, ◌≤◌}
use mathlib.Core.Path.{◌≡◌}
use mathlib.Core.List.{List}
use native.Mathlib.Omega.{arith as lin}
use lib.ListN.{length, get_or, get_or-eq_default}

-- what the keys from 0 to one less than n leave
abbrev pub NoneOf : ℕ → ℕ → Type 0
NoneOf zero k = Unit
NoneOf (suc n) k = NoneOf n k × (k ≡ n → ⊥)

past : (n k : ℕ) → NoneOf n k → n ≤ k
past zero k h = omega lin
past (suc n) k h = omega (lin, past n k h.0, h.1)

pub past_all : {A : Type 0} (l : List A) (d : A) (k : ℕ) → NoneOf (length l) k → get_or l k d ≡ d
past_all l d k h = get_or-eq_default l d (past (length l) k h)
