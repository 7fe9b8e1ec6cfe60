-- A whole number by its sign, and as a place among n; what a caller reads off such a place. Assumes nothing.
use Rattle.std.specs.Prelude.{◌≡◌, Some, None, Option}
use Rattle.rules.specs.Prelude.{ℕ, Bool, true, false, refl, ℤ, pos, negsuc}
use Rattle.rules.specs.When.{need}
use Rattle.rules.specs.Numbers.{among, nat_of}
use Rattle.number.specs.declared.Sign.{Sign}
use Rattle.number.specs.declared.Sign.TheVariants.{Plus, Minus}

unfoldable pub sign_of : ℤ → Sign
sign_of (pos k) = Plus k
sign_of (negsuc k) = Minus k

-- z, if it is from 0 to one less than n
unfoldable pub index_in : ℤ → ℕ → (Option ℕ)
index_in z n = need None (among z n) (Some (nat_of z))

-- ---- laws

by_test : (t : Bool) (j k : ℕ) → need None t (Some j) ≡ Some k → (t ≡ true) × (j ≡ k)
by_test true j k e = (refl, cc)
by_test false j k e = (cc, cc)

no_test : (t : Bool) (j : ℕ) → need None t (Some j) ≡ None → t ≡ false
no_test true j e = cc
no_test false j e = refl

pub index_at : (z : ℤ) (n : ℕ) {k : ℕ} → index_in z n ≡ Some k → (among z n ≡ true) × (nat_of z ≡ k)
unfolding index_in
index_at z n {k} e = by_test (among z n) (nat_of z) k e

pub index_out : (z : ℤ) (n : ℕ) → index_in z n ≡ None → among z n ≡ false
unfolding index_in
index_out z n e = no_test (among z n) (nat_of z) e
