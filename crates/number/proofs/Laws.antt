-- Laws on signed numbers: what a sign says of the bits, how large sums and products are, and what a place among n is. Assumes nothing.
use Prim.Native.Nat.{◌^◌}
use native.Mathlib.Omega.{arith}
use native.Mathlib.Nat.{mul-le-mul, le_trans, le_refl}
use mathlib.Core.Bool.{cond}
use lib.Dec.{T}
use lib.IntN.{ℤ_discrete, neg_ℤ, nat_abs}
use lib.Signed.{mag, lt_z, non_neg}
use borrow.Author.Tests.{eq-eqb, ne_eqb, lt-ltb, le-ltb, ltb-true}
use mir.Syntax.{Width, w32, w64}
use mir.Val.{SFits, Fits, of_z, to_z, bits, hbits}
use mir.ValLaws.{half_full}
use mir.Facts.{to_z-of_z, Fits-nat_abs, sfits_widen, to_z_pos}
use Rattle.std.specs.Prelude.{◌+◌, ◌-◌, ◌*◌, ◌%◌, ◌≤◌, ◌<◌, ◌≡◌, ◌+ℤ◌, ◌-ℤ◌, ◌*ℤ◌, Some, None}
use Rattle.rules.specs.Prelude.{ℕ, zero, suc, Bool, true, false, ltb, eqb, refl, sym, ap, ap₂, ◌∙◌, subst, ℤ, pos, negsuc}
use Rattle.rules.specs.Numbers.{num, eq_z, num_code, wrap32}
use Rattle.number.specs.declared.Sign.TheVariants.{Plus, Minus}
use Rattle.number.specs.Places.{sign_of, index_in}

true≠false : true ≡ false → ⊥
true≠false e = subst T e tt

-- ---- a signed local holds bits: what a test `z < 0` says of z, and of the bits flipped, at every width

neg_is : (z : ℤ) → lt_z z (pos 0) ≡ true → z ≡ negsuc (mag z)
neg_is (pos n) e = absurd (omega (arith, ltb-true n 0 e))
neg_is (negsuc n) e = refl

pos_is : (z : ℤ) → lt_z z (pos 0) ≡ false → z ≡ pos (nat_abs z)
pos_is (pos n) e = refl
pos_is (negsuc n) e = absurd (true≠false e)

module _ {w : Width} {z : ℤ} (h : SFits w z) where
  pub negative : lt_z (to_z w (of_z w z)) (pos 0) ≡ true → z ≡ negsuc (mag z)
  negative t = neg_is z (simp (to_z-of_z h) at t)

  pub positive : lt_z (to_z w (of_z w z)) (pos 0) ≡ false → z ≡ pos (nat_abs z)
  positive t = pos_is z (simp (to_z-of_z h) at t)

  -- cast to an unsigned type that holds it
  pub unsigned : {w' : Width} → T (ltb (hbits w) (bits w')) → lt_z (to_z w (of_z w z)) (pos 0) ≡ false →
      T (non_neg (to_z w (of_z w z))) × Fits w' (nat_abs (to_z w (of_z w z)))
  unsigned u t = rw (to_z-of_z h) (rw (positive t) tt, Fits-nat_abs u h)

flips : {w : Width} (z : ℤ) → SFits w z → lt_z z (pos 0) ≡ true → to_z w ((2 ^ bits w - 1) - of_z w z) ≡ pos (mag z)
flips (pos n) h e = absurd (omega (arith, ltb-true n 0 e))
flips {w} (negsuc n) h e =
    let s : n < 2 ^ bits w = half_full w h.sfits in
    let f : 2 ^ bits w - 1 - (2 ^ bits w - suc n) ≡ n = omega arith in
    ap (to_z w) f ∙ to_z_pos w h.sfits

module _ {w : Width} {z : ℤ} (h : SFits w z) (t : lt_z (to_z w (of_z w z)) (pos 0) ≡ true) where
  -- `!z` of a z below 0
  pub flip : to_z w ((2 ^ bits w - 1) - of_z w z) ≡ pos (mag z)
  flip = flips z h (simp (to_z-of_z h) at t)

  pub flip_unsigned : T (non_neg (to_z w ((2 ^ bits w - 1) - of_z w z))) × Fits w (nat_abs (to_z w ((2 ^ bits w - 1) - of_z w z)))
  flip_unsigned = rw flip (tt, record { fits = half_full w h.sfits })

-- a test of the bits of two signed numbers is the test of the numbers
eq_z_refl : (a : ℤ) → eq_z a a ≡ true
eq_z_refl (pos n) = eq-eqb n n refl
eq_z_refl (negsuc n) = eq-eqb n n refl

eq_z_no : (a b : ℤ) → (a ≡ b → ⊥) → eq_z a b ≡ false
eq_z_no (pos a) (pos b) n = ne_eqb a b (λ e. n (ap pos e))
eq_z_no (pos a) (negsuc b) n = refl
eq_z_no (negsuc a) (pos b) n = refl
eq_z_no (negsuc a) (negsuc b) n = ne_eqb a b (λ e. n (ap negsuc e))

eqb_by : {w : Width} {a b : ℤ} → SFits w a → SFits w b → Dec (a ≡ b) → eqb (of_z w a) (of_z w b) ≡ eq_z a b
eqb_by {w} {a} h k (yes p) = eq-eqb _ _ (ap (of_z w) p) ∙ sym (subst (λ (z : ℤ). eq_z a z ≡ true) p (eq_z_refl a))
eqb_by {w} {a} {b} h k (no f) = ne_eqb _ _ (λ e. f (sym (to_z-of_z h) ∙ ap (to_z w) e ∙ to_z-of_z k)) ∙ sym (eq_z_no a b f)

pub eqb_is : {w : Width} {a b : ℤ} → SFits w a → SFits w b → eqb (of_z w a) (of_z w b) ≡ eq_z a b
eqb_is {a = a} {b = b} h k = eqb_by h k (ℤ_discrete a b)

-- the number of a word goes by its low 32 bits
pub by_low : (v w : ℕ) → v ≡ w % 4294967296 → num (to_z w32 v) ≡ num_code w
unfolding num_code
by_low v w e = ap (λ (n : ℕ). num (to_z w32 n)) e

pub low_again : (w : ℕ) → num_code (w % 4294967296) ≡ num_code w
unfolding num_code
low_again w = by_low (w % 4294967296 % 4294967296) w (omega arith)

-- ---- how large a sum, a difference and a product are

cond_mag : (t : Bool) (x y n : ℕ) → x ≤ n → y ≤ n → mag (cond t (negsuc x) (pos y)) ≤ n
cond_mag true x y n p q = p
cond_mag false x y n p q = q

sum_mag : (a b : ℤ) → mag (a +ℤ b) ≤ suc (mag a + mag b)
sum_mag (pos a) (pos b) = omega arith
sum_mag (pos a) (negsuc b) = cond_mag (ltb a (suc b)) _ _ _ (omega arith) (omega arith)
sum_mag (negsuc a) (pos b) = cond_mag (ltb b (suc a)) _ _ _ (omega arith) (omega arith)
sum_mag (negsuc a) (negsuc b) = omega arith

neg_mag : (a : ℤ) → mag (neg_ℤ a) ≤ suc (mag a)
neg_mag (pos zero) = omega arith
neg_mag (pos (suc n)) = omega arith
neg_mag (negsuc n) = omega arith

neg_pos : (n : ℕ) → mag (neg_ℤ (pos n)) ≤ n
neg_pos zero = omega arith
neg_pos (suc n) = omega arith

mul_mag : (a b : ℤ) → mag (a *ℤ b) ≤ suc (mag a) * suc (mag b)
mul_mag (pos a) (pos b) = mul-le-mul (omega arith) (omega arith)
mul_mag (pos a) (negsuc b) = le_trans (neg_pos (a * suc b)) (mul-le-mul (omega arith) (omega arith))
mul_mag (negsuc a) (pos b) = le_trans (neg_pos (suc a * b)) (mul-le-mul (omega arith) (omega arith))
mul_mag (negsuc a) (negsuc b) = le_refl _

-- two 32-bit numbers, widened to 64 bits: nothing is lost, and their sum, difference and product fit
abbrev pub Wide : ℤ → ℤ
Wide z = to_z w64 (of_z w64 (to_z w32 (of_z w32 z)))

pub widens : {z : ℤ} → SFits w32 z → SFits w64 (to_z w32 (of_z w32 z))
widens h = rw (to_z-of_z h) (sfits_widen tt h)

abbrev pub Both : ℤ → ℤ → Type 0
Both a b = SFits w32 a × SFits w32 b

pub sum_fits : (a b : ℤ) → Both a b → SFits w64 (a +ℤ b)
sum_fits a b h = record { sfits = omega (arith, sum_mag a b, h.0.sfits, h.1.sfits) }

pub sub_fits : (a b : ℤ) → Both a b → SFits w64 (a -ℤ b)
sub_fits a b h = record { sfits = omega (arith, sum_mag a (neg_ℤ b), neg_mag b, h.0.sfits, h.1.sfits) }

pub mul_fits : (a b : ℤ) → Both a b → SFits w64 (a *ℤ b)
mul_fits a b h =
    let p : suc (mag a) * suc (mag b) ≤ 2147483648 * 2147483648 = mul-le-mul h.0.sfits h.1.sfits in
    record { sfits = omega (arith, mul_mag a b) }

pub two_wide : {A : Type 0} (f : ℤ → ℤ → A) {a b : ℤ} → Both a b → f (Wide a) (Wide b) ≡ f a b
two_wide f h = ap₂ f (to_z-of_z (widens h.0) ∙ to_z-of_z h.0) (to_z-of_z (widens h.1) ∙ to_z-of_z h.1)

-- of an operation whose results fit
module _ (f : ℤ → ℤ → ℤ) (fits : (x y : ℤ) → Both x y → SFits w64 (f x y)) {a b : ℤ} (h : Both a b) where
  pub wide_fits : SFits w64 (f (Wide a) (Wide b))
  wide_fits = rw (two_wide f h) (fits a b h)

  pub wide_wraps : wrap32 (to_z w64 (of_z w64 (f (Wide a) (Wide b)))) ≡ wrap32 (f a b)
  wide_wraps = ap wrap32 (to_z-of_z wide_fits ∙ two_wide f h)

-- ---- signs and places

pub plus_is : (z : ℤ) {k : ℕ} → sign_of z ≡ Plus k → z ≡ pos k
unfolding sign_of
plus_is (pos n) e = cc
plus_is (negsuc n) e = cc

pub minus_is : (z : ℤ) {k : ℕ} → sign_of z ≡ Minus k → z ≡ negsuc k
unfolding sign_of
minus_is (pos n) e = cc
minus_is (negsuc n) e = cc

pub inside : {k n : ℕ} → k < n → Some k ≡ index_in (pos k) n
unfolding index_in
inside {k} {n} p = rw (lt-ltb k n p) refl

pub outside : {k n : ℕ} → n ≤ k → None ≡ index_in (pos k) n
unfolding index_in
outside {k} {n} p = rw (le-ltb k n p) refl

pub none_below : {z : ℤ} (n : ℕ) {k : ℕ} → z ≡ negsuc k → None ≡ index_in z n
unfolding index_in
none_below n e = rw e refl

pub less : (o k : ℕ) → k < o → pos (o - 1 - k + 0) ≡ pos o +ℤ negsuc k
less o k p = rw (le-ltb o (suc k) p) (ap pos (omega arith))

pub less_none : (o k : ℕ) → o ≤ k → pos o +ℤ negsuc k ≡ negsuc (k - o)
less_none o k p = rw (lt-ltb o (suc k) (omega arith)) (ap negsuc (omega arith))
