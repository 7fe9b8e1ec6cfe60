-- Texts written one after the other, and the room that each needs. Assumes nothing.
use native.Mathlib.Numerals.{add-one}
use native.Mathlib.Omega.{arith}
use lib.ListN.{length-append, drop_of_length-le}
use lib.Seq.{drop-cons}
use borrow.Author.Tests.{lt-ltb, le-ltb}
use Rattle.std.specs.Prelude.{◌+◌, ◌-◌, ◌/◌, ◌%◌, ◌<◌, ◌≤◌, ◌∷◌, ◌++◌, ◌≡◌}
use Rattle.rules.specs.Prelude.{ℕ, zero, suc, List, [], refl, sym, ap, ◌∙◌, subst, ℤ, pos, negsuc, length, get_or, set, drop, replicate}
use Rattle.rules.specs.Run.{digits_of, decimal, signed}
use Rattle.number.specs.Places.{sign_of}
use Rattle.number.specs.declared.Sign.TheVariants.{Plus, Minus}
use Rattle.prints.specs.Written.{put_all, printed, Puts, put_append}

-- ---- words

pub nothing : (C : List ℕ) (at : ℕ) → Puts C at [] C at
unfolding put_all
nothing C at = record { table = refl; place = omega arith }

pub one : (C : List ℕ) (at b : ℕ) → Puts C at (b ∷ []) (set C at b) (at + 1)
unfolding put_all
one C at b = record { table = refl; place = refl }

pub then : {C : List ℕ} {at : ℕ} {v D : List ℕ} {m : ℕ} {w E : List ℕ} {n : ℕ} → Puts C at v D m → Puts D m w E n → Puts C at (v ++ w) E n
then {C} {at} {v} {D} {m} {w} {E} {n} p q =
    record { table = q.table ∙ rw (p.table, p.place) (sym (put_append v C at w)); place = omega (arith, length-append v w, p.place, q.place) }

-- a text by another name
pub named : {C : List ℕ} {at : ℕ} {v w D : List ℕ} {n : ℕ} → w ≡ v → Puts C at v D n → Puts C at w D n
named {C} {at} {v} {w} {D} {n} e p = subst (λ (u : List ℕ). Puts C at u D n) (sym e) p

-- ---- the loop over a word: what is left of it from k on

module _ (C : List ℕ) (at : ℕ) (w : List ℕ) (k : ℕ) where
  pub put_one : k < length w → put_all C (at + k) (drop k w) ≡ put_all (set C (at + k) (get_or w k 0)) (at + (k + 1)) (drop (k + 1) w)
  unfolding put_all
  put_one h = rw (drop-cons w k 0, add-one k) (ap (λ (i : ℕ). put_all (set C (at + k) (get_or w k 0)) i (drop (suc k) w)) (omega arith))

  pub put_none : length w ≤ k → put_all C (at + k) (drop k w) ≡ C
  unfolding put_all
  put_none h = rw (drop_of_length-le w)

-- ---- digits

pub no_digits : (most n : ℕ) → most ≡ 0 → digits_of most n ≡ []
unfolding digits_of
no_digits most n e = rw e

pub last_digit : (most n : ℕ) → (most ≡ 0 → ⊥) → n < 10 → digits_of most n ≡ (48 + n) ∷ []
unfolding digits_of
last_digit zero n h g = absurd (h refl)
last_digit (suc most) n h g = rw (lt-ltb n 10)

pub more_digits_lem : (most n : ℕ) → (most ≡ 0 → ⊥) → 10 ≤ n → digits_of most n ≡ digits_of (most - 1) (n / 10) ++ ((48 + n % 10) ∷ [])
unfolding digits_of
more_digits_lem zero n h g = absurd (h refl)
more_digits_lem (suc most) n h g = let e : most ≡ suc most - 1 = omega arith in rw (le-ltb n 10) (ap (λ (j : ℕ). digits_of j (n / 10) ++ ((48 + n % 10) ∷ [])) e)

pub more_length : (most n : ℕ) → (most ≡ 0 → ⊥) → 10 ≤ n → length (digits_of most n) ≡ length (digits_of (most - 1) (n / 10)) + 1
more_length most n h g = ap length (more_digits_lem most n h g) ∙ length-append (digits_of (most - 1) (n / 10)) ((48 + n % 10) ∷ [])

-- ---- a signed number, by its sign

pub plus : (z : ℤ) {k : ℕ} → sign_of z ≡ Plus k → signed z ≡ decimal k
unfolding sign_of signed
plus (pos n) e = ap decimal (cc)
plus (negsuc n) e = cc

pub minus : (z : ℤ) {k : ℕ} → sign_of z ≡ Minus k → signed z ≡ (45 ∷ []) ++ decimal (k + 1)
unfolding sign_of signed
minus (pos n) e = cc
minus (negsuc n) {k} e = ap (λ (j : ℕ). 45 ∷ decimal (j + 1)) (cc)

-- ---- the whole

pub printed_by : {w D : List ℕ} {n : ℕ} → Puts (replicate 128 0) 0 w D n → (D ≡ printed w) × (n ≡ length w)
unfolding printed
printed_by p = (p.table, omega (arith, p.place))

pub put_by : {w D : List ℕ} {n : ℕ} → D ≡ printed w → n ≡ length w → Puts (replicate 128 0) 0 w D n
unfolding printed
put_by d e = record { table = d; place = omega arith }
