-- Numbers of 32 bits: wrapping keeps them, and a datum of such a number is read again as it was written. Assumes nothing.
use Rattle.std.specs.Int.Signed.{mag, lt_z}
use Rattle.std.proofs.Math.Arith.{digits_div, digits_mod}
use Rattle.std.specs.Int.{w32}
use Rattle.std.proofs.Common.{of_z, SFits, mod-lt, mod-eq_of_lt, arith as lin, ne_eqb}
use mir.ValLaws.{to_z-of_z, to_z-Fits}
use Rattle.std.specs.Prelude.{◌+◌, ◌-◌, ◌/◌, ◌%◌, ◌<◌, ◌≡◌}
use Rattle.rules.specs.Machine.{Given}
use Rattle.rules.specs.Prelude.{ℕ, Bool, true, false, ap, ◌∙◌, eqb, ℤ, pos, negsuc, Num, Op, Datum, Int, Imm, Place, None, Some}
use Rattle.rules.specs.Prelude.O
use Rattle.rules.specs.When.{when}
use Rattle.rules.specs.Numbers.{same_num, num, num_code, word_of, low32, wrap32, one_if, arith_of}
use Rattle.rules.specs.Machine.Tables.{datum_code, code_of}

-- a signed 32-bit number
abbrev pub SmallN : Num → Type 0
SmallN a = SFits w32 a.n

word_small : (z : ℤ) → SFits w32 z → of_z w32 z < 4294967296
word_small (pos n) h = let x : mag (pos n) < 2147483648 = h.sfits in omega (lin, x)
word_small (negsuc n) h = omega lin

-- every word is the word of a 32-bit number
pub word_is_small : (w : ℕ) → SmallN (num_code w)
unfolding num_code
word_is_small w = to_z-Fits w32 (w % 4294967296) (record { fits = mod-lt w (omega lin) })

pub number_again : (a : Num) → SmallN a → num_code (word_of a) ≡ a
unfolding num_code word_of
number_again a h = rw (mod-eq_of_lt (word_small a.n h)) (ap num (to_z-of_z w32 a.n h))

-- ---- wrapping

low_word : (z : ℤ) → SFits w32 z → low32 z ≡ of_z w32 z
unfolding low32
low_word (pos n) h = let x : mag (pos n) < 2147483648 = h.sfits in mod-eq_of_lt (omega (lin, x))
low_word (negsuc n) h =
    let x : mag (negsuc n) < 2147483648 = h.sfits in
    let y : n % 4294967296 ≡ n = mod-eq_of_lt (omega (lin, x)) in
    omega lin

-- wrapping agrees with its input on the 32-bit range
pub wrap_keeps : (z : ℤ) → SFits w32 z → wrap32 z ≡ num z
unfolding wrap32 word_of
wrap_keeps z h = ap num_code (low_word z h) ∙ number_again (num z) h

-- and gives a 32-bit number for every input
pub wrap_small : (z : ℤ) → SmallN (wrap32 z)
unfolding wrap32
wrap_small z = word_is_small (low32 z)

truth_small : (b : Bool) → SmallN (one_if b)
truth_small true = record { sfits = omega lin }
truth_small false = record { sfits = omega lin }

pub arith_small : (o : Op) (a b : Num) → SmallN (arith_of o a b)
unfolding arith_of
arith_small O.Add a b = wrap_small _
arith_small O.Sub a b = wrap_small _
arith_small O.Mul a b = wrap_small _
arith_small O.Eq a b = truth_small (same_num a b)
arith_small O.Lt a b = truth_small (lt_z a.n b.n)

-- ---- data

-- a datum that a table can hold
abbrev pub Small : Given → Type 0
Small None = Unit
Small (Some (Int n)) = SmallN n
Small (Some (Imm n)) = SmallN n
Small (Some (Place b o)) = o < 4294967296

-- every number in a table is such a datum
pub datum_small : (c : ℕ) → Small (datum_code c)
unfolding datum_code
datum_small c = go (eqb (c / 4294967296) 0) (eqb (c / 4294967296) 1) (eqb (c / 4294967296) 2)
  where
    go : (x y z : Bool) → Small (when x (λ _. None) (λ _. when y (λ _. Some (Int (num_code (c % 4294967296)))) (λ _. when z (λ _. Some (Imm (num_code (c % 4294967296)))) (λ _. Some (Place (c / 4294967296 - 3) (c % 4294967296))))))
    go true y z = tt
    go false true z = word_is_small (c % 4294967296)
    go false false true = word_is_small (c % 4294967296)
    go false false false = mod-lt c {m = 4294967296} (omega lin)

pub datum_again : (d : Datum) → Small (Some d) → datum_code (code_of d) ≡ Some d
unfolding datum_code code_of word_of
datum_again (Int a) h =
    let s : of_z w32 a.n < 4294967296 = word_small a.n h in
    rw (digits_div 1 s, digits_mod 1 s) (ap (λ (x : Num). Some (Int x)) (number_again a h))
datum_again (Imm a) h =
    let s : of_z w32 a.n < 4294967296 = word_small a.n h in
    rw (digits_div 2 s, digits_mod 2 s) (ap (λ (x : Num). Some (Imm x)) (number_again a h))
datum_again (Place b o) s =
    let z : b + 3 - 3 ≡ b = omega lin in
    rw (digits_div (b + 3) s, digits_mod (b + 3) s, ne_eqb (b + 3) 0 (λ q. omega (lin, q)), ne_eqb (b + 3) 1 (λ q. omega (lin, q)), ne_eqb (b + 3) 2 (λ q. omega (lin, q)), z)
