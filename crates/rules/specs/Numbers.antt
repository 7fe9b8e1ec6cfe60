-- Numbers: signed 32-bit, as whole numbers in the rules and as words (their 32 bits) in tables. Assumes nothing.
use Rattle.std.specs.Int.Signed.{lt_z}
use Rattle.std.specs.Int.{w32}
use Rattle.std.proofs.Common.{to_z, of_z}
use Rattle.std.specs.Prelude.{◌-◌, ◌%◌, ◌+ℤ◌, ◌-ℤ◌, ◌*ℤ◌}
use Rattle.rules.specs.Prelude.{ℕ, Bool, true, false, ltb, eqb, ℤ, pos, negsuc, Num, Psi, Inf, Upto, Op}
use Rattle.rules.specs.Prelude.O
use Rattle.rules.specs.When.{One}

abbrev pub num : ℤ → Num
num z = record { n = z }

abbrev pub zero_n : Num
zero_n = num (pos 0)

-- the number whose 32 bits are the low ones of w
unfoldable pub num_code : ℕ → Num
num_code w = num (to_z w32 (w % 4294967296))

-- the 32 bits of a number
unfoldable pub word_of : Num → ℕ
word_of a = of_z w32 a.n

-- the low 32 bits of a whole number, two's complement
unfoldable pub low32 : ℤ → ℕ
low32 (pos n) = n % 4294967296
low32 (negsuc n) = 4294967295 - n % 4294967296

-- wrapped to 32 bits
unfoldable pub wrap32 : ℤ → Num
wrap32 z = num_code (low32 z)

abbrev pub one_if : Bool → Num
one_if true = num (pos 1)
one_if false = num (pos 0)

abbrev pub eq_z : ℤ → ℤ → Bool
eq_z (pos a) (pos b) = eqb a b
eq_z (pos a) (negsuc b) = false
eq_z (negsuc a) (pos b) = false
eq_z (negsuc a) (negsuc b) = eqb a b

abbrev pub same_num : Num → Num → Bool
same_num a b = eq_z a.n b.n

-- sums, differences and products wrap; `eq` and `lt` give 1 or 0, `lt` signed
unfoldable pub arith_of : Op → Num → Num → Num
arith_of O.Add a b = wrap32 (a.n +ℤ b.n)
arith_of O.Sub a b = wrap32 (a.n -ℤ b.n)
arith_of O.Mul a b = wrap32 (a.n *ℤ b.n)
arith_of O.Eq a b = one_if (same_num a b)
arith_of O.Lt a b = one_if (lt_z a.n b.n)

-- whether z is from 0 to one less than n
abbrev pub among : ℤ → ℕ → Bool
among (pos k) n = ltb k n
among (negsuc k) n = false

-- N suits PSI if PSI is `inf` or 0 ≤ N < PSI
abbrev pub suits : Psi → Num → Bool
suits Inf a = true
suits (Upto p) a = among a.n p

-- a number that is not negative, else 0
abbrev pub nat_of : ℤ → ℕ
nat_of (pos k) = k
nat_of (negsuc k) = 0

-- to compute with what stands here
unfoldable pub numbers : One
unfolding num_code word_of low32 wrap32 arith_of
numbers = tt
