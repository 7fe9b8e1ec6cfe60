-- The words of a text, by a place in it: what was read and the next byte, or the first byte at which no right word begins so. Assumes nothing.
use Rattle.std.specs.Prelude.{◌+◌, ◌-◌, ◌*◌, ◌∷◌}
use Rattle.rules.specs.Prelude.{ℕ, suc, max, List, [], ltb, eqb, length, get_or, drop, Ok, Err, Result}
use Rattle.rules.specs.When.{One, when}
use Rattle.rules.specs.Bytes.{bytes}

-- what was read as it stands in a table (a number as its 32 bits, a key or an operator as its number, a datum as its code) and the next byte; or the first wrong byte
abbrev pub Reading : Type 0
Reading = Result (ℕ × ℕ) ℕ

-- the byte after what was read, or the first wrong byte
abbrev pub Next : Type 0
Next = Result ℕ ℕ

-- the first word of an expression: operation, argument, next byte; or the first wrong byte
abbrev pub Head : Type 0
Head = Result (ℕ × ℕ × ℕ) ℕ

-- the byte at i, 256 past the end
abbrev pub byte_at : List ℕ → ℕ → ℕ
byte_at s i = get_or s i 256

abbrev pub value_of : Reading → ℕ
value_of (Ok (v, n)) = v
value_of (Err p) = 0

abbrev pub next_of : Reading → ℕ
next_of (Ok (v, n)) = n
next_of (Err p) = p

-- ---- numbers: decimal, no plus, no leading zero, no -0, signed 32-bit

-- more digits after a number v, up to the first byte that is no digit; v may grow to `most`
unfoldable pub more_digits : List ℕ → ℕ → ℕ → ℕ → Reading
more_digits [] i v most = Ok (v, i)
more_digits (b ∷ s) i v most =
    when (ltb b 48)
    (λ _. Ok (v, i))
    (λ _. when (ltb 57 b)
    (λ _. Ok (v, i))
    (λ _. when (eqb v 0)
    (λ _. Err i)
    (λ _. when (ltb most (v * 10 + (b - 48)))
    (λ _. Err i)
    (λ _. more_digits s (i + 1) (v * 10 + (b - 48)) most))))

-- digits whose first is from `low` to `9`
unfoldable pub magnitude_at : List ℕ → ℕ → ℕ → ℕ → Reading
magnitude_at s at low most =
    when (ltb (byte_at s at) low)
    (λ _. Err at)
    (λ _. when (ltb 57 (byte_at s at))
    (λ _. Err at)
    (λ _. more_digits (drop (at + 1) s) (at + 1) (byte_at s at - 48) most))

-- a number without a minus: of a row, a variable, a label, I, PSI
unfoldable pub plain_at : List ℕ → ℕ → Reading
plain_at s at = magnitude_at s at 48 2147483647

-- the word of -v
abbrev pub minus : Reading → Reading
minus (Ok (v, n)) = Ok (4294967296 - v, n)
minus (Err p) = Err p

unfoldable pub number_at : List ℕ → ℕ → Reading
number_at s at = when (eqb (byte_at s at) 45) (λ _. minus (magnitude_at s (at + 1) 49 2147483648)) (λ _. plain_at s at)

-- ---- fixed words

-- how many bytes of the word w the text s begins with
unfoldable pub agreed : List ℕ → List ℕ → ℕ
agreed [] s = 0
agreed (b ∷ w) [] = 0
agreed (b ∷ w) (c ∷ s) = when (eqb c b) (λ _. suc (agreed w s)) (λ _. 0)

-- the word found before; else k if the word w stands at `at`; else the farther of the two wrong bytes
unfoldable pub or_word : List ℕ → ℕ → List ℕ → ℕ → Reading → Reading
or_word s at w k (Ok (j, n)) = Ok (j, n)
or_word s at w k (Err p) =
    when (eqb (agreed w (drop at s)) (length w))
    (λ _. Ok (k, at + length w))
    (λ _. Err (max p (at + agreed w (drop at s))))

-- one byte
unfoldable pub byte_is : List ℕ → ℕ → ℕ → Next
byte_is s at b = when (eqb (byte_at s at) b) (λ _. Ok (at + 1)) (λ _. Err at)

-- V is `v` and a number
unfoldable pub var_at : List ℕ → ℕ → Reading
var_at s at = when (eqb (byte_at s at) 118) (λ _. plain_at s (at + 1)) (λ _. Err at)

-- ---- what an expression begins with: 1 a number, 2 V, 3 fetch, 4 int, 5 val, 6 step, 7 add, 8 sub, 9 mul, 10 eq, 11 lt

unfoldable pub operator_at : List ℕ → ℕ → Reading
operator_at s at =
    or_word s at (bytes "lt") 11
    (or_word s at (bytes "eq") 10
    (or_word s at (bytes "mul") 9
    (or_word s at (bytes "sub") 8
    (or_word s at (bytes "add") 7
    (or_word s at (bytes "step") 6
    (or_word s at (bytes "val") 5
    (or_word s at (bytes "int") 4
    (or_word s at (bytes "fetch") 3 (Err at)))))))))

-- how many expressions follow
unfoldable pub arity : ℕ → ℕ
arity op = when (ltb op 3) (λ _. 0) (λ _. when (ltb op 6) (λ _. 1) (λ _. 2))

abbrev pub head_of : ℕ → Reading → Head
head_of op (Ok (v, n)) = Ok (op, v, n)
head_of op (Err p) = Err p

-- `val` has its R first, after a space
abbrev pub operator_head : List ℕ → Reading → Head
operator_head s (Err p) = Err p
operator_head s (Ok (op, n)) =
    when (eqb op 5)
    (λ _. when (eqb (byte_at s n) 32) (λ _. head_of 5 (plain_at s (n + 1))) (λ _. Err n))
    (λ _. Ok (op, 0, n))

unfoldable pub head_at : List ℕ → ℕ → Head
head_at s at =
    when (ltb (byte_at s at) 58)
    (λ _. head_of 1 (number_at s at))
    (λ _. when (eqb (byte_at s at) 118)
    (λ _. when (eqb (byte_at s (at + 1)) 97) (λ _. operator_head s (operator_at s at)) (λ _. head_of 2 (var_at s at)))
    (λ _. operator_head s (operator_at s at)))

-- to compute with what stands here
unfoldable pub words : One
unfolding more_digits magnitude_at plain_at number_at agreed or_word byte_is var_at operator_at arity head_at
words = tt
