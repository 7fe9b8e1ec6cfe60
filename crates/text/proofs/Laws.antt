-- What the readers of a text answer, for callers: where what was read ends, how large it is, and which bytes stand inside the text. Assumes nothing.
use mathlib.Core.Logic.{⊎_elim}
use native.Mathlib.Nat.{lt_irrefl, eq-zero-or-pos}
use native.Mathlib.Omega.{arith}
use Prim.Native.Nat.{zero-le, suc-le-suc}
use lib.ListN.{get_or-eq_default, length-drop}
use lib.Seq.{drop-cons}
use borrow.Author.Tests.{ltb-false, eqb-true}
use Rattle.std.specs.Prelude.{◌+◌, ◌-◌, ◌*◌, ◌<◌, ◌≤◌, ◌∷◌, ◌≡◌, Ok, Err}
use Rattle.rules.specs.Prelude.{ℕ, suc, max, true, List, [], ap, subst, ltb, eqb, length, get_or, drop}
use Rattle.rules.specs.Text.Words.{Reading}
use Rattle.rules.specs.Text.Words.{Head}
use Rattle.rules.specs.Bytes.{bytes}
use Rattle.rules.proofs.Laws.Tests.{by_when}
use Rattle.rules.specs.Text.Words.{byte_at, value_of, next_of, more_digits, magnitude_at, plain_at, minus, number_at, agreed, or_word, var_at, operator_at, head_of, operator_head, head_at}

-- ---- bytes

-- below a text's end the default does not matter
pub get_d_any : (s : List ℕ) (i d e : ℕ) → i < length s → get_or s i d ≡ get_or s i e
get_d_any s i d e h = cc (drop-cons s i d h, drop-cons s i e h)

-- a byte that is not past the end is at a place of the text
pub inside : (s : List ℕ) (i : ℕ) → byte_at s i < 256 → i < length s
inside s i h =
    ⊎_elim
    (λ e. let g : length s ≤ i = omega arith in absurd (lt_irrefl 256 (rw (get_or-eq_default s 256 g) at h)))
    (λ p. omega arith)
    (eq-zero-or-pos (length s - i))

pub found : (s : List ℕ) (i b : ℕ) → b < 256 → eqb (byte_at s i) b ≡ true → i < length s
found s i b h e = let x : byte_at s i ≡ b = eqb-true (byte_at s i) b e in inside s i (omega arith)

-- ---- a reading: its value is from `least` to `most`, its next byte from `from` to `to`; a wrong byte is before `from`, or up to `to`

pub data Reads (from to least most : ℕ) : Reading → Type 0 where
  right : (v n : ℕ) → from ≤ n → n ≤ to → least ≤ v → v ≤ most → Reads from to least most (Ok (v, n))
  wrong : (p : ℕ) → p < max from (to + 1) → Reads from to least most (Err p)

pub record Read (from to least most v n : ℕ) : Type 0 where
  pub starts : from ≤ n
  pub ends : n ≤ to
  pub low : least ≤ v
  pub high : v ≤ most

module _ {from to least most : ℕ} where
  pub got : {r : Reading} {v n : ℕ} → Reads from to least most r → r ≡ Ok (v, n) → Read from to least most v n
  got {v = v} {n = n} (right x y f t l m) e =
      let a : x ≡ v = ap value_of e in
      let b : y ≡ n = ap next_of e in
      record { starts = omega arith; ends = omega arith; low = omega arith; high = omega arith }
  got (wrong p h) e = let z : ◌≡◌ {A = ℕ} 0 1 = cc in absurd (omega arith)

  pub value_most : {r : Reading} → Reads from to least most r → value_of r ≤ most
  value_most (right v n f t l m) = m
  value_most (wrong p h) = zero-le

  pub next_most : {r : Reading} → Reads from to least most r → next_of r < max from (to + 1)
  next_most (right v n f t l m) = omega arith
  next_most (wrong p h) = h

  looser : {from' to' least' most' : ℕ} {r : Reading}
      → from' ≤ from → to ≤ to' → least' ≤ least → most ≤ most' → max from (to + 1) ≤ max from' (to' + 1)
      → Reads from to least most r → Reads from' to' least' most' r
  looser f t l m w (right v n a b c d) = right v n (omega arith) (omega arith) (omega arith) (omega arith)
  looser f t l m w (wrong p h) = wrong p (omega arith)

-- ---- numbers

digits_reads : (l : List ℕ) (i v most : ℕ) → v ≤ most → Reads i (i + length l) v most (more_digits l i v most)
unfolding more_digits
digits_reads [] i v most h = right v i (omega arith) (omega arith) (omega arith) h
digits_reads (b ∷ l) i v most h =
    let P = Reads i (i + suc (length l)) v most in
    let stop : P (Ok (v, i)) = right v i (omega arith) (omega arith) (omega arith) h in
    let bad : P (Err i) = wrong i (omega arith) in
    by_when P (ltb b 48) _ _ (λ _. stop) (λ _.
    by_when P (ltb 57 b) _ _ (λ _. stop) (λ _.
    by_when P (eqb v 0) _ _ (λ _. bad) (λ _.
    by_when P (ltb most (v * 10 + (b - 48))) _ _ (λ _. bad) (λ e.
    looser (omega arith) (omega arith) (omega arith) (omega arith) (omega arith)
    (digits_reads l (i + 1) (v * 10 + (b - 48)) most (ltb-false most (v * 10 + (b - 48)) e))))))

magnitude_reads : (s : List ℕ) (at low most : ℕ) → 48 ≤ low → 9 ≤ most → Reads (at + 1) (length s) (low - 48) most (magnitude_at s at low most)
unfolding magnitude_at
magnitude_reads s at low most h k =
    let P = Reads (at + 1) (length s) (low - 48) most in
    let bad : P (Err at) = wrong at (omega arith) in
    by_when P (ltb (byte_at s at) low) _ _ (λ _. bad) (λ d.
    by_when P (ltb 57 (byte_at s at)) _ _ (λ _. bad) (λ e.
    let a : low ≤ byte_at s at = ltb-false (byte_at s at) low d in
    let b : byte_at s at ≤ 57 = ltb-false 57 (byte_at s at) e in
    let i : at < length s = inside s at (omega arith) in
    let l : length (drop (at + 1) s) ≡ length s - (at + 1) = length-drop (at + 1) s in
    looser (omega arith) (omega arith) (omega arith) (omega arith) (omega arith)
    (digits_reads (drop (at + 1) s) (at + 1) (byte_at s at - 48) most (omega arith))))

pub magnitude_most : (s : List ℕ) (at low most : ℕ) {v n : ℕ} → magnitude_at s at low most ≡ Ok (v, n) → 48 ≤ low → 9 ≤ most → v ≤ most
magnitude_most s at low most e h k = (got (magnitude_reads s at low most h k) e).high

pub plain_reads : (s : List ℕ) (at : ℕ) → Reads (at + 1) (length s) 0 2147483647 (plain_at s at)
unfolding plain_at
plain_reads s at = magnitude_reads s at 48 2147483647 (omega arith) (omega arith)

-- the word of -v, where v is not 0
minus_reads : {from to : ℕ} {r : Reading} → Reads from to 1 2147483648 r → Reads from to 0 4294967295 (minus r)
minus_reads (right v n f t l m) = right (4294967296 - v) n f t zero-le (omega arith)
minus_reads (wrong p h) = wrong p h

pub number_reads : (s : List ℕ) (at : ℕ) → Reads (at + 1) (length s) 0 4294967295 (number_at s at)
unfolding number_at
number_reads s at =
    by_when (Reads (at + 1) (length s) 0 4294967295) (eqb (byte_at s at) 45) _ _
    (λ e. let i : at < length s = found s at 45 (omega arith) e in
    minus_reads (looser (omega arith) (omega arith) (omega arith) (omega arith) (omega arith) (magnitude_reads s (at + 1) 49 2147483648 (omega arith) (omega arith))))
    (λ _. looser (omega arith) (omega arith) (omega arith) (omega arith) (omega arith) (plain_reads s at))

pub var_reads : (s : List ℕ) (at : ℕ) → Reads (at + 1) (length s) 0 2147483647 (var_at s at)
unfolding var_at
var_reads s at =
    by_when (Reads (at + 1) (length s) 0 2147483647) (eqb (byte_at s at) 118) _ _
    (λ e. let i : at < length s = found s at 118 (omega arith) e in
    looser (omega arith) (omega arith) (omega arith) (omega arith) (omega arith) (plain_reads s (at + 1)))
    (λ _. wrong at (omega arith))

-- ---- fixed words

agreed_text : (w s : List ℕ) → agreed w s ≤ length s
unfolding agreed
agreed_text [] s = zero-le
agreed_text (b ∷ w) [] = zero-le
agreed_text (b ∷ w) (c ∷ s) = by_when (λ (n : ℕ). n ≤ suc (length s)) (eqb c b) _ _ (λ _. suc-le-suc (agreed_text w s)) (λ _. zero-le)

-- a word agrees in no more bytes than are left of the text
pub agreed_in : (w s : List ℕ) (at : ℕ) → agreed w (drop at s) ≤ length s - at
agreed_in w s at = omega (arith, agreed_text w (drop at s), length-drop at s)

-- a chain of words, none of them empty, keeps its bounds
pub or_reads : (s : List ℕ) (at : ℕ) (w : List ℕ) (k : ℕ) {least most : ℕ} {r : Reading}
    → 0 < length w → least ≤ k → k ≤ most → Reads (at + 1) (length s) least most r → Reads (at + 1) (length s) least most (or_word s at w k r)
unfolding or_word
or_reads s at w k p l m (right v n a b c d) = right v n a b c d
or_reads s at w k {least} {most} p l m (wrong x h) =
    let a = agreed_in w s at in
    by_when (Reads (at + 1) (length s) least most) (eqb (agreed w (drop at s)) (length w)) _ _
    (λ e. let b : agreed w (drop at s) ≡ length w = eqb-true (agreed w (drop at s)) (length w) e in
    right k (at + length w) (omega arith) (omega arith) l m)
    (λ _. wrong (max x (at + agreed w (drop at s))) (omega arith))

pub operator_reads : (s : List ℕ) (at : ℕ) → Reads (at + 1) (length s) 3 11 (operator_at s at)
unfolding operator_at
operator_reads s at =
    or_reads s at (bytes "lt") 11 (omega arith) (omega arith) (omega arith)
    (or_reads s at (bytes "eq") 10 (omega arith) (omega arith) (omega arith)
    (or_reads s at (bytes "mul") 9 (omega arith) (omega arith) (omega arith)
    (or_reads s at (bytes "sub") 8 (omega arith) (omega arith) (omega arith)
    (or_reads s at (bytes "add") 7 (omega arith) (omega arith) (omega arith)
    (or_reads s at (bytes "step") 6 (omega arith) (omega arith) (omega arith)
    (or_reads s at (bytes "val") 5 (omega arith) (omega arith) (omega arith)
    (or_reads s at (bytes "int") 4 (omega arith) (omega arith) (omega arith)
    (or_reads s at (bytes "fetch") 3 (omega arith) (omega arith) (omega arith) (wrong at (omega arith))))))))))

-- ---- what an expression begins with: the next byte, the operation and its argument

pub record HeadRead (from to op a n : ℕ) : Type 0 where
  pub starts : from ≤ n
  pub ends : n ≤ to
  pub low : 1 ≤ op
  pub high : op ≤ 11
  pub small : a ≤ 4294967295

abbrev Heads : ℕ → ℕ → Head → Type 0
Heads from to (Ok (op, a, n)) = HeadRead from to op a n
Heads from to (Err p) = Unit

of_heads : {from to most : ℕ} (op : ℕ) {r : Reading} → 1 ≤ op → op ≤ 11 → most ≤ 4294967295 → Reads from to 0 most r → Heads from to (head_of op r)
of_heads op l m b (right v n f t x y) = record { starts = f; ends = t; low = l; high = m; small = omega arith }
of_heads op l m b (wrong p h) = tt

operator_heads : (s : List ℕ) {from : ℕ} {r : Reading} → Reads from (length s) 3 11 r → Heads from (length s) (operator_head s r)
operator_heads s (wrong p h) = tt
operator_heads s {from} (right op n f t l m) =
    by_when (Heads from (length s)) (eqb op 5) _ _
    (λ _. by_when (Heads from (length s)) (eqb (byte_at s n) 32) _ _
    (λ e. let i : n < length s = found s n 32 (omega arith) e in
    of_heads {most = 2147483647} 5 (omega arith) (omega arith) (omega arith)
    (looser (omega arith) (omega arith) (omega arith) (omega arith) (omega arith) (plain_reads s (n + 1))))
    (λ _. tt))
    (λ _. record { starts = f; ends = t; low = omega arith; high = m; small = zero-le })

head_heads : (s : List ℕ) (at : ℕ) → Heads (at + 1) (length s) (head_at s at)
unfolding head_at
head_heads s at =
    let P = Heads (at + 1) (length s) in
    let operator : P (operator_head s (operator_at s at)) = operator_heads s (operator_reads s at) in
    by_when P (ltb (byte_at s at) 58) _ _
    (λ _. of_heads 1 (omega arith) (omega arith) (omega arith) (number_reads s at))
    (λ _. by_when P (eqb (byte_at s at) 118) _ _
    (λ _. by_when P (eqb (byte_at s (at + 1)) 97) _ _ (λ _. operator)
    (λ _. of_heads 2 (omega arith) (omega arith) (omega arith) (var_reads s at)))
    (λ _. operator))

pub head_read : (s : List ℕ) (at : ℕ) {op a n : ℕ} → head_at s at ≡ Ok (op, a, n) → HeadRead (at + 1) (length s) op a n
head_read s at e = subst (Heads (at + 1) (length s)) e (head_heads s at)
