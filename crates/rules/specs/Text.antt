-- The glue text, whole: 1; then 2 and 3 line by line, 2 first; with the tables. Assumes nothing.
pub mod Words
pub mod Shape
pub mod Layout
pub mod Fill
use Rattle.std.specs.Prelude.{◌+◌}
use Rattle.rules.specs.Text.Words.{Reading}
use Rattle.rules.specs.Text.Words.{Next}
use Rattle.rules.specs.Prelude.{ℕ, zero, suc, true, false, List, ltb, eqb, length, Answer, Ok, Err, Count}
use Rattle.rules.specs.When.{One, when}
use Rattle.rules.specs.Limits.{limits}
use Rattle.rules.specs.Answers.{answer, accepted}
use Rattle.rules.specs.Text.Words.{byte_at}
use Rattle.rules.specs.Text.Shape.{key_at, key_of, part_of, in_order, line_shape}
use Rattle.rules.specs.declared.Tables.{Tables}
use Rattle.rules.specs.Text.Layout.{tables, in_part, zeros, sized, nothing}
use Rattle.rules.specs.Text.Fill.{fills, Filled, filled, fill_line}

-- a line: its answer (0 goes on), the byte after it, counts and tables
pub data Lined : Type 0 where
  lined : ℕ → ℕ → Count → Tables → Lined

abbrev pub limited : ℕ → ℕ → Filled → Lined
limited k n (filled true c t) = lined 0 n (in_part c (part_of k)) t
limited k n (filled false c t) = lined 3 n c t

-- the shape ends at n, where a line feed must stand; then the limits
abbrev pub shaped : List ℕ → ℕ → ℕ → Count → Tables → Next → Lined
shaped s k at c t (Err p) = lined 2 p c t
shaped s k at c t (Ok n) =
    when (eqb (byte_at s n) 10)
    (λ _. limited k (n + 1) (fill_line s (key_of k) at c t))
    (λ _. lined 2 n c t)

abbrev pub keyed : List ℕ → ℕ → Count → Tables → Reading → Lined
keyed s start c t (Err p) = lined 2 p c t
keyed s start c t (Ok (k, n)) =
    when (in_order c.part k)
    (λ _. shaped s k n c t (line_shape s c.vars (key_of k) n))
    (λ _. lined 2 start c t)

unfoldable pub line_at : List ℕ → ℕ → Count → Tables → Lined
line_at s at c t = keyed s at c t (key_at s at)

-- the answer to a text, and the tables after it
pub record TextOut : Type 0 where
  pub answer : Answer
  pub tables : Tables

abbrev pub stopped : Answer → TextOut
stopped a = record { answer = a; tables = zeros }

-- an empty text has no `ret=`: 2 at line 1
abbrev pub ended : Count → Tables → TextOut
ended c t = when (eqb c.part 0) (λ _. stopped (answer 2 1)) (λ _. record { answer = accepted; tables = sized t c })

abbrev pub and_line : (ℕ → Count → Tables → TextOut) → ℕ → Lined → TextOut
and_line rest line (lined a n c t) = when (eqb a 0) (λ _. rest n c t) (λ _. stopped (answer a line))

-- the lines from `at` on. One `ret=` and, within the limits, so many rows, variables and body lines can be right, and the line after these is refused: `left` never runs out
abbrev pub most_lines : ℕ
most_lines = 1 + limits.rows + limits.variables + limits.lines

unfoldable pub lines_from : List ℕ → ℕ → ℕ → ℕ → Count → Tables → TextOut
lines_from s zero line at c t = stopped (answer 3 line)
lines_from s (suc left) line at c t =
    when (ltb at (length s))
    (λ _. and_line (lines_from s left (line + 1)) line (line_at s at c t))
    (λ _. ended c t)

unfoldable pub read_text : List ℕ → TextOut
read_text s =
    when (ltb limits.bytes (length s))
    (λ _. stopped (answer 1 0))
    (λ _. lines_from s (most_lines + 1) 1 0 nothing zeros)

-- to compute with what stands here
unfoldable pub texts : One
unfolding tables fills line_at lines_from read_text
texts = tt
