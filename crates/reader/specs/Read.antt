-- What the contracts of the reader say in one name each: where a line may stand, counts within the limits, and what the tables hold at the end. Assumes nothing.
use Rattle.std.specs.Prelude.{ℕ, ◌+◌, ◌≤◌, max, ◌≡◌, refl, Bool, true, false, List, [], ltb, eqb, length, Option, Some, None, Result, Ok, Err}
use Rattle.rules.specs.declared.Key.{Key}
use Rattle.rules.specs.declared.Key.TheVariants as K
use Rattle.rules.specs.declared.Answer.{Answer}
use Rattle.rules.specs.declared.Count.{Count}
use Rattle.rules.specs.When.{when}
use Rattle.rules.specs.Limits.{limits}
use Rattle.rules.specs.Text.Words.{byte_at}
use Rattle.rules.specs.Text.Shape.{key_of, line_shape}
use Rattle.rules.specs.declared.Tables.{Tables}
use Rattle.rules.specs.Text.Layout.{nothing, zeros}
use Rattle.rules.specs.Text.Fill.{Filled, filled, Fields, fields, fill_line}
use Rattle.rules.specs.Answers.{answer, outcome}
use Rattle.rules.specs.Text.{Lined, lined, TextOut, stopped, lines_from, most_lines, read_text}
use Rattle.once.proofs.Right.{Refuses}

-- a place in a text that is not too long
pub record Placed (s : List ℕ) (at : ℕ) : Type 0 where
  pub inside : at ≤ length s
  pub short : length s ≤ limits.bytes

-- a place, perhaps past the end, at which a word may be looked for: one more still fits
pub record Near (s : List ℕ) (at : ℕ) : Type 0 where
  pub near : at ≤ 65536
  pub short : length s ≤ limits.bytes

-- a value, and the place after the byte that follows it
pub record Worded (s : List ℕ) (at : ℕ) (x n value past : ℕ) : Type 0 where
  pub gives : value ≡ x
  pub goes : past ≡ n + 1
  pub near : past ≤ max at (length s) + 1

-- ---- counts

pub record Fits (rows vars labels lines nodes : ℕ) : Type 0 where
  pub few_rows : rows ≤ limits.rows
  pub few_vars : vars ≤ limits.variables
  pub few_labels : labels ≤ limits.labels
  pub few_lines : lines ≤ limits.lines
  pub few_nodes : nodes ≤ limits.nodes

abbrev pub Within : Count → Type 0
Within c = Fits c.rows c.vars c.labels c.lines c.nodes

-- a line at its place
pub record Ready (s : List ℕ) (at : ℕ) (c : Count) : Type 0 where
  pub placed : Placed s at
  pub within : Within c

-- a line without expressions, and no label
abbrev pub is_plain : Key → Bool
is_plain K.Absent = true
is_plain K.Ret = true
is_plain K.Type = true
is_plain K.Param = true
is_plain K.Local = true
is_plain K.Set = false
is_plain K.Put = false
is_plain K.Goto = true
is_plain K.If = false
is_plain K.IfImm = true
is_plain K.IfTag = true
is_plain K.IfInt = true
is_plain K.Return = false
is_plain K.Label = false

-- ---- what a line gives: its counts, or nothing where it passes a limit

-- with the tables after it
abbrev pub given : Option Count → Tables → Filled
given (Some c) t = filled true c t
given None t = filled false nothing zeros

-- past a limit its counts and tables do not count
abbrev pub kept : Filled → Filled
kept (filled true c t) = filled true c t
kept (filled false c t) = filled false nothing zeros

-- the same of a row, whose fields are counted
abbrev pub row_given : Option ℕ → List ℕ → Fields
row_given (Some n) R = fields true n R
row_given None R = fields false 0 []

abbrev pub row_kept : Fields → Fields
row_kept (fields true n R) = fields true n R
row_kept (fields false n R) = fields false 0 []

-- ---- a line

-- its place, counts and tables count for an answer 0 only
unfoldable pub settled : Lined → Lined
settled (lined a n c t) = when (eqb a 0) (λ _. lined a n c t) (λ _. lined a 0 nothing zeros)

-- a line as it is handed on: the place after it and the counts, or an answer's number; with the tables after it
abbrev pub handed : Result (ℕ × Count) ℕ → Tables → Lined
handed (Ok (n, c)) t = lined 0 n c t
handed (Err a) t = lined a 0 nothing t

-- a line of the right shape passes a limit
abbrev pub Late : List ℕ → ℕ → ℕ → Count → Tables → Type 0
Late s k at c t = (n : ℕ) → line_shape s c.vars (key_of k) at ≡ Ok n → byte_at s n ≡ 10 → Refuses (fill_line s (key_of k) at c t)

-- ---- tables

-- the tables count only where the text is not refused
abbrev pub left : Result Unit Answer → Tables → Tables
left (Ok x) t = t
left (Err a) t = zeros

-- an answer as it is handed on, and tables, are what a text says
pub record Closed (r : Result Unit Answer) (t : Tables) (o : TextOut) : Type 0 where
  pub answer : r ≡ outcome o.answer
  pub tables : left r t ≡ o.tables

-- a text read over what the tables hold, as the rules read it where they hold nothing
unfoldable pub read_over : List ℕ → Tables → TextOut
read_over s t =
    when (ltb limits.bytes (length s))
    (λ _. stopped (answer 1 0))
    (λ _. lines_from s (most_lines + 1) 1 0 nothing t)

pub over_zeros : (s : List ℕ) → read_over s zeros ≡ read_text s
unfolding read_over read_text
over_zeros s = refl

-- the same of the tables as they are, which are all 0 where the text is refused
pub record Holds (o : TextOut) (a : Result Unit Answer) (t : Tables) : Type 0 where
  pub answer : a ≡ outcome o.answer
  pub tables : t ≡ o.tables
