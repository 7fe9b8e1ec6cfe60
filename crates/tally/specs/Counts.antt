-- The answer to a store text as far as its shape and limits go, with its counts; how the code hands on that, a key and a line; and counts that are few enough to go on with. Assumes nothing.
use Rattle.std.specs.Prelude.{◌+◌, ◌≤◌}
use Rattle.rules.specs.Prelude.{ℕ, List, Result, Ok, Err, eqb, ltb, length}
use Rattle.rules.specs.declared.StoreCount.{StoreCount}
use Rattle.rules.specs.When.{when}
use Rattle.rules.specs.Limits.{limits}
use Rattle.rules.specs.Answers.{answer, passes}
use Rattle.rules.specs.Store.Text.{StoreLine, store_line, Counted, counted_out, store_lines, most_store_lines, no_store}
use Rattle.rules.specs.Text.Words.{Reading}
use Rattle.tally.specs.declared.StoreKey.{StoreKey}
use Rattle.tally.specs.declared.StoreKey.TheVariants.{Run, Block, Arg}
use Rattle.tally.specs.declared.Tally.{Tally}

-- 21, then 22 and 23
unfoldable pub tallied : ℕ → List ℕ → Counted
tallied params s =
    when (ltb limits.store (length s))
    (λ _. counted_out (answer 21 0) no_store)
    (λ _. store_lines s params (most_store_lines + 1) 1 0 no_store)

-- the counts of a text that is not refused; else its answer, with the counts up to the refused line
abbrev pub passed : Counted → Result StoreCount Tally
passed (counted_out a c) = when (passes a) (λ _. Ok c) (λ _. Err (record { answer = a; count = c }))

-- the number of a key in the rules
abbrev pub key_number : StoreKey → ℕ
key_number Run = 1
key_number Block = 2
key_number Arg = 3

abbrev pub keyed : Result (StoreKey × ℕ) ℕ → Reading
keyed (Ok (k, n)) = Ok (key_number k, n)
keyed (Err p) = Err p

-- where a line that is not refused ends, and the counts after it; else its answer, with the counts
abbrev pub lined : StoreLine → Result (ℕ × StoreCount) (ℕ × StoreCount)
lined (store_line a n c) = when (eqb a 0) (λ _. Ok (n, c)) (λ _. Err (a, c))

-- within the limits, with at most so many arguments
pub record Few (most : ℕ) (c : StoreCount) : Type 0 where
  pub few_blocks : c.blocks ≤ limits.blocks
  pub few_cells : c.cells ≤ limits.cells
  pub few_args : c.args ≤ most
