-- What one function of the code gives at once: a block line's numbers, and what a variable starts as. And where in a text the code may look. Assumes nothing.
use Rattle.std.specs.Prelude.{◌≤◌}
use Rattle.rules.specs.Prelude.{ℕ, List, length}
use Rattle.rules.specs.When.{when}
use Rattle.rules.specs.Limits.{limits}
use Rattle.rules.specs.Text.Words.{value_of}
use Rattle.rules.specs.Program.{Var}
use Rattle.rules.specs.Machine.Tables.{code_of}
use Rattle.rules.specs.Store.Text.{arg_word}
use Rattle.rules.specs.Store.Fill.{next_line, row_of, tag_word, cell_count, cells_start, after_arg, local_datum}
use Rattle.store.specs.declared.BlockLine.{BlockLine}
use Rattle.store.specs.declared.Taken.{Taken}

-- a place, at most `most`, in a text that is not too long
pub record Near (most : ℕ) (s : List ℕ) (at : ℕ) : Type 0 where
  pub near : at ≤ most
  pub short : length s ≤ limits.store

-- a place in a text, or its end
abbrev pub Inside : List ℕ → ℕ → Type 0
Inside s at = Near (length s) s at

-- by the place after the key
abbrev pub block_line : List ℕ → ℕ → BlockLine
block_line s at = record { row = row_of s at; tag = value_of (tag_word s at); count = cell_count s at; start = cells_start s at }

-- only a parameter takes an argument
abbrev pub taken : List ℕ → Var → ℕ → Taken
taken s d at =
    when d.is_local
    (λ _. record { code = code_of (local_datum d.kind d.number); next = at })
    (λ _. record { code = value_of (arg_word s (after_arg at)); next = next_line s at })
