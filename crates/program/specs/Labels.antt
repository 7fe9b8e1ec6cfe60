-- What stands in the table for a label, whether that label is there or not: its environment, and the numbers of its entries. Assumes nothing.
use Rattle.std.specs.Prelude.{◌⊎◌}
use Rattle.std.specs.Prelude.{◌+◌, ◌*◌, ◌≤◌}
use Rattle.rules.specs.Prelude.{ℕ, List}
use Rattle.rules.specs.declared.Env.{Env}
use Rattle.rules.specs.Limits.{limits}
use Rattle.rules.specs.Text.Layout.{cell, label_width}
use Rattle.rules.specs.View.{tab, label_from}

unfoldable pub env_from : List ℕ → ℕ → ℕ → Env
env_from L l n = record { entries = (label_from L l).entries; count = n }

-- 96 places from the first on are all in a list of so many, or none is
abbrev pub Whole : ℕ → ℕ → Type 0
Whole n first = (n ≤ first) ⊎ (first + 96 ≤ n)

-- three numbers for each variable
unfoldable pub codes_from : List ℕ → ℕ → List ℕ
codes_from L l = tab (limits.variables * 3) (λ k. cell L label_width l (k + 1))
