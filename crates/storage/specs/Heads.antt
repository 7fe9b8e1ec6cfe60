-- A block's head written, with its row as it stands, plus 1: so every number that a table can hold can be given. Assumes nothing.
use Rattle.std.specs.Prelude.{◌+◌, ◌*◌}
use Rattle.rules.specs.Prelude.{ℕ, List, set}
use Rattle.rules.specs.Machine.Tables.{head_width}

unfoldable pub head_put : List ℕ → ℕ → ℕ → ℕ → ℕ → List ℕ
head_put H b row tag n = set (set (set H (b * head_width) row) (b * head_width + 1) tag) (b * head_width + 2) n
