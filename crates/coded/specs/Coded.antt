-- An environment's entries as numbers: three for each variable, as a label's stand in their table. Assumes nothing.
use Rattle.std.specs.Prelude.{◌+◌, ◌*◌}
use Rattle.rules.specs.Prelude.{ℕ, List, get_or, set}
use Rattle.rules.specs.declared.Entry.{Entry}
use Rattle.rules.specs.declared.Env.{Env}
use Rattle.rules.specs.Limits.{limits}
use Rattle.rules.specs.View.{tab}
use Rattle.entry.specs.Again.{entry_of}
use Rattle.entry.specs.Codes.{codes_of}

-- the entry of variable v
unfoldable pub entry_in : List ℕ → ℕ → Entry
entry_in C v = entry_of (get_or C (v * 3) 0) (get_or C (v * 3 + 1) 0) (get_or C (v * 3 + 2) 0)

-- the environment of n variables
unfoldable pub env_of : List ℕ → ℕ → Env
env_of C n = record { entries = tab limits.variables (entry_in C); count = n }

-- the numbers where variable v has the entry e
unfoldable pub put_codes : List ℕ → ℕ → Entry → List ℕ
put_codes C v e = set (set (set C (v * 3) (codes_of e).boxed) (v * 3 + 1) (codes_of e).offset) (v * 3 + 2) (codes_of e).tag
