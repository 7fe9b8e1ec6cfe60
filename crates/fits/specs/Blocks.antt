-- The store in its tables. A block of a store by its number: whether its cells fit; and the number of an answer as code hands it on. Assumes nothing.
use Rattle.rules.specs.Prelude.{ℕ, Bool, eqb, Result, Ok, Err}
use Rattle.rules.specs.declared.StoreTables.{StoreTables}
use Rattle.rules.specs.When.{when}
use Rattle.rules.specs.Program.{Rows}
use Rattle.rules.specs.Machine.{Store, block_at}
use Rattle.rules.specs.Machine.Tables.{store_of}
use Rattle.rules.specs.Fits.{cells_fit}

abbrev pub store_in : StoreTables → Store
store_in t = store_of t.size t.heads t.cells

abbrev pub block_fits : Rows → Store → ℕ → Bool
block_fits ρ s k = cells_fit ρ s (block_at s k).row (block_at s k).tag 0 (block_at s k).cells

-- nothing where it is 0, and else an error
abbrev pub numbered : ℕ → Result Unit ℕ
numbered n = when (eqb n 0) (λ _. Ok tt) (λ _. Err n)
