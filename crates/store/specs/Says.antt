-- An answer and a store's tables are what the rules say of a store text. Assumes nothing.
use Rattle.std.specs.Prelude.{◌≡◌}
use Rattle.rules.specs.Prelude.{ℕ, List, Result, Ok, Err}
use Rattle.rules.specs.declared.Answer.{Answer}
use Rattle.rules.specs.declared.StoreTables.{StoreTables}
use Rattle.rules.specs.Store.Fill.{no_store_tables}
use Rattle.rules.specs.Answers.{outcome}
use Rattle.rules.specs.Store.{StoreOut}

abbrev pub tables_are : List ℕ → List ℕ → List ℕ → List ℕ → StoreTables
tables_are Z H C W = record { size = Z; heads = H; cells = C; vals = W }

-- the tables are those of a store that is not refused; of one that is, the rules keep none
abbrev pub Kept : StoreOut → StoreTables → Result Unit Answer → Type 0
Kept o t (Ok _) = t ≡ o.tables
Kept o t (Err _) = no_store_tables ≡ o.tables

pub record Filled (o : StoreOut) (a : Result Unit Answer) (t : StoreTables) : Type 0 where
  pub answer : a ≡ outcome o.answer
  pub tables : Kept o t a

pub record Says (o : StoreOut) (a : Result Unit Answer) (t : StoreTables) : Type 0 where
  pub answer : a ≡ outcome o.answer
  pub tables : t ≡ o.tables
