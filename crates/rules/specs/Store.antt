-- The store text beside a program that was read: 21; 22 and 23; 24; 25 to 27; with the store's tables, zero on a refusal. Assumes nothing.
pub mod Text
pub mod Fill
use Rattle.std.specs.Prelude.{◌+◌, ◌∷◌, ◌++◌}
use Rattle.rules.specs.Prelude.{ℕ, suc, List, [], map, ltb, length, Answer}
use Rattle.rules.specs.When.{One, when}
use Rattle.rules.specs.Limits.{limits}
use Rattle.rules.specs.Answers.{answer, and_then, passes, first, answers}
use Rattle.rules.specs.Program.{Var, Prog}
use Rattle.rules.specs.Machine.Tables.{store_of, vals_of, machine_tables}
use Rattle.rules.specs.Fits.{block_number, arg_numbers, fitting}
use Rattle.rules.specs.Store.Text.{Counted, counted_out, store_lines, most_store_lines, no_store}
use Rattle.rules.specs.declared.StoreTables.{StoreTables}
use Rattle.rules.specs.Store.Fill.{no_store_tables, fill_store, store_names, store_fills}

-- 25 to 27 over what was written: each block line, then each argument line
unfoldable pub store_fits : Prog → StoreTables → Answer
store_fits P o =
    let σ = store_of o.size o.heads o.cells in
    first 2 (map (block_number P.rows σ) σ ++ arg_numbers P.rows σ P.vars (vals_of (length P.vars) o.vals))

-- the answer and the store's tables
pub record StoreOut : Type 0 where
  pub answer : Answer
  pub tables : StoreTables

abbrev pub kept_store : Answer → StoreTables → StoreOut
kept_store a o = record { answer = a; tables = when (passes a) (λ _. o) (λ _. no_store_tables) }

abbrev pub judged : Prog → List ℕ → Counted → StoreOut
judged P s (counted_out a c) =
    kept_store (and_then a (λ _. and_then (store_names s P.rows c) (λ _. store_fits P (fill_store s P.vars c)))) (fill_store s P.vars c)

-- only parameters take an argument
unfoldable pub params_of : List Var → ℕ
params_of [] = 0
params_of (d ∷ D) = when d.is_local (λ _. params_of D) (λ _. suc (params_of D))

unfoldable pub read_store : Prog → List ℕ → StoreOut
read_store P s =
    when (ltb limits.store (length s))
    (λ _. kept_store (answer 21 0) no_store_tables)
    (λ _. judged P s (store_lines s (params_of P.vars) (most_store_lines + 1) 1 0 no_store))

-- to compute with what stands here
unfoldable pub stores : One
unfolding answers store_fills machine_tables fitting store_fits params_of read_store
stores = tt
