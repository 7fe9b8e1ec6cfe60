-- A store text: each line of each stage has 0 or a number of the second table, so the answer has a case of it. Assumes nothing.
use Rattle.std.specs.Prelude.{◌+◌, ◌||◌, ◌∷◌}
use Rattle.rules.specs.Text.Words.{Reading}
use Rattle.rules.specs.Machine.{Given}
use Rattle.rules.specs.Prelude.{ℕ, zero, suc, List, [], refl, ltb, eqb, length, Ok, Err, StoreCount}
use Rattle.rules.specs.Limits.{limits}
use Rattle.rules.specs.Answers.{case_of}
use Rattle.rules.specs.Text.Words.{byte_at, value_of}
use Rattle.rules.specs.Program.{Rows, Var, Prog, loosest}
use Rattle.rules.specs.Machine.{Block, Store}
use Rattle.rules.specs.Machine.Tables.{store_of, vals_of}
use Rattle.rules.specs.Fits.{fits, right_shape, cells_fit, block_number, arg_numbers}
use Rattle.rules.specs.Store.Text.{arg_word, store_key, store_order, store_words, counted, within, StoreLine, store_line, store_shaped, store_keyed, store_line_at, Counted, counted_out, and_store, most_store_lines, store_lines, no_store}
use Rattle.rules.specs.declared.StoreTables.{StoreTables}
use Rattle.rules.specs.Store.Fill.{next_line, after_block, after_arg, datum_there, block_there, arg_names, block_names, store_names, fill_store}
use Rattle.rules.specs.Store.{store_fits, StoreOut, judged, params_of, read_store}
use Rattle.rules.proofs.Laws.Tests.{by_need, by_when}
use Rattle.rules.proofs.Laws.Stages.{Each}
use Rattle.rules.proofs.Laws.Told.Numbers.{StoreNo, Told, InStore, store_no, accepted_told, first_told, then_told, each_then}

-- ---- the store text: 22 and 23

abbrev SaysStore : StoreLine → Type 0
SaysStore (store_line a n c) = StoreNo a

module _ (s : List ℕ) (c : StoreCount) where
  says_store_shaped : (k : ℕ) (x : Reading) → SaysStore (store_shaped s c k x)
  says_store_shaped k (Err p) = tt
  says_store_shaped k (Ok (v, n)) = by_when SaysStore (eqb (byte_at s n) 10) _ _ (λ z. by_when SaysStore (within (counted c k v)) _ _ (λ y. tt) (λ y. tt)) (λ z. tt)

  says_store_keyed : (params start : ℕ) (x : Reading) → SaysStore (store_keyed s params start c x)
  says_store_keyed params start (Err p) = tt
  says_store_keyed params start (Ok (k, n)) = by_when SaysStore (store_order params c k) _ _ (λ z. says_store_shaped k (store_words s k n)) (λ z. tt)

abbrev ToldCounted : Counted → Type 0
ToldCounted (counted_out a c) = Told InStore a

store_lines_told : (s : List ℕ) (params left line at : ℕ) (c : StoreCount) → ToldCounted (store_lines s params left line at c)
unfolding store_lines store_line_at
store_lines_told s params zero line at c = store_no 23 tt refl line
store_lines_told s params (suc left) line at c =
    by_when ToldCounted (ltb at (length s)) _ _ (λ z. one (store_line_at s params at c) (says_store_keyed s c params at (store_key s at)) (λ n d. store_lines_told s params left (line + 1) n d))
    (λ z. by_when ToldCounted (eqb c.part 0 || ltb c.args params) _ _ (λ q. store_no 22 tt refl line) (λ q. accepted_told InStore tt))
  where
    one : (x : StoreLine) → SaysStore x → ((n : ℕ) (d : StoreCount) → ToldCounted (store_lines s params left (line + 1) n d)) → ToldCounted (and_store (store_lines s params left (line + 1)) line x)
    one (store_line a n d) h f = by_when ToldCounted (eqb a 0) _ _ (λ z. f n d) (λ z. store_no a h z line)

-- ---- 24

says_args : (s : List ℕ) (blocks n at : ℕ) → Each StoreNo (arg_names s blocks n at)
unfolding arg_names
says_args s blocks zero at = tt
says_args s blocks (suc n) at = (by_need StoreNo 24 (datum_there blocks (value_of (arg_word s (after_arg at)))) 0 tt (λ h. tt), says_args s blocks n (next_line s at))

says_blocks : (s : List ℕ) (ρ : Rows) (blocks args n at : ℕ) → Each StoreNo (block_names s ρ blocks args n at)
unfolding block_names
says_blocks s ρ blocks args zero at = says_args s blocks args at
says_blocks s ρ blocks args (suc n) at = (by_need StoreNo 24 (block_there s ρ blocks (after_block at)) 0 tt (λ h. tt), says_blocks s ρ blocks args n (next_line s at))

store_names_told : (s : List ℕ) (ρ : Rows) (c : StoreCount) → Told InStore (store_names s ρ c)
unfolding store_names
store_names_told s ρ c = first_told InStore StoreNo tt store_no 2 _ (says_blocks s ρ c.blocks c.args c.blocks (next_line s 0))

-- ---- 25 to 27

says_block : (ρ : Rows) (σ : Store) (K : Block) → StoreNo (block_number ρ σ K)
unfolding block_number
says_block ρ σ K = by_need StoreNo 25 (right_shape ρ K) _ tt (λ h. by_need StoreNo 26 (cells_fit ρ σ K.row K.tag 0 K.cells) 0 tt (λ g. tt))

says_arguments : (ρ : Rows) (σ : Store) (D : List Var) (δ : List Given) → Each StoreNo (arg_numbers ρ σ D δ)
unfolding arg_numbers
says_arguments ρ σ [] δ = tt
says_arguments ρ σ (d ∷ D) [] = tt
says_arguments ρ σ (d ∷ D) (g ∷ δ) =
    by_when (Each StoreNo) d.is_local _ _ (λ z. says_arguments ρ σ D δ)
    (λ z. (by_need StoreNo 27 (fits ρ σ d.kind loosest g) 0 tt (λ h. tt), says_arguments ρ σ D δ))

store_fits_told : (P : Prog) (o : StoreTables) → Told InStore (store_fits P o)
unfolding store_fits
store_fits_told P o =
    let σ = store_of o.size o.heads o.cells in
    let δ = vals_of (length P.vars) o.vals in
    first_told InStore StoreNo tt store_no 2 _
    (each_then StoreNo (block_number P.rows σ) (says_block P.rows σ) σ (arg_numbers P.rows σ P.vars δ) (says_arguments P.rows σ P.vars δ))

abbrev ToldStore : StoreOut → Type 0
ToldStore o = Told InStore o.answer

judged_told : (P : Prog) (s : List ℕ) (x : Counted) → ToldCounted x → ToldStore (judged P s x)
judged_told P s (counted_out a c) h = then_told InStore a _ h (then_told InStore (store_names s P.rows c) _ (store_names_told s P.rows c) (store_fits_told P (fill_store s P.vars c)))

pub store_told : (P : Prog) (s : List ℕ) → ToldStore (read_store P s)
unfolding read_store case_of
store_told P s =
    by_when ToldStore (ltb limits.store (length s)) _ _ (λ z. (refl, tt))
    (λ z. judged_told P s (store_lines s (params_of P.vars) (most_store_lines + 1) 1 0 no_store) (store_lines_told s (params_of P.vars) (most_store_lines + 1) 1 0 no_store))
