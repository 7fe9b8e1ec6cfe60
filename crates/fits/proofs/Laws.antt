-- Laws of the ways through a pass: the cells of a block, the block lines and the argument lines. Assumes nothing.
use native.Mathlib.Numerals.{add-one}
use lib.ListN.{length-map}
use Rattle.std.specs.Prelude.{◌+◌, ◌<◌, ◌≤◌, ◌&&◌, ◌∷◌, ◌≡◌, None}
use Rattle.rules.specs.Prelude.{ℕ, Bool, true, false, List, map, sym, ◌∙◌, length, get_or, drop}
use Rattle.rules.specs.declared.Answer.{Answer}
use Rattle.rules.specs.declared.Kind.TheVariants.{Value}
use Rattle.rules.specs.Machine.{Given}
use Rattle.rules.specs.When.{when, need}
use Rattle.rules.specs.Answers.{answer, accepted, and_then, first}
use Rattle.rules.specs.Program.{Prog, Rows, Var, loosest, field_of, kind_at}
use Rattle.rules.specs.Environments.{no_var}
use Rattle.rules.specs.Machine.{Store, block_at, row_in, tag_in, cells_in, cell_at, ev_var}
use Rattle.rules.specs.Machine.Tables.{vals_of}
use Rattle.rules.specs.Fits.{fits, cells_fit, block_number, arg_numbers}
use Rattle.rules.specs.declared.StoreTables.{StoreTables}
use Rattle.rules.specs.Store.{store_fits}
use Rattle.rules.proofs.Sound.StepTables.{vals_length}
use Rattle.fits.specs.Blocks.{store_in}
use Rattle.table.proofs.Passes.{left_more, left_none, all_on, all_no, first_append, then_on, then_no}

-- ---- a block

-- the cells of block k from o on
abbrev pub cells_from : Rows → Store → ℕ → ℕ → Bool
cells_from ρ s k o = cells_fit ρ s (block_at s k).row (block_at s k).tag o (drop o (block_at s k).cells)

module _ (ρ : Rows) (s : Store) (k o n : ℕ) (en : n ≡ cells_in s k) where
  pub cells_done : n ≤ o → true ≡ cells_from ρ s k o
  unfolding cells_fit cells_in
  cells_done h = rw (left_none (block_at s k).cells o n en h)

  module _ (h : o < n) (r t q : ℕ) (g : Given) (b : Bool) (er : r ≡ row_in s k) (et : t ≡ tag_in s k) (eq : q ≡ field_of ρ r t o) (eg : g ≡ cell_at s k o) (eb : b ≡ fits ρ s (Value q) loosest g) where
    cells_left : cells_from ρ s k o ≡ (b && cells_from ρ s k (o + 1))
    unfolding cells_fit cells_in row_in tag_in cell_at
    cells_left = rw (left_more (block_at s k).cells o n en None h, eb, eq, eg, er, et, add-one o)

    pub cells_on_lem : b ≡ true → cells_from ρ s k (o + 1) ≡ cells_from ρ s k o
    cells_on_lem z = all_on cells_left z

    pub cells_no : b ≡ false → false ≡ cells_from ρ s k o
    cells_no z = sym (all_no (cells_from ρ s k (o + 1)) cells_left z)

-- ---- arguments

-- the answer of the variables from v on, the first parameter among them on line `at`
abbrev pub args_from : Rows → Store → List Var → List ℕ → ℕ → ℕ → Answer
args_from ρ s D W at v = first at (arg_numbers ρ s (drop v D) (drop v (vals_of (length D) W)))

module _ (ρ : Rows) (s : Store) (D : List Var) (W : List ℕ) (at v n : ℕ) (en : n ≡ length D) where
  pub args_done : n ≤ v → accepted ≡ args_from ρ s D W at v
  unfolding first arg_numbers
  args_done h = rw (left_none D v n en h)

  module _ (h : v < n) (l : Bool) (el : l ≡ (get_or D v no_var).is_local) where
    args_left : arg_numbers ρ s (drop v D) (drop v (vals_of (length D) W)) ≡
        when l (λ _. arg_numbers ρ s (drop (v + 1) D) (drop (v + 1) (vals_of (length D) W)))
        (λ _. need 27 (fits ρ s (kind_at D v) loosest (ev_var (vals_of (length D) W) v)) 0 ∷ arg_numbers ρ s (drop (v + 1) D) (drop (v + 1) (vals_of (length D) W)))
    unfolding arg_numbers kind_at ev_var
    args_left = rw (left_more D v n en no_var h, left_more (vals_of (length D) W) v n (en ∙ sym (vals_length (length D) W)) None h, el)

    pub args_local : l ≡ true → args_from ρ s D W at (v + 1) ≡ args_from ρ s D W at v
    args_local z = rw (args_left, z)

    module _ (z : l ≡ false) (b : Bool) (eb : b ≡ fits ρ s (kind_at D v) loosest (ev_var (vals_of (length D) W) v)) where
      pub args_on : b ≡ true → args_from ρ s D W (at + 1) (v + 1) ≡ args_from ρ s D W at v
      unfolding first
      args_on q = rw (args_left, z, sym eb, q)

      pub args_no : b ≡ false → answer 27 at ≡ args_from ρ s D W at v
      unfolding first
      args_no q = rw (args_left, z, sym eb, q)

-- ---- the block lines, then the argument lines

module _ (P : Prog) (o : StoreTables) (a : Answer) (ea : a ≡ first 2 (map (block_number P.rows (store_in o)) (store_in o))) where
  from_blocks : store_fits P o ≡ and_then a (λ _. first (2 + length (store_in o)) (arg_numbers P.rows (store_in o) P.vars (vals_of (length P.vars) o.vals)))
  unfolding store_fits
  from_blocks = rw (ea, sym (length-map (store_in o) (block_number P.rows (store_in o)))) (first_append 2 (map (block_number P.rows (store_in o)) (store_in o)) _)

  pub fits_blocks : (a.number ≡ 0 → ⊥) → a ≡ store_fits P o
  fits_blocks z = rw from_blocks (then_no a _ z)

  pub fits_args : a.number ≡ 0 → (n : ℕ) → n ≡ length (store_in o) → (r : Answer) → r ≡ first (2 + n) (arg_numbers P.rows (store_in o) P.vars (vals_of (length P.vars) o.vals)) → r ≡ store_fits P o
  fits_args z n en r er = rw (from_blocks, then_on a _ z, sym en) er
