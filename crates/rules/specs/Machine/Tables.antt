-- The machine's tables: what they mean, and a step that alters them where they stand. Assumes nothing.
-- A datum is one number: its high half 0 nothing, 1 C int, 2 immediate, k + 3 a place in block k; its low half the number's word, or the offset.
use Rattle.std.specs.Prelude.{◌+◌, ◌-◌, ◌*◌, ◌/◌, ◌%◌}
use Rattle.rules.specs.Machine.{Given}
use Rattle.rules.specs.Prelude.{ℕ, zero, suc, Bool, List, leb, eqb, length, get_or, set, Datum, Int, Imm, Place, None, Some, Act, Stepped}
use Rattle.rules.specs.Prelude.D
use Rattle.rules.specs.Prelude.S
use Rattle.rules.specs.When.{One, when}
use Rattle.rules.specs.Numbers.{num_code, word_of}
use Rattle.rules.specs.Limits.{limits}
use Rattle.rules.specs.Text.Layout.{cell}
use Rattle.rules.specs.Program.{Prog}
use Rattle.rules.specs.View.{views, tab, up_to}
use Rattle.rules.specs.Machine.{machines, decide, Block, Store, Machine, says}

unfoldable pub datum_code : ℕ → Given
datum_code c =
    when (eqb (c / 4294967296) 0)
    (λ _. None)
    (λ _. when (eqb (c / 4294967296) 1)
    (λ _. Some (Int (num_code (c % 4294967296))))
    (λ _. when (eqb (c / 4294967296) 2)
    (λ _. Some (Imm (num_code (c % 4294967296))))
    (λ _. Some (Place (c / 4294967296 - 3) (c % 4294967296)))))

unfoldable pub code_of : Datum → ℕ
code_of (Int n) = 1 * 4294967296 + word_of n
code_of (Imm n) = 2 * 4294967296 + word_of n
code_of (Place b o) = (b + 3) * 4294967296 + o

-- size: budget, blocks
-- heads: 256 times 3: row + 1, tag, number of cells
-- cells: 256 times 17 data. A product has at most 16 fields; the place after them shows that a block line has too many cells
-- vals: 32 data, one for each variable
pub record MTables : Type 0 where
  pub size : List ℕ
  pub heads : List ℕ
  pub cells : List ℕ
  pub vals : List ℕ
  pub at : ℕ
  pub steps : ℕ
  pub value : ℕ

abbrev pub head_width : ℕ
head_width = 3

abbrev pub block_width : ℕ
block_width = 17

unfoldable pub block_from : List ℕ → List ℕ → ℕ → Block
block_from H C k = record { row = cell H head_width k 0 - 1; tag = cell H head_width k 1; cells = tab (up_to block_width (cell H head_width k 2)) (λ o. datum_code (cell C block_width k o)) }

unfoldable pub store_of : List ℕ → List ℕ → List ℕ → Store
store_of Z H C = tab (up_to limits.blocks (get_or Z 1 0)) (block_from H C)

unfoldable pub vals_of : ℕ → List ℕ → List Given
vals_of n W = tab n (λ v. datum_code (get_or W v 0))

-- what the tables mean, for a program P
unfoldable pub machine : Prog → MTables → Machine
machine P t = record { at = t.at; steps = t.steps; value = datum_code t.value; vals = vals_of (length P.vars) t.vals; store = store_of t.size t.heads t.cells }

abbrev pub moves_t : MTables → List ℕ → List ℕ → ℕ → ℕ → MTables
moves_t t W C i value = record { size = t.size; heads = t.heads; cells = C; vals = W; at = i; steps = t.steps + 1; value = value }

-- the store is altered where it stands
unfoldable pub apply_t : Act → MTables → MTables
apply_t D.Stuck t = t
apply_t D.Fall t = moves_t t t.vals t.cells (t.at + 1) t.value
apply_t (D.Jump i) t = moves_t t t.vals t.cells i t.value
apply_t (D.SetVar v d) t = moves_t t (set t.vals v (code_of d)) t.cells (t.at + 1) t.value
apply_t (D.SetCell b o d) t = moves_t t t.vals (set t.cells (b * block_width + o) (code_of d)) (t.at + 1) t.value
apply_t (D.Give d) t = moves_t t t.vals t.cells t.at (code_of d)

abbrev pub step_from_t : Prog → MTables → Given → MTables
step_from_t P t None = apply_t (decide P (store_of t.size t.heads t.cells) (vals_of (length P.vars) t.vals) t.at) t
step_from_t P t (Some d) = t

unfoldable pub step_t : Prog → MTables → MTables
step_t P t = step_from_t P t (datum_code t.value)

unfoldable pub run_t : Prog → ℕ → MTables → MTables
run_t P zero t = t
run_t P (suc n) t = run_t P n (step_t P t)

-- a machine has a budget; one whose count has reached it stays as it is
abbrev pub spent : MTables → Bool
spent t = leb (get_or t.size 0 0) t.steps

unfoldable pub step_within : Prog → MTables → MTables
step_within P t = when (spent t) (λ _. t) (λ _. step_t P t)

unfoldable pub says_within : Prog → MTables → Stepped
says_within P t = when (spent t) (λ _. S.Spent) (λ _. says P (machine P t))

-- all the steps that its budget leaves
unfoldable pub run_within : Prog → MTables → MTables
run_within P t = run_t P (get_or t.size 0 0 - t.steps) t

-- to compute with what stands here
unfoldable pub machine_tables : One
unfolding views machines datum_code code_of block_from store_of vals_of machine apply_t step_t run_t step_within says_within run_within
machine_tables = tt
