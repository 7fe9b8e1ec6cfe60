-- The store text, of a right shape: what it names (24), and what it writes into the tables. Each is a pass over the text. Assumes nothing.
use Rattle.rules.specs.declared.StoreTables.{StoreTables}
use Rattle.std.specs.Prelude.{◌+◌, ◌*◌, ◌&&◌, ◌∷◌}
use Rattle.rules.specs.Text.Words.{Reading}
use Rattle.rules.specs.Prelude.{ℕ, zero, suc, Bool, true, false, List, [], ltb, eqb, set, drop, replicate, Num, Kind, Cint, Value, Answer, StoreCount, Datum, Int, Imm}
use Rattle.rules.specs.When.{One, need, when}
use Rattle.rules.specs.Limits.{limits}
use Rattle.rules.specs.Answers.{first}
use Rattle.rules.specs.Text.Words.{value_of, next_of, plain_at, number_at}
use Rattle.rules.specs.Program.{Rows, Var, row_there}
use Rattle.rules.specs.Machine.Tables.{code_of, head_width, block_width}
use Rattle.rules.specs.Store.Text.{store_texts, cell_word, arg_word, block_words}

-- ---- places in the text

-- the place after the next line feed
unfoldable pub line_after : List ℕ → ℕ → ℕ
line_after [] i = i
line_after (b ∷ s) i = when (eqb b 10) (λ _. i + 1) (λ _. line_after s (i + 1))

unfoldable pub next_line : List ℕ → ℕ → ℕ
next_line s at = line_after (drop at s) at

-- of a block line, by the place after its key: R, TAG, where the cells begin
abbrev pub row_of : List ℕ → ℕ → ℕ
row_of s at = value_of (plain_at s at)

abbrev pub tag_word : List ℕ → ℕ → Reading
tag_word s at = number_at s (next_of (plain_at s at) + 1)

abbrev pub cells_start : List ℕ → ℕ → ℕ
cells_start s at = next_of (tag_word s at) + 1

abbrev pub cell_count : List ℕ → ℕ → ℕ
cell_count s at = value_of (block_words s at)

-- the place after `block=`, and after `arg=`
abbrev pub after_block : ℕ → ℕ
after_block at = at + 6

abbrev pub after_arg : ℕ → ℕ
after_arg at = at + 4

-- ---- 24: row or block absent

-- a place names a block that is there
unfoldable pub datum_there : ℕ → ℕ → Bool
datum_there blocks w = ltb w ((blocks + 3) * 4294967296)

-- of n cells
unfoldable pub cells_there : List ℕ → ℕ → ℕ → ℕ → Bool
cells_there s blocks zero at = true
cells_there s blocks (suc n) at =
    when (datum_there blocks (value_of (cell_word s at))) (λ _. cells_there s blocks n (next_of (cell_word s at) + 1)) (λ _. false)

unfoldable pub block_there : List ℕ → Rows → ℕ → ℕ → Bool
block_there s ρ blocks at = row_there ρ (row_of s at) && cells_there s blocks (cell_count s at) (cells_start s at)

-- the numbers of n block lines from `at` on, then of `args` argument lines
unfoldable pub arg_names : List ℕ → ℕ → ℕ → ℕ → List ℕ
arg_names s blocks zero at = []
arg_names s blocks (suc n) at = need 24 (datum_there blocks (value_of (arg_word s (after_arg at)))) 0 ∷ arg_names s blocks n (next_line s at)

unfoldable pub block_names : List ℕ → Rows → ℕ → ℕ → ℕ → ℕ → List ℕ
block_names s ρ blocks args zero at = arg_names s blocks args at
block_names s ρ blocks args (suc n) at = need 24 (block_there s ρ blocks (after_block at)) 0 ∷ block_names s ρ blocks args n (next_line s at)

-- `run=` is line 1
unfoldable pub store_names : List ℕ → Rows → StoreCount → Answer
store_names s ρ c = first 2 (block_names s ρ c.blocks c.args c.blocks (next_line s 0))

-- ---- what is written

unfoldable pub no_store_tables : StoreTables
no_store_tables =
    record {
      size = replicate 2 0;
      heads = replicate (limits.blocks * head_width) 0;
      cells = replicate (limits.blocks * block_width) 0;
      vals = replicate limits.variables 0;
    }

-- a block with more cells than any product has fields is kept as one with one too many
unfoldable pub kept_cells : ℕ → ℕ
kept_cells n = when (ltb block_width n) (λ _. block_width) (λ _. n)

unfoldable pub put_head : List ℕ → ℕ → ℕ → ℕ → ℕ → List ℕ
put_head H k r t n = set (set (set H (k * head_width) (r + 1)) (k * head_width + 1) t) (k * head_width + 2) n

-- n cells of block k, from cell o on
unfoldable pub fill_cells : List ℕ → ℕ → ℕ → ℕ → ℕ → List ℕ → List ℕ
fill_cells s k zero o at C = C
fill_cells s k (suc n) o at C = fill_cells s k n (o + 1) (next_of (cell_word s at) + 1) (set C (k * block_width + o) (value_of (cell_word s at)))

-- a local starts as the number N, or as the OCaml immediate N
abbrev pub local_datum : Kind → Num → Datum
local_datum Cint n = Int n
local_datum (Value r) n = Imm n

-- the variables from v on: a parameter takes the next argument
unfoldable pub fill_vals : List ℕ → List Var → ℕ → ℕ → List ℕ → List ℕ
fill_vals s [] v at W = W
fill_vals s (d ∷ D) v at W =
    when d.is_local
    (λ _. fill_vals s D (v + 1) at (set W v (code_of (local_datum d.kind d.number))))
    (λ _. fill_vals s D (v + 1) (next_line s at) (set W v (value_of (arg_word s (after_arg at)))))

-- n blocks, from block k on, then the variables
unfoldable pub fill_blocks : List ℕ → List Var → StoreCount → ℕ → ℕ → ℕ → List ℕ → List ℕ → StoreTables
fill_blocks s D c zero k at H C = record { size = c.budget ∷ c.blocks ∷ []; heads = H; cells = C; vals = fill_vals s D 0 at no_store_tables.vals }
fill_blocks s D c (suc n) k at H C =
    let b : ℕ = after_block at in
    let count : ℕ = kept_cells (cell_count s b) in
    fill_blocks s D c n (k + 1) (next_line s at)
    (put_head H k (row_of s b) (value_of (tag_word s b)) count)
    (fill_cells s k count 0 (cells_start s b) C)

unfoldable pub fill_store : List ℕ → List Var → StoreCount → StoreTables
fill_store s D c = fill_blocks s D c c.blocks 0 (next_line s 0) no_store_tables.heads no_store_tables.cells

-- to compute with what stands here
unfoldable pub store_fills : One
unfolding store_texts line_after next_line datum_there cells_there block_there arg_names block_names store_names no_store_tables kept_cells put_head fill_cells fill_vals fill_blocks fill_store
store_fills = tt
