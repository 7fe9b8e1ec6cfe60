-- The store text: 22 and 23 line by line, 22 first. Nothing is kept but counts. Assumes nothing.
use Rattle.std.specs.Prelude.{◌+◌, ◌*◌, ◌&&◌, ◌||◌}
use Rattle.rules.specs.Text.Words.{Reading}
use Rattle.rules.specs.Prelude.{ℕ, zero, suc, Bool, List, ltb, leb, eqb, length, Answer, Ok, Err, StoreCount}
use Rattle.rules.specs.When.{One, when}
use Rattle.rules.specs.Bytes.{bytes}
use Rattle.rules.specs.Limits.{limits}
use Rattle.rules.specs.Answers.{accepted, answer}
use Rattle.rules.specs.Text.Words.{words, byte_at, plain_at, number_at, or_word}

-- ---- data: `cN`, `iN`, `bK` as they stand in a table (a place has offset 0)

abbrev pub datum_of : ℕ → Reading → Reading
datum_of base (Ok (w, n)) = Ok (base + w, n)
datum_of base (Err p) = Err p

-- the high half of a place is k + 3
abbrev pub place_of : Reading → Reading
place_of (Ok (k, n)) = Ok ((k + 3) * 4294967296, n)
place_of (Err p) = Err p

-- a cell: `iN` or `bK`
unfoldable pub cell_word : List ℕ → ℕ → Reading
cell_word s at =
    when (eqb (byte_at s at) 105)
    (λ _. datum_of 8589934592 (number_at s (at + 1)))
    (λ _. when (eqb (byte_at s at) 98) (λ _. place_of (plain_at s (at + 1))) (λ _. Err at))

-- an argument: `cN`, `iN` or `bK`
unfoldable pub arg_word : List ℕ → ℕ → Reading
arg_word s at = when (eqb (byte_at s at) 99) (λ _. datum_of 4294967296 (number_at s (at + 1))) (λ _. cell_word s at)

-- ---- 22 and 23, line by line, 22 first

-- how many cells, each after a space but the first
abbrev pub cells_on : List ℕ → (ℕ → ℕ → Reading) → ℕ → Reading → Reading
cells_on s rest n (Err p) = Err p
cells_on s rest n (Ok (w, m)) = when (eqb (byte_at s m) 32) (λ _. rest (n + 1) (m + 1)) (λ _. Ok (n + 1, m))

unfoldable pub cells_from : List ℕ → ℕ → ℕ → ℕ → Reading
cells_from s zero n at = Err at
cells_from s (suc left) n at = cells_on s (cells_from s left) n (cell_word s at)

-- what was read after a space
abbrev pub spaced : List ℕ → (ℕ → Reading) → Reading → Reading
spaced s go (Err p) = Err p
spaced s go (Ok (w, n)) = when (eqb (byte_at s n) 32) (λ _. go (n + 1)) (λ _. Err n)

-- R TAG CELLS: how many cells
unfoldable pub block_words : List ℕ → ℕ → Reading
block_words s at = spaced s (λ n. spaced s (cells_from s (length s) 0) (number_at s n)) (plain_at s at)

-- 1 run=, 2 block=, 3 arg=
unfoldable pub store_key : List ℕ → ℕ → Reading
store_key s at = or_word s at (bytes "arg=") 3 (or_word s at (bytes "block=") 2 (or_word s at (bytes "run=") 1 (Err at)))

-- one `run=`, then blocks, then as many arguments as there are parameters
unfoldable pub store_order : ℕ → StoreCount → ℕ → Bool
store_order params c k =
    when (eqb k 1)
    (λ _. eqb c.part 0)
    (λ _. when (eqb k 2) (λ _. eqb c.part 1) (λ _. ltb 0 c.part && ltb c.args params))

-- what stands after a key: the budget, the number of cells, the datum
unfoldable pub store_words : List ℕ → ℕ → ℕ → Reading
store_words s k at = when (eqb k 1) (λ _. plain_at s at) (λ _. when (eqb k 2) (λ _. block_words s at) (λ _. arg_word s at))

-- the counts after a line, and whether they are within the limits
unfoldable pub counted : StoreCount → ℕ → ℕ → StoreCount
counted c k v =
    when (eqb k 1)
    (λ _. record { part = 1; budget = v; blocks = 0; cells = 0; args = 0 })
    (λ _. when (eqb k 2)
    (λ _. record { part = 1; budget = c.budget; blocks = c.blocks + 1; cells = c.cells + v; args = 0 })
    (λ _. record { part = 2; budget = c.budget; blocks = c.blocks; cells = c.cells; args = c.args + 1 }))

unfoldable pub within : StoreCount → Bool
within c = leb c.budget limits.budget && (leb c.blocks limits.blocks && leb c.cells limits.cells)

-- a line's answer (0 goes on), the byte after it, the counts
pub data StoreLine : Type 0 where
  store_line : ℕ → ℕ → StoreCount → StoreLine

abbrev pub store_limits : ℕ → StoreCount → StoreLine
store_limits n c = when (within c) (λ _. store_line 0 n c) (λ _. store_line 23 n c)

abbrev pub store_shaped : List ℕ → StoreCount → ℕ → Reading → StoreLine
store_shaped s c k (Err p) = store_line 22 p c
store_shaped s c k (Ok (v, n)) = when (eqb (byte_at s n) 10) (λ _. store_limits (n + 1) (counted c k v)) (λ _. store_line 22 n c)

abbrev pub store_keyed : List ℕ → ℕ → ℕ → StoreCount → Reading → StoreLine
store_keyed s params start c (Err p) = store_line 22 p c
store_keyed s params start c (Ok (k, n)) = when (store_order params c k) (λ _. store_shaped s c k (store_words s k n)) (λ _. store_line 22 start c)

unfoldable pub store_line_at : List ℕ → ℕ → ℕ → StoreCount → StoreLine
store_line_at s params at c = store_keyed s params at c (store_key s at)

pub data Counted : Type 0 where
  counted_out : Answer → StoreCount → Counted

-- too few `arg` lines: 22, naming the line after the last; an empty text: 22 at line 1
abbrev pub store_end : ℕ → ℕ → StoreCount → Counted
store_end params line c =
    when (eqb c.part 0 || ltb c.args params)
    (λ _. counted_out (answer 22 line) c)
    (λ _. counted_out accepted c)

abbrev pub and_store : (ℕ → StoreCount → Counted) → ℕ → StoreLine → Counted
and_store rest line (store_line a n c) = when (eqb a 0) (λ _. rest n c) (λ _. counted_out (answer a line) c)

-- the lines from `at` on. One `run=` and, within the limits, so many blocks and arguments can be right, and the line after these is refused: `left` never runs out
abbrev pub most_store_lines : ℕ
most_store_lines = 1 + limits.blocks + limits.variables

unfoldable pub store_lines : List ℕ → ℕ → ℕ → ℕ → ℕ → StoreCount → Counted
store_lines s params zero line at c = counted_out (answer 23 line) c
store_lines s params (suc left) line at c =
    when (ltb at (length s))
    (λ _. and_store (store_lines s params left (line + 1)) line (store_line_at s params at c))
    (λ _. store_end params line c)

abbrev pub no_store : StoreCount
no_store = record { part = 0; budget = 0; blocks = 0; cells = 0; args = 0 }

-- to compute with what stands here
unfoldable pub store_texts : One
unfolding words cell_word arg_word cells_from block_words store_key store_order store_words counted within store_line_at store_lines
store_texts = tt
