-- Bounds, for callers: where a cell ends, how many cells a block line has, and that the counts of a text that is not refused are few. Assumes nothing.
use Prim.Native.Nat.{zero-le}
use native.Mathlib.Omega.{arith}
use lib.Dec.{T}
use borrow.Author.Tests.{leb-true, ltb-false, eqb-true, eqb-false}
use Rattle.std.specs.Prelude.{◌+◌, ◌*◌, ◌<◌, ◌≤◌, ◌||◌, ◌≡◌, Result, Ok, Err}
use Rattle.rules.specs.Prelude.{ℕ, zero, suc, List, sym, ap, ◌∙◌, subst, ltb, leb, eqb, length}
use Rattle.rules.specs.Text.Words.{Reading}
use Rattle.rules.specs.declared.StoreCount.{StoreCount}
use Rattle.rules.specs.Bytes.{bytes}
use Rattle.rules.proofs.Laws.Tests.{held, and_both, by_when}
use Rattle.rules.specs.Text.Words.{byte_at, value_of, plain_at, number_at}
use Rattle.rules.specs.Store.Text.{datum_of, place_of, cell_word, cells_on, cells_from, spaced, block_words, store_key, store_order, store_words, counted, within, StoreLine, store_line, store_limits, store_shaped, store_keyed, store_line_at, Counted, counted_out, store_end, and_store, store_lines, no_store}
use Rattle.text.proofs.Laws.{found, Reads, right, wrong, value_most, plain_reads, number_reads, or_reads}
use Rattle.tally.specs.declared.StoreKey.{StoreKey}
use Rattle.tally.specs.declared.StoreKey.TheVariants.{Run, Block, Arg}
use Rattle.tally.specs.Counts.{key_number, Few, lined, tallied}

-- ---- numbers

module _ (s : List ℕ) (at : ℕ) {r : Reading} where
  pub number_most : r ≡ number_at s at → value_of r ≤ 4294967295
  number_most e = omega (arith, ap value_of e, value_most (number_reads s at))

  pub plain_most : r ≡ plain_at s at → value_of r ≤ 2147483647
  plain_most e = omega (arith, ap value_of e, value_most (plain_reads s at))

-- ---- cells

-- what is read after a first byte inside the text
module _ {at to : ℕ} (h : at < to) where
  datum_reads : {r : Reading} → Reads (at + 1 + 1) to 0 4294967295 r → Reads (at + 1) to 0 9223372045444710400 (datum_of 8589934592 r)
  datum_reads (right v n f t l m) = right (8589934592 + v) n (omega arith) t zero-le (omega arith)
  datum_reads (wrong p x) = wrong p (omega arith)

  place_reads : {r : Reading} → Reads (at + 1 + 1) to 0 2147483647 r → Reads (at + 1) to 0 9223372045444710400 (place_of r)
  place_reads (right v n f t l m) = right ((v + 3) * 4294967296) n (omega arith) t zero-le (omega arith)
  place_reads (wrong p x) = wrong p (omega arith)

pub cell_reads : (s : List ℕ) (at : ℕ) → Reads (at + 1) (length s) 0 9223372045444710400 (cell_word s at)
unfolding cell_word
cell_reads s at =
    let P = Reads (at + 1) (length s) 0 9223372045444710400 in
    by_when P (eqb (byte_at s at) 105) _ _ (λ e. datum_reads (found s at 105 (omega arith) e) (number_reads s (at + 1))) (λ _.
    by_when P (eqb (byte_at s at) 98) _ _ (λ e. place_reads (found s at 98 (omega arith) e) (plain_reads s (at + 1))) (λ _.
    wrong at (omega arith)))

-- no more cells than bytes
cells_on_lem : (s : List ℕ) (rest : ℕ → ℕ → Reading) (n most : ℕ) → n < most → ((m : ℕ) → value_of (rest (n + 1) m) ≤ most) → (r : Reading) → value_of (cells_on s rest n r) ≤ most
cells_on_lem s rest n most h g (Err p) = zero-le
cells_on_lem s rest n most h g (Ok (w, m)) = by_when (λ (r : Reading). value_of r ≤ most) (eqb (byte_at s m) 32) _ _ (λ _. g (m + 1)) (λ _. omega arith)

cells_most : (s : List ℕ) (left n at most : ℕ) → n + left ≤ most → value_of (cells_from s left n at) ≤ most
unfolding cells_from
cells_most s zero n at most h = zero-le
cells_most s (suc left) n at most h = cells_on_lem s (cells_from s left) n most (omega arith) (λ m. cells_most s left (n + 1) m most (omega arith)) (cell_word s at)

spaced_most : (s : List ℕ) (go : ℕ → Reading) (most : ℕ) → ((n : ℕ) → value_of (go n) ≤ most) → (r : Reading) → value_of (spaced s go r) ≤ most
spaced_most s go most g (Err p) = zero-le
spaced_most s go most g (Ok (w, n)) = by_when (λ (r : Reading). value_of r ≤ most) (eqb (byte_at s n) 32) _ _ (λ _. g (n + 1)) (λ _. zero-le)

pub block_most : (s : List ℕ) (at : ℕ) → value_of (block_words s at) ≤ length s
unfolding block_words
block_most s at =
    let cells : ℕ → Reading = cells_from s (length s) 0 in
    spaced_most s (λ n. spaced s cells (number_at s n)) (length s) (λ n. spaced_most s cells (length s) (λ m. cells_most s (length s) 0 m (length s) (omega arith)) (number_at s n)) (plain_at s at)

-- ---- a line

pub key_reads : (s : List ℕ) (at : ℕ) → Reads (at + 1) (length s) 1 3 (store_key s at)
unfolding store_key
key_reads s at =
    or_reads s at (bytes "arg=") 3 (omega arith) (omega arith) (omega arith)
    (or_reads s at (bytes "block=") 2 (omega arith) (omega arith) (omega arith)
    (or_reads s at (bytes "run=") 1 (omega arith) (omega arith) (omega arith) (wrong at (omega arith))))

-- a budget, or a number of cells
pub words_most : (s : List ℕ) (key : StoreKey) (at : ℕ) → length s ≤ 16384 → key_number key < 3 → value_of (store_words s (key_number key) at) ≤ 4294967295
unfolding store_words
words_most s Run at h m = omega (arith, value_most (plain_reads s at))
words_most s Block at h m = omega (arith, block_most s at)
words_most s Arg at h m = absurd (omega arith)

-- ---- counts

pub few_more : {m n : ℕ} {c : StoreCount} → m ≤ n → Few m c → Few n c
few_more h f = record { few_blocks = f.few_blocks; few_cells = f.few_cells; few_args = omega (arith, f.few_args) }

pub no_store_few : Few 1 no_store
no_store_few = record { few_blocks = omega arith; few_cells = omega arith; few_args = omega arith }

abbrev pub FewLined : ℕ → StoreLine → Type 0
FewLined most (store_line a n c) = a ≡ 0 → Few most c

abbrev pub FewCounted : ℕ → Counted → Type 0
FewCounted most (counted_out a c) = a.number ≡ 0 → Few most c

limits_few : (most n : ℕ) (c : StoreCount) → c.args ≤ most → FewLined most (store_limits n c)
unfolding within
limits_few most n c h =
    by_when (FewLined most) (within c) _ _
    (λ e z. let w = and_both (leb c.blocks 256) (leb c.cells 2048) (and_both (leb c.budget 1000000) _ (subst T (sym e) tt)).1 in
    record { few_blocks = leb-true c.blocks 256 (held _ w.0); few_cells = leb-true c.cells 2048 (held _ w.1); few_args = h })
    (λ e z. absurd (omega arith))

module _ (s : List ℕ) (most : ℕ) (c : StoreCount) (h : c.args ≤ most) where
  args_more : (k v : ℕ) → (counted c k v).args ≤ most + 1
  unfolding counted
  args_more k v =
      by_when (λ (d : StoreCount). d.args ≤ most + 1) (eqb k 1) _ _ (λ _. zero-le) (λ _.
      by_when (λ (d : StoreCount). d.args ≤ most + 1) (eqb k 2) _ _ (λ _. zero-le) (λ _. omega arith))

  shaped_few : (k : ℕ) (r : Reading) → FewLined (most + 1) (store_shaped s c k r)
  shaped_few k (Err p) = λ z. absurd (omega arith)
  shaped_few k (Ok (v, n)) =
      by_when (FewLined (most + 1)) (eqb (byte_at s n) 10) _ _ (λ _. limits_few (most + 1) (n + 1) (counted c k v) (args_more k v)) (λ _ z. absurd (omega arith))

  keyed_few : (params start : ℕ) (r : Reading) → FewLined (most + 1) (store_keyed s params start c r)
  keyed_few params start (Err p) = λ z. absurd (omega arith)
  keyed_few params start (Ok (k, n)) =
      by_when (FewLined (most + 1)) (store_order params c k) _ _ (λ _. shaped_few k (store_words s k n)) (λ _ z. absurd (omega arith))

  pub line_few : (params at : ℕ) → FewLined (most + 1) (store_line_at s params at c)
  unfolding store_line_at
  line_few params at = keyed_few params at (store_key s at)

-- a line that is not refused
abbrev FewOn : ℕ → Result (ℕ × StoreCount) (ℕ × StoreCount) → Type 0
FewOn most (Ok (n, c)) = Few most c
FewOn most (Err (a, c)) = Unit

pub few_line : (s : List ℕ) (params at most : ℕ) (c : StoreCount) → Few most c → {r : Result (ℕ × StoreCount) (ℕ × StoreCount)} → r ≡ lined (store_line_at s params at c) → {n : ℕ} {d : StoreCount} → r ≡ Ok (n, d) → Few (most + 1) d
few_line s params at most c f e q = subst (FewOn (most + 1)) (sym e ∙ q) (by (store_line_at s params at c) (line_few s most c f.few_args params at))
  where
    by : (x : StoreLine) → FewLined (most + 1) x → FewOn (most + 1) (lined x)
    by (store_line a n d) h = by_when (FewOn (most + 1)) (eqb a 0) _ _ (λ e. h (eqb-true a 0 e)) (λ _. tt)

end_few : (params line most : ℕ) (c : StoreCount) → Few most c → FewCounted most (store_end params line c)
end_few params line most c f = by_when (FewCounted most) (eqb c.part 0 || ltb c.args params) _ _ (λ _ z. absurd (omega arith)) (λ _ _. f)

and_few : (rest : ℕ → StoreCount → Counted) (line n most : ℕ) → ((m : ℕ) (d : StoreCount) → Few n d → FewCounted most (rest m d)) → (x : StoreLine) → FewLined n x → FewCounted most (and_store rest line x)
and_few rest line n most g (store_line a m d) f =
    by_when (FewCounted most) (eqb a 0) _ _ (λ e. g m d (f (eqb-true a 0 e))) (λ e z. absurd (eqb-false a 0 e z))

counted_more : {m n : ℕ} → m ≤ n → (x : Counted) → FewCounted m x → FewCounted n x
counted_more h (counted_out a c) f = λ z. few_more h (f z)

lines_few : (s : List ℕ) (params left line at n : ℕ) (c : StoreCount) → Few n c → FewCounted (n + left) (store_lines s params left line at c)
unfolding store_lines
lines_few s params zero line at n c f = λ z. absurd (omega arith)
lines_few s params (suc left) line at n c f =
    by_when (FewCounted (n + suc left)) (ltb at (length s)) _ _
    (λ _. and_few (store_lines s params left (line + 1)) line (n + 1) (n + suc left) (λ m d g. counted_more {m = n + 1 + left} (omega arith) (store_lines s params left (line + 1) m d) (lines_few s params left (line + 1) m (n + 1) d g)) (store_line_at s params at c) (line_few s n c f.few_args params at))
    (λ _. end_few params line (n + suc left) c (few_more (omega arith) f))

-- a text that is not refused
pub tally_few : (params : ℕ) (s : List ℕ) → FewCounted 291 (tallied params s)
unfolding tallied
tally_few params s =
    by_when (FewCounted 291) (ltb 16384 (length s)) _ _ (λ _ z. absurd (omega arith)) (λ _. lines_few s params 290 1 0 1 no_store no_store_few)

-- such a text is not too long
abbrev pub Short : List ℕ → Counted → Type 0
Short s (counted_out a c) = a.number ≡ 0 → length s ≤ 16384

always_short : (s : List ℕ) → length s ≤ 16384 → (x : Counted) → Short s x
always_short s h (counted_out a c) = λ z. h

pub tally_short : (params : ℕ) (s : List ℕ) → Short s (tallied params s)
unfolding tallied
tally_short params s =
    by_when (Short s) (ltb 16384 (length s)) _ _ (λ _ z. absurd (omega arith)) (λ e. always_short s (ltb-false 16384 (length s) e) (store_lines s params 290 1 0 no_store))
