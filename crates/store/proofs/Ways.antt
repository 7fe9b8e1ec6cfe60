-- A store text of a right shape, read for its names and into the tables: one law for each way that the code goes, and where in the text it is. Assumes nothing.
use native.Mathlib.Omega.{arith}
use lib.ListN.{drop_of_length-le, length-drop}
use borrow.Author.Tests.{ltb-false, eqb-true}
use Rattle.std.specs.Prelude.{◌+◌, ◌-◌, ◌*◌, ◌<◌, ◌≤◌, ◌∷◌, ◌≡◌, ◌==◌, cond, nat_lt, not, position, Option, None, Some, Result, Ok, Err}
use Rattle.std.specs.List.{position_or_len}
use Rattle.std.proofs.lemmas.List.{take_all}
use Rattle.std.proofs.lemmas.List.Sums.{prefix_len-le-length}
use Rattle.std.proofs.lemmas.Bool.Decides.{nat_tests}
use Rattle.std.proofs.lemmas.Option.{cond_some}
use Rattle.rules.specs.Prelude.{ℕ, suc, max, Bool, true, false, List, [], refl, sym, ap, subst, ◌∙◌, ltb, eqb, length, get_or, set, take, drop}
use Rattle.rules.specs.declared.Answer.{Answer}
use Rattle.rules.specs.Text.Words.{Reading}
use Rattle.rules.specs.declared.StoreCount.{StoreCount}
use Rattle.rules.proofs.Laws.Tests.{by_when}
use Rattle.rules.specs.When.{One, when}
use Rattle.rules.specs.Answers.{answer, accepted, and_then, passes, outcome, first}
use Rattle.rules.specs.Text.Words.{value_of, next_of, plain_at, number_at}
use Rattle.rules.specs.Environments.{no_var}
use Rattle.rules.specs.Program.{Rows, Var, Prog}
use Rattle.rules.specs.Machine.Tables.{block_width}
use Rattle.rules.specs.Store.Text.{Counted, counted_out, cell_word, arg_word}
use Rattle.rules.specs.declared.StoreTables.{StoreTables}
use Rattle.rules.specs.Store.Fill.{line_after, next_line, row_of, tag_word, cells_start, cell_count, datum_there, cells_there, block_there, arg_names, block_names, store_names, no_store_tables, kept_cells, put_head, fill_cells, fill_vals, fill_blocks, fill_store}
use Rattle.rules.specs.Store.{StoreOut, kept_store, judged, params_of, read_store, store_fits}
use Rattle.text.proofs.Laws.{value_most, next_most, plain_reads, number_reads}
use Rattle.table.proofs.Passes.{left_more, left_none}
use Rattle.storage.specs.Heads.{head_put}
use Rattle.storage.proofs.Laws.{head_put_lem}
use Rattle.tally.specs.declared.Tally.{Tally}
use Rattle.tally.specs.Counts.{Few, passed, tallied}
use Rattle.tally.proofs.Laws.{cell_reads, block_most, FewCounted, tally_few, Short, tally_short}
use Rattle.store.specs.declared.BlockLine.{BlockLine}
use Rattle.store.specs.declared.Taken.{Taken}
use Rattle.store.specs.Lines.{Inside, Near, block_line, taken}
use Rattle.store.specs.Says.{tables_are, Filled}

-- ---- the next line

abbrev is_feed : ℕ → Bool
is_feed b = b == 10

-- how many bytes to the first one and with it, or all
abbrev up_to_feed : List ℕ → ℕ
up_to_feed l = cond (nat_lt (position_or_len is_feed l) (length l)) (position_or_len is_feed l + 1) (position_or_len is_feed l)

line_at : (l : List ℕ) (i : ℕ) → line_after l i ≡ i + up_to_feed l
unfolding line_after
line_at [] i = omega arith
line_at (b ∷ l) i = by (line_at l (i + 1)) (is_feed b) refl
  where
    by : line_after l (i + 1) ≡ i + 1 + up_to_feed l → (t : Bool) → is_feed b ≡ t → line_after (b ∷ l) i ≡ i + up_to_feed (b ∷ l)
    by h true e = rw e (grind (arith, nat_tests))
    by h false e = rw e (grind (arith, nat_tests))

module _ (s : List ℕ) (at : ℕ) where
  pub line_past : length s ≤ at → at ≡ line_after (drop at s) at
  unfolding line_after
  line_past h = rw (drop_of_length-le s {i = at} h)

  -- the rest of the text, as the code takes it
  module _ {o : Option ℕ} (f : o ≡ position is_feed (take (length s - at) (drop at s))) where
    whole : o ≡ position is_feed (drop at s)
    whole = f ∙ ap (position is_feed) (take_all (length s - at) (drop at s) (omega (arith, length-drop at s)))

    pub line_found : {k : ℕ} → o ≡ Some k → at + k + 1 ≡ line_after (drop at s) at
    line_found {k} q = let c = cond_some _ _ _ (sym whole ∙ q) in rw (line_at (drop at s) at, c.0) (omega (arith, c.1))

    pub line_none : at < length s → o ≡ None → length s ≡ line_after (drop at s) at
    line_none h q = rw (line_at (drop at s) at) (by (nat_lt (position_or_len is_feed (drop at s)) (length (drop at s))) refl)
      where
        by : (t : Bool) → nat_lt (position_or_len is_feed (drop at s)) (length (drop at s)) ≡ t → length s ≡ at + up_to_feed (drop at s)
        by true y = let z = rw y at (sym whole ∙ q) in absurd (cc z)
        by false y = rw y (omega (arith, ltb-false _ _ y, prefix_len-le-length (λ (b : ℕ). not (is_feed b)) (drop at s), length-drop at s))

after_most : (l : List ℕ) (i : ℕ) → line_after l i ≤ i + length l
unfolding line_after
after_most [] i = omega arith
after_most (b ∷ l) i = by_when (λ (n : ℕ). n ≤ i + suc (length l)) (eqb b 10) _ _ (λ _. omega arith) (λ _. omega (arith, after_most l (i + 1)))

pub next_near : {s : List ℕ} {at n : ℕ} → Inside s at → n ≡ next_line s at → Inside s n
unfolding next_line
next_near {s} {at} h e = record { near = omega (arith, e, after_most (drop at s) at, length-drop at s, h.near); short = h.short }

-- the first line stands inside every text
pub start_near : (s : List ℕ) → length s ≤ 16384 → Inside s 0
start_near s h = record { near = omega arith; short = h }

-- ---- words: how large, and where the next begins

module _ (s : List ℕ) (at : ℕ) where
  pub row_word : {r : Reading} → r ≡ plain_at s at → (value_of r ≤ 2147483647) × (next_of r ≤ max at (length s))
  row_word e = (omega (arith, value_most (plain_reads s at), ap value_of e), omega (arith, next_most (plain_reads s at), ap next_of e))

  pub tag_word_lem : {r : Reading} → r ≡ number_at s at → (value_of r ≤ 4294967295) × (next_of r ≤ max at (length s))
  tag_word_lem e = (omega (arith, value_most (number_reads s at), ap value_of e), omega (arith, next_most (number_reads s at), ap next_of e))

  pub cell_next : {r : Reading} → r ≡ cell_word s at → next_of r ≤ max at (length s)
  cell_next e = omega (arith, next_most (cell_reads s at), ap next_of e)

  pub line_row : row_of s at ≤ 2147483647
  line_row = (row_word refl).0

  pub line_count : cell_count s at ≤ length s
  line_count = block_most s at

  pub line_start : Near 32768 s at → Near 65536 s (cells_start s at)
  line_start h = record { near = omega (arith, plain.1, number.1, h.near, h.short); short = h.short }
    where
      plain : (value_of (plain_at s at) ≤ 2147483647) × (next_of (plain_at s at) ≤ max at (length s))
      plain = row_word refl

      number : (value_of (tag_word s at) ≤ 4294967295) × (next_of (tag_word s at) ≤ max (next_of (plain_at s at) + 1) (length s))
      number = (omega (arith, value_most (number_reads s (next_of (plain_at s at) + 1))), omega (arith, next_most (number_reads s (next_of (plain_at s at) + 1))))

-- ---- 24

-- each turn: k of n were looked at before it
module _ (s : List ℕ) (blocks at k n : ℕ) where
  pub cells_done : n ≤ k → cells_there s blocks (n - k) at ≡ true
  unfolding cells_there
  cells_done h = let e : n - k ≡ 0 = omega arith in rw e

  module _ (p : k < n) {r : Reading} (q : r ≡ cell_word s at) {w : ℕ} (x : w ≡ value_of r) {t : Bool} (d : t ≡ datum_there blocks w) where
    pub cells_not : t ≡ false → cells_there s blocks (n - k) at ≡ false
    unfolding cells_there
    cells_not e = let g : n - k ≡ suc (n - (k + 1)) = omega arith in rw (g, ← q, ← x, ← d, e)

    pub cells_go : t ≡ true → {m : ℕ} → m ≡ next_of r → cells_there s blocks (n - k) at ≡ cells_there s blocks (n - (k + 1)) (m + 1)
    unfolding cells_there
    cells_go e f = let g : n - k ≡ suc (n - (k + 1)) = omega arith in rw (g, ← q, ← x, ← d, e, f)

-- each turn: a line, and the one after the last
module _ (s : List ℕ) (blocks at line end : ℕ) where
  pub args_done : end ≤ line → first line (arg_names s blocks (end - line) at) ≡ accepted
  unfolding arg_names first
  args_done h = let e : end - line ≡ 0 = omega arith in rw e

  module _ (p : line < end) {r : Reading} (q : r ≡ arg_word s (at + 4)) {w : ℕ} (x : w ≡ value_of r) {t : Bool} (d : t ≡ datum_there blocks w) where
    pub args_not : t ≡ false → first line (arg_names s blocks (end - line) at) ≡ answer 24 line
    unfolding arg_names first
    args_not e = let g : end - line ≡ suc (end - (line + 1)) = omega arith in rw (g, ← q, ← x, ← d, e)

    pub args_go : t ≡ true → {n : ℕ} → n ≡ next_line s at → first line (arg_names s blocks (end - line) at) ≡ first (line + 1) (arg_names s blocks (end - (line + 1)) n)
    unfolding arg_names first
    args_go e f = let g : end - line ≡ suc (end - (line + 1)) = omega arith in rw (g, ← q, ← x, ← d, e, ← f)

module _ (s : List ℕ) (ρ : Rows) (blocks args at line end : ℕ) where
  pub blocks_done : end ≤ line → block_names s ρ blocks args (end - line) at ≡ arg_names s blocks args at
  unfolding block_names
  blocks_done h = let e : end - line ≡ 0 = omega arith in rw e

  module _ (p : line < end) {t : Bool} (d : t ≡ block_there s ρ blocks (at + 6)) where
    pub blocks_not : t ≡ false → first line (block_names s ρ blocks args (end - line) at) ≡ answer 24 line
    unfolding block_names first
    blocks_not e = let g : end - line ≡ suc (end - (line + 1)) = omega arith in rw (g, ← d, e)

    pub blocks_go : t ≡ true → {n : ℕ} → n ≡ next_line s at → first line (block_names s ρ blocks args (end - line) at) ≡ first (line + 1) (block_names s ρ blocks args (end - (line + 1)) n)
    unfolding block_names first
    blocks_go e f = let g : end - line ≡ suc (end - (line + 1)) = omega arith in rw (g, ← d, e, ← f)

-- ---- filling

pub kept_most : (n : ℕ) → kept_cells n ≤ 17
unfolding kept_cells
kept_most n = by_when (λ (m : ℕ). m ≤ 17) (ltb block_width n) _ _ (λ _. omega arith) (λ e. omega (arith, ltb-false 17 n e))

module _ (s : List ℕ) (k o n at : ℕ) (C : List ℕ) where
  pub no_fill : n ≤ o → fill_cells s k (n - o) o at C ≡ C
  unfolding fill_cells
  no_fill h = let e : n - o ≡ 0 = omega arith in rw e

  pub one_fill : o < n → {r : Reading} → r ≡ cell_word s at → {w m : ℕ} → w ≡ value_of r → m ≡ next_of r → {E : List ℕ} → E ≡ set C (k * block_width + o) w
      → fill_cells s k (n - o) o at C ≡ fill_cells s k (n - (o + 1)) (o + 1) (m + 1) E
  unfolding fill_cells
  one_fill p q x y z = let g : n - o ≡ suc (n - (o + 1)) = omega arith in rw (g, z, x, y, q)

-- a block line's head and cells, by the numbers that were read
module _ (s : List ℕ) (k at : ℕ) {b : BlockLine} (e : b ≡ block_line s at) {n : ℕ} (f : n ≡ kept_cells b.count) where
  pub head_is : (H : List ℕ) → head_put H k (b.row + 1) b.tag n ≡ put_head H k (row_of s at) (value_of (tag_word s at)) (kept_cells (cell_count s at))
  head_is H = rw (f, e) (sym (head_put_lem H k (row_of s at) (value_of (tag_word s at)) (kept_cells (cell_count s at))))

  pub cells_are : (C : List ℕ) → fill_cells s k n 0 b.start C ≡ fill_cells s k (kept_cells (cell_count s at)) 0 (cells_start s at) C
  cells_are C = rw (f, e)

module _ (s : List ℕ) (D : List Var) (c : StoreCount) (k n at : ℕ) (H C : List ℕ) where
  pub blocks_over : n ≤ k → k ≤ n → fill_blocks s D c 0 n at H C ≡ fill_blocks s D c (n - k) k at H C
  blocks_over h g =
      let e : n - k ≡ 0 = omega arith in
      let f : n ≡ k = omega arith in
      rw e (rw f)

  pub one_block : k < n → {G E : List ℕ} {m : ℕ}
      → G ≡ put_head H k (row_of s (at + 6)) (value_of (tag_word s (at + 6))) (kept_cells (cell_count s (at + 6)))
      → E ≡ fill_cells s k (kept_cells (cell_count s (at + 6))) 0 (cells_start s (at + 6)) C → m ≡ next_line s at
      → fill_blocks s D c (n - k) k at H C ≡ fill_blocks s D c (n - (k + 1)) (k + 1) m G E
  unfolding fill_blocks
  one_block p g e f = let x : n - k ≡ suc (n - (k + 1)) = omega arith in rw (x, g, e, f)

-- n variables, of which those from v on are left
module _ (l : List Var) (v n : ℕ) (en : n ≡ length l) where
  pub vals_done : (s : List ℕ) (at : ℕ) (W : List ℕ) → n ≤ v → fill_vals s (drop v l) v at W ≡ W
  unfolding fill_vals
  vals_done s at W h = rw (left_none l v n en h)

  pub vals_one : (s : List ℕ) (at : ℕ) (W : List ℕ) → v < n → {t : Taken} → t ≡ taken s (get_or l v no_var) at → {E : List ℕ} → E ≡ set W v t.code
      → fill_vals s (drop v l) v at W ≡ fill_vals s (drop (v + 1) l) (v + 1) t.next E
  unfolding fill_vals
  vals_one s at W h e f = rw (left_more l v n en no_var h, f, e) (by (get_or l v no_var) (get_or l v no_var).is_local refl)
    where
      by : (d : Var) (t : Bool) → d.is_local ≡ t → fill_vals s (d ∷ drop (v + 1) l) v at W ≡ fill_vals s (drop (v + 1) l) (v + 1) (taken s d at).next (set W v (taken s d at).code)
      by d true q = rw q
      by d false q = rw q

  pub params_done : n ≤ v → params_of (drop v l) ≡ 0
  unfolding params_of
  params_done h = rw (left_none l v n en h)

  module _ (h : v < n) {t : Bool} (e : t ≡ (get_or l v no_var).is_local) where
    pub params_local : t ≡ true → params_of (drop v l) ≡ params_of (drop (v + 1) l)
    unfolding params_of
    params_local q = rw (left_more l v n en no_var h, ← e, q)

    pub params_one : t ≡ false → params_of (drop v l) ≡ suc (params_of (drop (v + 1) l))
    unfolding params_of
    params_one q = rw (left_more l v n en no_var h, ← e, q)

pub next_taken : {s : List ℕ} (d : Var) {at : ℕ} {t : Taken} → Inside s at → t ≡ taken s d at → Inside s t.next
next_taken {s} d {at} h e = rw e (by d.is_local refl)
  where
    by : (b : Bool) → d.is_local ≡ b → Inside s (taken s d at).next
    by true q = rw q h
    by false q = rw q (next_near h refl)

-- the four tables, cleared before they were filled
module _ (s : List ℕ) (D : List Var) (c : StoreCount) (after : ℕ) {Z H C W : List ℕ} {T : StoreTables} {at : ℕ} where
  pub fill_is : Z ≡ c.budget ∷ c.blocks ∷ [] → at ≡ next_line s 0 → T ≡ no_store_tables
      → fill_blocks s D c 0 c.blocks after H C ≡ fill_blocks s D c c.blocks 0 at T.heads T.cells → W ≡ fill_vals s D 0 after T.vals
      → tables_are Z H C W ≡ fill_store s D c
  unfolding fill_store fill_blocks
  fill_is ez ea et eb ew =
      (λ i. tables_are (ez i) H C ((ew ∙ ap (λ (t : StoreTables). fill_vals s D 0 after t.vals) et) i))
      ∙ eb
      ∙ (λ i. fill_blocks s D c c.blocks 0 (ea i) (et i).heads (et i).cells)

-- ---- the text, whole

-- too long, it is refused by its counts too
read_is : (P : Prog) (s : List ℕ) → read_store P s ≡ judged P s (tallied (params_of P.vars) s)
unfolding read_store tallied
read_is P s = by (ltb 16384 (length s)) refl
  where
    by : (t : Bool) → ltb 16384 (length s) ≡ t → read_store P s ≡ judged P s (tallied (params_of P.vars) s)
    by true q = rw q
    by false q = rw q

-- a store by its answer and its tables, kept or not
module _ (a : Answer) (o : StoreTables) where
  kept_err : {b : Answer} {t : StoreTables} → Err b ≡ outcome a → Filled (kept_store a o) (Err b) t
  kept_err {b} {t} e = record { answer = e; tables = by (passes a) refl }
    where
      by : (p : Bool) → passes a ≡ p → no_store_tables ≡ when (passes a) (λ _. o) (λ _. no_store_tables)
      by true q = let z = rw q at e in absurd (cc z)
      by false q = rw q

  kept_as : {r : Result Unit Answer} → r ≡ outcome a → Filled (kept_store a o) r o
  kept_as e = subst (λ (r : Result Unit Answer). Filled (kept_store a o) r o) (sym e) (by (passes a) refl)
    where
      by : (p : Bool) → passes a ≡ p → Filled (kept_store a o) (outcome a) o
      by true q = record { answer = refl; tables = rw q }
      by false q = record { answer = refl; tables = rw q }

-- a stage that refuses, or not, before the later ones
module _ (a : Answer) (later : One → Answer) {r : Result Unit Answer} (e : r ≡ outcome a) where
  stage_err : {b : Answer} → r ≡ Err b → Err b ≡ outcome (and_then a later)
  stage_err {b} f = by (passes a) refl
    where
      by : (p : Bool) → passes a ≡ p → Err b ≡ outcome (and_then a later)
      by true q = let z = rw q at e in absurd (cc z)
      by false q = rw q (sym f ∙ e)

  stage_ok : {u : Unit {0}} → r ≡ Ok u → and_then a later ≡ later tt
  stage_ok f = by (passes a) refl
    where
      by : (p : Bool) → passes a ≡ p → and_then a later ≡ later tt
      by true q = rw q
      by false q = let z = rw q at e in absurd (cc z)

-- a text of which nothing was refused yet
abbrev going : Prog → List ℕ → StoreCount → StoreOut
going P s c = kept_store (and_then (store_names s P.rows c) (λ _. store_fits P (fill_store s P.vars c))) (fill_store s P.vars c)

-- the answer of a text that its counts refuse
abbrev pub answered : Result StoreCount Tally → Result StoreCount Answer
answered (Ok c) = Ok c
answered (Err t) = Err t.answer

-- by its counts
abbrev Counts : Prog → List ℕ → StoreOut → Result StoreCount Tally → Type 0
Counts P s o (Ok c) = o ≡ going P s c
Counts P s o (Err t) = (T : StoreTables) → Filled o (Err t.answer) T

counts : (P : Prog) (s : List ℕ) (x : Counted) → Counts P s (judged P s x) (passed x)
counts P s (counted_out a c) = by (passes a) refl
  where
    later : One → Answer
    later _ = and_then (store_names s P.rows c) (λ _. store_fits P (fill_store s P.vars c))

    by : (p : Bool) → passes a ≡ p → Counts P s (judged P s (counted_out a c)) (passed (counted_out a c))
    by true q =
        let z : Ok c ≡ passed (counted_out a c) = rw q in
        let y : judged P s (counted_out a c) ≡ going P s c = rw q in
        subst (Counts P s (judged P s (counted_out a c))) z y
    by false q =
        let z : Err (record { answer = a; count = c }) ≡ passed (counted_out a c) = rw q in
        let y : outcome a ≡ Err a = rw q in
        subst (Counts P s (judged P s (counted_out a c))) z (λ T. kept_err (and_then a later) (fill_store s P.vars c) (stage_err a later {r = outcome a} refl y))

module _ (P : Prog) (s : List ℕ) {params : ℕ} (ep : params ≡ params_of P.vars) {r : Result StoreCount Tally} (er : r ≡ passed (tallied params s)) where
  by_count : Counts P s (read_store P s) r
  by_count = rw (er, ep, read_is P s) (counts P s (tallied (params_of P.vars) s))

  pub by_counts : {m : Result StoreCount Answer} → m ≡ answered r → {a : Answer} → m ≡ Err a → {T : StoreTables} → Filled (read_store P s) (Err a) T
  by_counts {m} x {a} y {T} = by r by_count (sym x ∙ y)
    where
      by : (r : Result StoreCount Tally) → Counts P s (read_store P s) r → answered r ≡ Err a → Filled (read_store P s) (Err a) T
      by (Ok c) h z = absurd (cc z)
      by (Err t) h z = let e : t.answer ≡ a = cc z in subst (λ (x : Answer). Filled (read_store P s) (Err x) T) e (h T)

  module _ {c : StoreCount} (ec : r ≡ Ok c) {n : Result Unit Answer} (en : n ≡ outcome (store_names s P.rows c)) where
    by_going : read_store P s ≡ going P s c
    by_going = subst (Counts P s (read_store P s)) ec by_count

    pub by_names : {a : Answer} → n ≡ Err a → {T : StoreTables} → Filled (read_store P s) (Err a) T
    by_names e = rw by_going (kept_err (and_then (store_names s P.rows c) _) (fill_store s P.vars c) (stage_err (store_names s P.rows c) (λ _. store_fits P (fill_store s P.vars c)) en e))

    pub by_fits : {u : Unit {0}} → n ≡ Ok u → {T : StoreTables} → T ≡ fill_store s P.vars c → {q : Result Unit Answer} → q ≡ outcome (store_fits P T) → Filled (read_store P s) q T
    by_fits e f g = rw (by_going, f, stage_ok (store_names s P.rows c) (λ _. store_fits P (fill_store s P.vars c)) en e) (kept_as (store_fits P (fill_store s P.vars c)) (fill_store s P.vars c) (g ∙ rw f))

-- what the counts of a text that was not refused allow
abbrev Allows : List ℕ → Result StoreCount Tally → Type 0
Allows s (Ok c) = Few 291 c × (length s ≤ 16384)
Allows s (Err t) = Unit

module _ (params : ℕ) (s : List ℕ) {r : Result StoreCount Tally} (e : r ≡ passed (tallied params s)) where
  allows : Allows s r
  allows = rw e (by (tallied params s) (tally_few params s) (tally_short params s))
    where
      by : (x : Counted) → FewCounted 291 x → Short s x → Allows s (passed x)
      by (counted_out a c) f h = by_when (Allows s) (passes a) _ _ (λ q. let z = eqb-true a.number 0 q in (f z, h z)) (λ _. tt)

  pub counts_few : {c : StoreCount} → r ≡ Ok c → Few 291 c
  counts_few q = (subst (Allows s) q allows).0

  pub text_short : {c : StoreCount} → r ≡ Ok c → length s ≤ 16384
  text_short q = (subst (Allows s) q allows).1
