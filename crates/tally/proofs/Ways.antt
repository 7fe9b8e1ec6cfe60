-- The cells and lines of a store text: one law for each way that a loop goes. Assumes nothing.
use native.Mathlib.Omega.{arith}
use borrow.Author.Tests.{lt-ltb, le-ltb, eq-eqb, ne_eqb}
use Rattle.std.specs.Prelude.{◌+◌, ◌-◌, ◌<◌, ◌≤◌, ◌≡◌, Result, Ok, Err}
use Rattle.rules.specs.Prelude.{ℕ, suc, Bool, true, false, List, eqb, refl, sym, ap, ◌∙◌, length}
use Rattle.rules.specs.Text.Words.{Reading}
use Rattle.rules.specs.declared.StoreCount.{StoreCount}
use Rattle.rules.specs.Answers.{answer}
use Rattle.rules.specs.Text.Words.{byte_at}
use Rattle.rules.specs.Store.Text.{cell_word, cells_on, cells_from, StoreLine, store_line, store_line_at, Counted, store_end, and_store, store_lines}
use Rattle.tally.specs.declared.Tally.{Tally}
use Rattle.tally.specs.Counts.{lined, passed}

-- ---- cells: a turn reads the cell r, and n of at most `most` were counted before it

pub no_cells : (s : List ℕ) (n at most : ℕ) → most ≤ n → cells_from s (most - n) n at ≡ Err at
unfolding cells_from
no_cells s n at most h = let e : most - n ≡ 0 = omega arith in rw e

module _ (s : List ℕ) (n at most : ℕ) (p : n < most) {r : Reading} (e : r ≡ cell_word s at) where
  turn : cells_from s (most - n) n at ≡ cells_on s (cells_from s (most - (n + 1))) n r
  unfolding cells_from
  turn = let f : most - n ≡ suc (most - (n + 1)) = omega arith in rw (f, e)

  pub cells_not : {q : ℕ} → r ≡ Err q → Err q ≡ cells_from s (most - n) n at
  cells_not f = sym (turn ∙ rw f)

  module _ {w m : ℕ} (f : r ≡ Ok (w, m)) {b : ℕ} (g : b ≡ byte_at s m) where
    pub cells_end : (b ≡ 32 → ⊥) → cells_from s (most - n) n at ≡ Ok (n + 1, m)
    cells_end k = turn ∙ rw (f, ← g, ne_eqb b 32)

    pub cells_go : b ≡ 32 → cells_from s (most - n) n at ≡ cells_from s (most - (n + 1)) (n + 1) (m + 1)
    cells_go k = turn ∙ rw (f, ← g, eq-eqb b 32)

-- ---- the text, whole

-- a line as the code hands it on, and the lines after it
abbrev on_line : (ℕ → StoreCount → Counted) → ℕ → Result (ℕ × StoreCount) (ℕ × StoreCount) → Result StoreCount Tally
on_line rest line (Ok (n, c)) = passed (rest n c)
on_line rest line (Err (a, c)) = Err (record { answer = answer a line; count = c })

line_on : (rest : ℕ → StoreCount → Counted) (line : ℕ) (x : StoreLine) → passed (and_store rest line x) ≡ on_line rest line (lined x)
line_on rest line (store_line a n c) = by (eqb a 0) refl
  where
    by : (t : Bool) → eqb a 0 ≡ t → passed (and_store rest line (store_line a n c)) ≡ on_line rest line (lined (store_line a n c))
    by true q = rw q
    by false q = rw (q, q)

module _ (s : List ℕ) (params line at : ℕ) (c : StoreCount) where
  pub lines_over : (most : ℕ) → most ≤ line → passed (store_lines s params (most - line) line at c) ≡ Err (record { answer = answer 23 line; count = c })
  unfolding store_lines
  lines_over most h = let e : most - line ≡ 0 = omega arith in rw e

  module _ (most : ℕ) (p : line < most) where
    pub lines_end : length s ≤ at → store_lines s params (most - line) line at c ≡ store_end params line c
    unfolding store_lines
    lines_end h = let e : most - line ≡ suc (most - (line + 1)) = omega arith in rw (e, le-ltb at (length s))

    module _ (h : at < length s) where
      line_then : store_lines s params (most - line) line at c ≡ and_store (store_lines s params (most - (line + 1)) (line + 1)) line (store_line_at s params at c)
      unfolding store_lines
      line_then = let e : most - line ≡ suc (most - (line + 1)) = omega arith in rw (e, lt-ltb at (length s))

      module _ {r : Result (ℕ × StoreCount) (ℕ × StoreCount)} (e : r ≡ lined (store_line_at s params at c)) where
        then_on : passed (store_lines s params (most - line) line at c) ≡ on_line (store_lines s params (most - (line + 1)) (line + 1)) line r
        then_on = ap passed line_then ∙ line_on (store_lines s params (most - (line + 1)) (line + 1)) line (store_line_at s params at c) ∙ rw (sym e)

        pub line_goes : {n : ℕ} {d : StoreCount} → r ≡ Ok (n, d) → passed (store_lines s params (most - line) line at c) ≡ passed (store_lines s params (most - (line + 1)) (line + 1) n d)
        line_goes q = then_on ∙ rw q

        pub line_stops : {a : ℕ} {d : StoreCount} → r ≡ Err (a, d) → Err (record { answer = answer a line; count = d }) ≡ passed (store_lines s params (most - line) line at c)
        line_stops q = sym (then_on ∙ rw q)
