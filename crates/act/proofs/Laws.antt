-- The two expressions of a `put`, and a body line by its kind. Assumes nothing.
use Rattle.rules.specs.declared.Way.{Way}
use native.Mathlib.Omega.{arith as lin}
use mathlib.Core.Path.{◌≡◌, sym, ap, ◌∙◌}
use mathlib.Core.Bool.{false}
use mathlib.Core.List.{List}
use Prim.Native.Nat.{ℕ, ◌<◌, ◌≤◌}
use lib.ListN.{length, get_or-eq_default}
use Rattle.rules.specs.declared.Num.{Num}
use Rattle.rules.specs.Machine.{Given}
use Rattle.rules.specs.declared.Act.{Act}
use Rattle.rules.specs.declared.Act.TheVariants.{Stuck}
use Rattle.rules.specs.Numbers.{num_code}
use Rattle.rules.specs.Program.{Prog, Rows, Stmt, bad_s}
use Rattle.rules.specs.View.{tree_of, tree_at, way_of, stmt_of, stmt_from, rows_from, vars_from, body_from, program}
use Rattle.rules.specs.Machine.{Store, eval, jump_on, act_put, act, decide}
use Rattle.rules.specs.Machine.Tables.{store_of, vals_of}
use Rattle.eval.specs.declared.Gave.{Gave}
use Rattle.eval.specs.Walk.{gave_at}
use Rattle.eval.proofs.Laws.{after_of_lem, tree_of_lem}
use Rattle.program.specs.declared.Stored.{Stored}
use Rattle.program.specs.Lines.{stored_at, tables_of}
use Rattle.program.specs.Nodes.{after_of}
use Rattle.program.proofs.Laws.{line_view, line_in_lem}
use Rattle.program.proofs.Walk.{with_two_lem}

-- ---- the expressions of a `put`

-- the second begins at the node after the first
module _ (ρ : Rows) (σ : Store) (δ : List Given) (N : List ℕ) where
  abbrev from : ℕ → Given
  from k = eval ρ σ δ (tree_of (tree_at N 16 k))

  pub put_both : (m : Num) (k : ℕ) (g : Gave) (y : Given) → g ≡ gave_at ρ σ δ N 16 k → y ≡ from g.next → act_put σ m g.given y ≡ act_put σ m (from k) (from (after_of (tree_at N 16 k)))
  put_both m k g y e q = rw (q, after_of_lem ρ σ δ N 16 k g e, tree_of_lem ρ σ δ N 16 k g e)

-- ---- the line by its kind

module _ (Z N R D L B : List ℕ) (S H C W : List ℕ) where
  abbrev pub P : Prog
  P = program (tables_of Z N R D L B)

  abbrev pub σ : Store
  σ = store_of S H C

  abbrev pub δ : List Given
  δ = vals_of (length (vars_from Z D)) W

  abbrev pub given_at : ℕ → Given
  given_at k = eval (rows_from Z R) σ δ (tree_of (tree_at N 16 k))

  module _ (i : ℕ) (s : Stored) (e : s ≡ stored_at B i) where
    abbrev line : Act
    line = act P σ δ (stmt_from N B i)

    pub by_way : (w : Way) → w ≡ way_of s.kind → line ≡ act P σ δ (stmt_of N w s.label s.variable s.word s.node)
    by_way w q = rw (line_view N B i, sym e, sym q)

    by_kind : (n : ℕ) → s.kind ≡ n → line ≡ act P σ δ (stmt_of N (way_of n) s.label s.variable s.word s.node)
    by_kind n q = by_way (way_of n) (sym (ap way_of q))

    pub put_line_lem : s.kind ≡ 2 → line ≡ act_put σ (num_code s.word) (given_at s.node) (given_at (after_of (tree_at N 16 s.node)))
    unfolding stmt_of way_of act program
    put_line_lem q = by_kind 2 q ∙ rw (with_two_lem N (λ x y. Stmt.put_s x (num_code s.word) y) (tree_at N 16 s.node))

    pub label_line_lem : s.kind ≡ 9 → line ≡ jump_on P s.label false
    unfolding stmt_of way_of act
    label_line_lem q = by_kind 9 q

  -- a place of the body, and one past its lines
  pub line_there : (i n : ℕ) → n ≡ length (body_from Z N B) → i < n → decide P σ δ i ≡ act P σ δ (stmt_from N B i)
  unfolding decide program
  line_there i n e h = rw (line_in_lem Z N B i (omega (lin, e, h)))

  pub line_past : (i n : ℕ) → n ≡ length (body_from Z N B) → n ≤ i → decide P σ δ i ≡ Stuck
  unfolding decide program act
  line_past i n e h = let g : length (body_from Z N B) ≤ i = omega (lin, e, h) in rw (get_or-eq_default (body_from Z N B) bad_s g)
