-- A cell outside its block, a place that is moved as a place among the cells of its block, and what an expression gives from what its operands give. Assumes nothing.
use Rattle.std.specs.Prelude.{Some, None, Option}
use Rattle.rules.specs.declared.Form.{Form}
use Rattle.rules.specs.declared.Form.TheVariants as M
use native.Mathlib.Omega.{arith as lin}
use native.Mathlib.Decide.{dec_lt}
use borrow.Author.Tests.{lt-ltb, ltb-true}
use mathlib.Core.Path.{◌≡◌, refl, sym, ap, ap₂, ◌∙◌}
use mathlib.Core.Bool.{Bool, true, false, ◌&&◌}
use mathlib.Core.List.{List}
use Prim.Native.Nat.{ℕ, ◌<◌, ◌≤◌}
use lib.Dec.{ltb}
use lib.IntN.{ℤ, pos, negsuc}
use lib.ListN.{length}
use Rattle.rules.specs.declared.Num.{Num}
use Rattle.rules.specs.declared.Datum.TheVariants.{Int, Imm, Place}
use Rattle.rules.specs.Machine.{Given}
use Rattle.rules.specs.When.{need}
use Rattle.rules.specs.View.{tree_of, tree_at}
use Rattle.rules.specs.Program.{Rows}
use Rattle.rules.specs.Machine.{Store, cells_in, inside, cell_at, need_int, ev_arith, ev_val, ev_int, ev_fetch, moved, ev_step, eval}
use Rattle.number.specs.Places.{index_in, index_at, index_out}
use Rattle.storage.proofs.Laws.{cell_out, block_with}
use Rattle.program.specs.Nodes.{after_of}
use Rattle.program.proofs.Walk.{Folds}
use Rattle.eval.specs.declared.Gave.{Gave}
use Rattle.eval.specs.Walk.{form, gave_at}

-- ---- cells and places

need_same : {A : Type 0} (a : A) (t : Bool) → need a t a ≡ a
need_same a true = refl
need_same a false = refl

never : (t : Bool) (g : Given) → need None (t && false) g ≡ None
never true g = refl
never false g = refl

-- outside its block a cell holds nothing
fetch_by : (s : Store) (b o : ℕ) → Dec (o < cells_in s b) → need None (inside s b o) (cell_at s b o) ≡ cell_at s b o
fetch_by s b o (yes h) = rw (lt-ltb b (length s) (block_with s b o h), lt-ltb o (cells_in s b) h)
fetch_by s b o (no h) = let g : cells_in s b ≤ o = omega (lin, h) in rw (cell_out s b o g) (need_same None (inside s b o))

pub fetch_is : (s : Store) (b o : ℕ) → cell_at s b o ≡ ev_fetch s (Some (Place b o))
unfolding ev_fetch
fetch_is s b o = sym (fetch_by s b o (dec_lt o (cells_in s b)))

-- a place that is moved lands among the cells of its block
module _ (s : Store) (b : ℕ) where
  moved_in : (z : ℤ) (k : ℕ) → index_in z (cells_in s b) ≡ Some k → moved s b z ≡ Some (Place b k)
  unfolding moved
  moved_in (pos j) k e =
      let h : j < cells_in s b = ltb-true j (cells_in s b) (index_at (pos j) (cells_in s b) e).0 in
      rw (lt-ltb b (length s) (block_with s b j h), lt-ltb j (cells_in s b) h, (index_at (pos j) (cells_in s b) e).1)
  moved_in (negsuc j) k e = cc (index_at (negsuc j) (cells_in s b) e).0

  moved_out : (z : ℤ) → index_in z (cells_in s b) ≡ None → moved s b z ≡ None
  unfolding moved
  moved_out (pos j) e = rw (index_out (pos j) (cells_in s b) e) (never (ltb b (length s)) _)
  moved_out (negsuc j) e = refl

  module _ (z : ℤ) (n : ℕ) (i : (Option ℕ)) (en : n ≡ cells_in s b) (ei : i ≡ index_in z n) where
    pub lands : (k : ℕ) → i ≡ Some k → Some (Place b k) ≡ moved s b z
    lands k e = sym (moved_in z k (ap (index_in z) (sym en) ∙ sym ei ∙ e))

    pub leaves : i ≡ None → None ≡ moved s b z
    leaves e = sym (moved_out z (ap (index_in z) (sym en) ∙ sym ei ∙ e))

-- ---- the walk

pub folds : (ρ : Rows) (σ : Store) (δ : List Given) → Folds (eval ρ σ δ) (form ρ σ δ)
unfolding form eval
folds ρ σ δ M.Absent a p q x y ex ey = refl
folds ρ σ δ M.Lit a p q x y ex ey = refl
folds ρ σ δ M.Var a p q x y ex ey = refl
folds ρ σ δ M.Fetch a p q x y ex ey = ap (ev_fetch σ) (sym (ex (omega lin)))
folds ρ σ δ M.Int a p q x y ex ey = ap ev_int (sym (ex (omega lin)))
folds ρ σ δ M.Val a p q x y ex ey = ap (ev_val ρ a) (sym (ex (omega lin)))
folds ρ σ δ M.Step a p q x y ex ey = ap₂ (ev_step σ) (sym (ex (omega lin))) (sym (ey (omega lin)))
folds ρ σ δ (M.Calc o) a p q x y ex ey = ap₂ (ev_arith o) (sym (ex (omega lin))) (sym (ey (omega lin)))

-- what a node gives, by its form however that was read
pub by_form : (ρ : Rows) (σ : Store) (δ : List Given) (a : ℕ) (x y g : Given) {p q : Form} → p ≡ q → g ≡ form ρ σ δ p a x y → g ≡ form ρ σ δ q a x y
by_form ρ σ δ a x y g e h = h ∙ ap (λ (f : Form). form ρ σ δ f a x y) e

-- an operand that is an int, and one that is none
pub int_there : (x : Given) (n : Num) → Some n ≡ need_int None x (λ a. Some a) → x ≡ Some (Int n)
int_there None n e = cc
int_there (Some (Int m)) n e = cc
int_there (Some (Imm m)) n e = cc
int_there (Some (Place b o)) n e = cc

pub int_none : (x : Given) (k : Num → Given) → None ≡ need_int None x (λ a. Some a) → None ≡ need_int None x k
int_none None k e = refl
int_none (Some (Int m)) k e = cc
int_none (Some (Imm m)) k e = refl
int_none (Some (Place b o)) k e = refl

-- what a walk gave is what the tree gives, and the node after it
module _ (ρ : Rows) (σ : Store) (δ : List Given) (N : List ℕ) (d k : ℕ) (g : Gave) (e : g ≡ gave_at ρ σ δ N d k) where
  pub tree_of_lem : g.given ≡ eval ρ σ δ (tree_of (tree_at N d k))
  unfolding gave_at
  tree_of_lem = ap (λ (x : Gave). x.given) e

  pub after_of_lem : g.next ≡ after_of (tree_at N d k)
  unfolding gave_at
  after_of_lem = ap (λ (x : Gave). x.next) e
