-- When a label is there: the line that is kept for it has its number, as it stands in the body's table. Assumes nothing.
use native.Mathlib.Omega.{arith as lin}
use Rattle.rules.specs.declared.Way.{Way}
use Rattle.rules.specs.declared.Way.TheVariants as W
use borrow.Author.Tests.{lt-ltb, le-ltb, ne_eqb}
use mathlib.Core.Path.{◌≡◌, refl, sym, ap, ◌∙◌}
use mathlib.Core.Bool.{Bool, true, false}
use mathlib.Core.List.{List}
use Prim.Native.Nat.{ℕ, zero, suc, ◌<◌, ◌≤◌}
use lib.Dec.{eqb}
use lib.ListN.{length, get_or, get_or-eq_default}
use Rattle.rules.specs.declared.Num.{Num}
use Rattle.rules.specs.When.{when}
use Rattle.rules.specs.Numbers.{num_code}
use Rattle.rules.specs.Limits.{limits}
use Rattle.rules.specs.Program.{Expr, Stmt, bad_s, set_s, put_s, if_s, return_s, is_label, label_at, label_there}
use Rattle.rules.specs.View.{labels_from, Walked, walked, tree_at, with_one, with_two, way_of, stmt_of, stmt_from, body_from, program}
use Rattle.program.specs.Lines.{stored_at, is_label_line, tables_of}
use Rattle.program.proofs.Laws.{line_in_lem, line_view}

abbrev label_way : Way → Bool
label_way W.Absent = false
label_way W.Set = false
label_way W.Put = false
label_way W.Goto = false
label_way W.If = false
label_way W.IfImm = false
label_way W.IfTag = false
label_way W.IfInt = false
label_way W.Return = false
label_way W.Label = true

way_nine : (kind : ℕ) → label_way (way_of kind) ≡ eqb kind 9
unfolding way_of
way_nine zero = refl
way_nine (suc zero) = refl
way_nine (suc (suc zero)) = refl
way_nine (suc (suc (suc zero))) = refl
way_nine (suc (suc (suc (suc zero)))) = refl
way_nine (suc (suc (suc (suc (suc zero))))) = refl
way_nine (suc (suc (suc (suc (suc (suc zero)))))) = refl
way_nine (suc (suc (suc (suc (suc (suc (suc zero))))))) = refl
way_nine (suc (suc (suc (suc (suc (suc (suc (suc zero)))))))) = refl
way_nine (suc (suc (suc (suc (suc (suc (suc (suc (suc zero))))))))) = refl
way_nine (suc (suc (suc (suc (suc (suc (suc (suc (suc (suc n)))))))))) = sym (ne_eqb (suc (suc (suc (suc (suc (suc (suc (suc (suc (suc n)))))))))) 9 (λ q. omega (lin, q)))

one_not : (l : ℕ) (f : Expr → Stmt) → ((x : Expr) → is_label l (f x) ≡ false) → (w : Walked) → is_label l (with_one f w) ≡ false
one_not l f h (walked x n) = h x

two_not : (N : List ℕ) (l : ℕ) (n : Num) (w : Walked) → is_label l (with_two N (λ x y. put_s x n y) w) ≡ false
two_not N l n (walked x k) = refl

way_label : (N : List ℕ) (y : Way) (l a v w k : ℕ) → is_label l (stmt_of N y a v w k) ≡ when (label_way y) (λ _. eqb a l) (λ _. false)
unfolding stmt_of
way_label N W.Absent l a v w k = refl
way_label N W.Set l a v w k = one_not l (set_s v) (λ x. refl) (tree_at N limits.depth k)
way_label N W.Put l a v w k = two_not N l (num_code w) (tree_at N limits.depth k)
way_label N W.Goto l a v w k = refl
way_label N W.If l a v w k = one_not l (if_s a) (λ x. refl) (tree_at N limits.depth k)
way_label N W.IfImm l a v w k = refl
way_label N W.IfTag l a v w k = refl
way_label N W.IfInt l a v w k = refl
way_label N W.Return l a v w k = one_not l return_s (λ x. refl) (tree_at N limits.depth k)
way_label N W.Label l a v w k = refl

pub label_view : (N B : List ℕ) (i l : ℕ) → is_label l (stmt_from N B i) ≡ is_label_line (stored_at B i) l
unfolding is_label_line
label_view N B i l =
    ap (is_label l) (line_view N B i)
    ∙ way_label N (way_of (stored_at B i).kind) l _ _ _ _
    ∙ ap (λ (b : Bool). when b (λ _. eqb (stored_at B i).label l) (λ _. false)) (way_nine (stored_at B i).kind)

-- ---- a label is there

module _ (Z N R D L B : List ℕ) (l : ℕ) where
  pub there_out : length (labels_from Z L) ≤ l → label_there (program (tables_of Z N R D L B)) l ≡ false
  unfolding label_there program
  there_out h = rw (le-ltb l (length (labels_from Z L)) h)

  module _ (i : ℕ) (h : l < length (labels_from Z L)) (e : i ≡ (label_at (labels_from Z L) l).line) where
    there_by : (s : Stmt) → get_or (body_from Z N B) i bad_s ≡ s → label_there (program (tables_of Z N R D L B)) l ≡ is_label l s
    unfolding label_there program
    there_by s q = rw (lt-ltb l (length (labels_from Z L)) h, sym e, q)

    pub there_past : length (body_from Z N B) ≤ i → label_there (program (tables_of Z N R D L B)) l ≡ false
    there_past k = there_by bad_s (get_or-eq_default (body_from Z N B) bad_s k)

    pub there_in : i < length (body_from Z N B) → label_there (program (tables_of Z N R D L B)) l ≡ is_label_line (stored_at B i) l
    there_in k = there_by (stmt_from N B i) (line_in_lem Z N B i k) ∙ label_view N B i l
