-- Numbers that name no operation and no kind of line, or no operation with so many operands; the tree at a node, from its operands' trees; and what a function of trees that goes form by form gives for it.
-- Assumes nothing.
use native.Mathlib.Omega.{arith as lin}
use Rattle.rules.specs.declared.Form.{Form}
use Rattle.rules.specs.declared.Form.TheVariants as M
use Rattle.rules.specs.declared.Way.TheVariants as W
use native.Mathlib.Decide.{dec_lt, ℕ_discrete}
use native.Mathlib.Numerals.{sub-one}
use borrow.Author.Tests.{lt-ltb, le-ltb, ltb-true, ltb-false, eqb-true, ne_eqb}
use mathlib.Core.Path.{◌≡◌, refl, sym, ap, ap₂, subst, ◌∙◌}
use mathlib.Core.Bool.{Bool, true, false, ◌&&◌, ◌||◌, not}
use mathlib.Core.Logic.{◌⊎◌, inl, inr, ⊎_elim}
use mathlib.Core.List.{List, [], ◌∷◌}
use Prim.Native.Nat.{ℕ, zero, suc, ◌+◌, ◌-◌, ◌/◌, ◌%◌, ◌<◌, ◌≤◌}
use lib.Dec.{ltb, eqb}
use lib.ListN.{length, get_or, get_or-eq_default}
use Rattle.rules.specs.declared.Op.TheVariants as O
use Rattle.rules.specs.Numbers.{num_code}
use Rattle.rules.specs.Program.{Expr, bad, lit, var, arith, val, int, fetch, step, Stmt}
use Rattle.rules.specs.View.{form_of, Walked, walked, one, two, tree_of, tree_node, tree_at, with_one, with_two, way_of}
use Rattle.program.specs.Nodes.{arity, after_of, within, leaf_at}

-- ---- numbers that name nothing

-- a number that is none of b + 1 to b + n
abbrev pub NoneOn : ℕ → ℕ → ℕ → Type 0
NoneOn b zero op = Unit
NoneOn b (suc n) op = NoneOn b n op × (op ≡ b + suc n → ⊥)

abbrev pub NoneTo : ℕ → ℕ → Type 0
NoneTo n op = NoneOn 0 n op

past : (b n op : ℕ) → NoneOn b n op → b < op → b + n < op
past b zero op h p = omega lin
past b (suc n) op h p = omega (lin, past b n op h.0 p, h.1)

unnamed_by : {A : Type 0} (l : List A) (d : A) (n op : ℕ) → length l ≤ n + 1 → get_or l 0 d ≡ d → NoneTo n op → Dec (0 < op) → get_or l op d ≡ d
unnamed_by l d n op s z h (yes p) = let g : length l ≤ op = omega (lin, past 0 n op h p) in get_or-eq_default l d g
unnamed_by l d n op s z h (no q) = let e : op ≡ 0 = omega (lin, q) in rw e z

-- of a list of n + 1 whose first is the default, such a number names the default
unnamed : {A : Type 0} (l : List A) (d : A) (n op : ℕ) → length l ≤ n + 1 → get_or l 0 d ≡ d → NoneTo n op → get_or l op d ≡ d
unnamed l d n op s z h = unnamed_by l d n op s z h (dec_lt 0 op)

pub form_rest : (op : ℕ) → NoneTo 11 op → form_of op ≡ M.Absent
unfolding form_of
form_rest op h =
    unnamed (M.Absent ∷ M.Lit ∷ M.Var ∷ M.Fetch ∷ M.Int ∷ M.Val ∷ M.Step ∷ M.Calc O.Add ∷ M.Calc O.Sub ∷ M.Calc O.Mul ∷ M.Calc O.Eq ∷ M.Calc O.Lt ∷ []) M.Absent 11 op (omega lin) refl h

pub way_rest : (kind : ℕ) → NoneTo 9 kind → way_of kind ≡ W.Absent
unfolding way_of
way_rest kind h = unnamed (W.Absent ∷ W.Set ∷ W.Put ∷ W.Goto ∷ W.If ∷ W.IfImm ∷ W.IfTag ∷ W.IfInt ∷ W.Return ∷ W.Label ∷ []) W.Absent 9 kind (omega lin) refl h

-- ---- operations by how many operands they have

-- where the numbers of the operations with so many operands stand
abbrev Span : ℕ → ℕ → Type 0
Span zero op = (op < 3) ⊎ (form_of op ≡ M.Absent)
Span (suc zero) op = (2 < op) × (op < 6)
Span (suc (suc n)) op = (5 < op) × (op < 12)

span : (op : ℕ) → Span (arity (form_of op)) op
unfolding form_of
span zero = inl (omega lin)
span (suc zero) = inl (omega lin)
span (suc (suc zero)) = inl (omega lin)
span (suc (suc (suc zero))) = (omega lin, omega lin)
span (suc (suc (suc (suc zero)))) = (omega lin, omega lin)
span (suc (suc (suc (suc (suc zero))))) = (omega lin, omega lin)
span (suc (suc (suc (suc (suc (suc zero)))))) = (omega lin, omega lin)
span (suc (suc (suc (suc (suc (suc (suc zero))))))) = (omega lin, omega lin)
span (suc (suc (suc (suc (suc (suc (suc (suc zero)))))))) = (omega lin, omega lin)
span (suc (suc (suc (suc (suc (suc (suc (suc (suc zero))))))))) = (omega lin, omega lin)
span (suc (suc (suc (suc (suc (suc (suc (suc (suc (suc zero)))))))))) = (omega lin, omega lin)
span (suc (suc (suc (suc (suc (suc (suc (suc (suc (suc (suc zero))))))))))) = (omega lin, omega lin)
span (suc (suc (suc (suc (suc (suc (suc (suc (suc (suc (suc (suc n)))))))))))) = inr refl

form_zero : (op : ℕ) → op ≡ 0 → form_of op ≡ M.Absent
unfolding form_of
form_zero op e = rw e

-- a number that is none of those with so many operands: without any, it names nothing; with one or two, there is none

pub leaf_rest : (op : ℕ) → NoneTo 2 op → arity (form_of op) ≡ 0 → form_of op ≡ M.Absent
leaf_rest op h q = ⊎_elim (λ p. form_zero op (omega (lin, p, h.1, h.0.1))) (λ e. e) (subst (λ (n : ℕ). Span n op) q (span op))

pub one_rest : (op : ℕ) → NoneOn 2 3 op → arity (form_of op) ≡ 1 → ⊥
one_rest op h q = let s = subst (λ (n : ℕ). Span n op) q (span op) in omega (lin, past 2 3 op h s.0, s.1)

two_by : (op n : ℕ) → (n ≡ 0 → ⊥) → (n ≡ 1 → ⊥) → Span n op → (5 < op) × (op < 12)
two_by op zero z i s = absurd (z refl)
two_by op (suc zero) z i s = absurd (i refl)
two_by op (suc (suc n)) z i s = s

pub two_rest : (op : ℕ) → NoneOn 5 6 op → (arity (form_of op) ≡ 0 → ⊥) × (arity (form_of op) ≡ 1 → ⊥) → ⊥
two_rest op h q = let s = two_by op (arity (form_of op)) q.0 q.1 (span op) in omega (lin, past 5 6 op h s.0, s.1)

-- an operation past 6 that is one has two operands; one that has two and is not past 6 is `step`
pub past_six : (op : ℕ) → 6 < op → (arity (form_of op) ≡ 0 → ⊥) → (arity (form_of op) ≡ 0 → ⊥) × (arity (form_of op) ≡ 1 → ⊥)
past_six op h z = (z, one_rest op (((tt, λ q. omega (lin, q, h)), λ q. omega (lin, q, h)), λ q. omega (lin, q, h)))

pub is_step : (op : ℕ) → (6 < op → ⊥) → (arity (form_of op) ≡ 0 → ⊥) → (arity (form_of op) ≡ 1 → ⊥) → form_of op ≡ M.Step
unfolding form_of
is_step op h z i = by (ℕ_discrete op 6)
  where
    by : Dec (op ≡ 6) → form_of op ≡ M.Step
    by (yes e) = rw e
    by (no n) = absurd (two_rest op ((((((tt, n), λ q. omega (lin, q, h)), λ q. omega (lin, q, h)), λ q. omega (lin, q, h)), λ q. omega (lin, q, h)), λ q. omega (lin, q, h)) (z, i))

-- ---- places where a node can stand; the code asks whether it can not

module _ (d k : ℕ) {b : Bool} (e : b ≡ within d k) where
  pub is_within : not b ≡ false → (d ≡ 0 → ⊥) × (k < 4096)
  is_within q = by (ltb 0 d) (ltb k 4096) refl refl (ap not (sym e) ∙ q)
    where
      by : (x y : Bool) → ltb 0 d ≡ x → ltb k 4096 ≡ y → not (x && y) ≡ false → (d ≡ 0 → ⊥) × (k < 4096)
      by true true p q h = ((λ z. omega (lin, z, ltb-true 0 d p)), ltb-true k 4096 q)
      by true false p q h = let x : ◌≡◌ {A = ℕ} 0 1 = cc in absurd (omega lin)
      by false y p q h = let x : ◌≡◌ {A = ℕ} 0 1 = cc in absurd (omega lin)

  is_beyond : not b ≡ true → (d ≡ 0) ⊎ ((d ≡ 0 → ⊥) × (4096 ≤ k))
  is_beyond q = by (ltb 0 d) (ltb k 4096) refl refl (ap not (sym e) ∙ q)
    where
      by : (x y : Bool) → ltb 0 d ≡ x → ltb k 4096 ≡ y → not (x && y) ≡ true → (d ≡ 0) ⊎ ((d ≡ 0 → ⊥) × (4096 ≤ k))
      by true true p q h = let x : ◌≡◌ {A = ℕ} 0 1 = cc in absurd (omega lin)
      by true false p q h = inr ((λ z. omega (lin, z, ltb-true 0 d p)), ltb-false k 4096 q)
      by false y p q h = let x = ltb-false 0 d p in inl (omega lin)

-- ---- nodes that are a tree by themselves

module _ (N : List ℕ) (d k : ℕ) where
  abbrev op_at : ℕ
  op_at = get_or N k 0 / 4294967296

  -- for the code: by the depth, the place and the operation
  pub not_deep : d ≡ 0 → false ≡ leaf_at N d k
  unfolding leaf_at
  not_deep e = rw e refl

  pub not_past : (d ≡ 0 → ⊥) → 4096 ≤ k → false ≡ leaf_at N d k
  unfolding leaf_at
  not_past z h = rw (lt-ltb 0 d (omega (lin, z)), le-ltb k 4096 h) refl

  module _ (z : d ≡ 0 → ⊥) (h : k < 4096) {o : ℕ} (eo : o ≡ op_at) where
    by_operation : leaf_at N d k ≡ (eqb o 1 || eqb o 2)
    unfolding leaf_at
    by_operation = rw (lt-ltb 0 d (omega (lin, z)), lt-ltb k 4096 h, eo) refl

    pub leaf_number : o ≡ 1 → true ≡ leaf_at N d k
    leaf_number e = sym (by_operation ∙ rw e refl)

    pub leaf_variable : o ≡ 2 → true ≡ leaf_at N d k
    leaf_variable e = sym (by_operation ∙ rw e refl)

    pub leaf_none : NoneTo 2 o → false ≡ leaf_at N d k
    leaf_none n = sym (by_operation ∙ rw (ne_eqb o 1 n.0.1, ne_eqb o 2 n.1) refl)

  one_or_two : (o : ℕ) → (eqb o 1 || eqb o 2) ≡ true → arity (form_of o) ≡ 0
  unfolding form_of
  one_or_two o e = by (eqb o 1) (eqb o 2) refl refl e
    where
      by : (a b : Bool) → eqb o 1 ≡ a → eqb o 2 ≡ b → (a || b) ≡ true → arity (form_of o) ≡ 0
      by true b p q h = rw (eqb-true o 1 p) refl
      by false true p q h = rw (eqb-true o 2 q) refl
      by false false p q h = let x : ◌≡◌ {A = ℕ} 0 1 = cc in absurd (omega lin)

  -- for callers
  pub leaf_there : {b : Bool} → b ≡ leaf_at N d k → b ≡ true → (d ≡ 0 → ⊥) × (k < 4096) × (arity (form_of op_at) ≡ 0)
  unfolding leaf_at
  leaf_there eb e = by (ltb 0 d) (ltb k 4096) (eqb op_at 1 || eqb op_at 2) refl refl refl (sym eb ∙ e)
    where
      by : (a b l : Bool) → ltb 0 d ≡ a → ltb k 4096 ≡ b → (eqb op_at 1 || eqb op_at 2) ≡ l → (a && (b && l)) ≡ true → (d ≡ 0 → ⊥) × (k < 4096) × (arity (form_of op_at) ≡ 0)
      by true true true p q r h = ((λ z. omega (lin, z, ltb-true 0 d p)), ltb-true k 4096 q, one_or_two op_at r)
      by true true false p q r h = let x : ◌≡◌ {A = ℕ} 0 1 = cc in absurd (omega lin)
      by true false l p q r h = let x : ◌≡◌ {A = ℕ} 0 1 = cc in absurd (omega lin)
      by false b l p q r h = let x : ◌≡◌ {A = ℕ} 0 1 = cc in absurd (omega lin)

-- ---- trees

-- the expression of a form, from its argument and the expressions of its operands
abbrev pub expr_of : Form → ℕ → Expr → Expr → Expr
expr_of M.Absent a p q = bad
expr_of M.Lit a p q = lit (num_code a)
expr_of M.Var a p q = var a
expr_of M.Fetch a p q = fetch p
expr_of M.Int a p q = int p
expr_of M.Val a p q = val a p
expr_of M.Step a p q = step p q
expr_of (M.Calc o) a p q = arith o p q

-- the node after a form with n operands: after itself, after its first operand, or after its second
abbrev after_by : ℕ → ℕ → ℕ → ℕ → ℕ
after_by zero k x y = k
after_by (suc zero) k x y = x
after_by (suc (suc n)) k x y = y

tree_one : (f : Expr → Expr) (w : Walked) → tree_of (one f w) ≡ f (tree_of w)
tree_one f (walked x n) = refl

after_one : (f : Expr → Expr) (w : Walked) → after_of (one f w) ≡ after_of w
after_one f (walked x n) = refl

tree_two : (f : Expr → Expr → Expr) (g : ℕ → Walked) (w : Walked) → tree_of (two f g w) ≡ f (tree_of w) (tree_of (g (after_of w)))
tree_two f g (walked x n) = tree_one (f x) (g n)

after_two : (f : Expr → Expr → Expr) (g : ℕ → Walked) (w : Walked) → after_of (two f g w) ≡ after_of (g (after_of w))
after_two f g (walked x n) = after_one (f x) (g n)

pub with_one_lem : (f : Expr → Stmt) (w : Walked) → with_one f w ≡ f (tree_of w)
with_one_lem f (walked x n) = refl

pub with_two_lem : (N : List ℕ) (f : Expr → Expr → Stmt) (w : Walked) → with_two N f w ≡ f (tree_of w) (tree_of (tree_at N 16 (after_of w)))
with_two_lem N f (walked x n) = refl

module _ (g : ℕ → Walked) (k a : ℕ) where
  tree_node_lem : (o : Form) → tree_of (tree_node g k o a) ≡ expr_of o a (tree_of (g (k + 1))) (tree_of (g (after_of (g (k + 1)))))
  tree_node_lem M.Absent = refl
  tree_node_lem M.Lit = refl
  tree_node_lem M.Var = refl
  tree_node_lem M.Fetch = tree_one fetch (g (k + 1))
  tree_node_lem M.Int = tree_one int (g (k + 1))
  tree_node_lem M.Val = tree_one (val a) (g (k + 1))
  tree_node_lem M.Step = tree_two step g (g (k + 1))
  tree_node_lem (M.Calc o) = tree_two (arith o) g (g (k + 1))

  after_node : (o : Form) → after_of (tree_node g k o a) ≡ after_by (arity o) (k + 1) (after_of (g (k + 1))) (after_of (g (after_of (g (k + 1)))))
  after_node M.Absent = refl
  after_node M.Lit = refl
  after_node M.Var = refl
  after_node M.Fetch = after_one fetch (g (k + 1))
  after_node M.Int = after_one int (g (k + 1))
  after_node M.Val = after_one (val a) (g (k + 1))
  after_node M.Step = after_two step g (g (k + 1))
  after_node (M.Calc o) = after_two (arith o) g (g (k + 1))

by_two : (n k x y : ℕ) → (n ≡ 0 → ⊥) → (n ≡ 1 → ⊥) → after_by n k x y ≡ y
by_two zero k x y z i = absurd (z refl)
by_two (suc zero) k x y z i = absurd (i refl)
by_two (suc (suc n)) k x y z i = refl

-- ---- a function t of trees, which gives for an expression what `form` gives for its operands. A walk packs what it gives with the node after it.

-- what is given for operands that a form has not plays no part
abbrev pub Folds : {A : Type 0} → (Expr → A) → (Form → ℕ → A → A → A) → Type 0
Folds {A} t form = (o : Form) (a : ℕ) (p q : Expr) (x y : A) → (0 < arity o → x ≡ t p) → (1 < arity o → y ≡ t q) → t (expr_of o a p q) ≡ form o a x y

-- what a node gives, by its two numbers however they were read
pub node_read : {A : Type 0} (form : Form → ℕ → A → A → A) {j x y : A} {o p a b : ℕ} → o ≡ p → a ≡ b → j ≡ form (form_of o) a x y → j ≡ form (form_of p) b x y
node_read form {x = x} {y} eo ea e = e ∙ ap₂ (λ (o a : ℕ). form (form_of o) a x y) eo ea

module _ {A F : Type 0} (t : Expr → A) (pack : A → ℕ → F) (N : List ℕ) (d k : ℕ) where
  abbrev whole : F
  whole = pack (t (tree_of (tree_at N d k))) (after_of (tree_at N d k))

  pub ends_deep : d ≡ 0 → pack (t bad) k ≡ whole
  unfolding tree_at
  ends_deep e = rw e

  past_by : (b : ℕ) → d ≡ suc b → 4096 ≤ k → pack (t bad) k ≡ whole
  unfolding tree_at
  past_by b e h = rw (e, le-ltb k 4096 h)

  pub ends_past : (d ≡ 0 → ⊥) → 4096 ≤ k → pack (t bad) k ≡ whole
  ends_past z h = let q : d ≡ suc (d - 1) = omega (lin, z) in past_by (d - 1) q h

  pub ends_beyond : {b : Bool} → b ≡ within d k → not b ≡ true → pack (t bad) k ≡ whole
  ends_beyond e q = ⊎_elim ends_deep (λ p. ends_past p.0 p.1) (is_beyond d k e q)

  module _ (form : Form → ℕ → A → A → A) (folds : Folds t form) (o a n : ℕ) (z : d ≡ 0 → ⊥) (h : k < 4096) (eo : o ≡ get_or N k 0 / 4294967296) (ea : a ≡ get_or N k 0 % 4294967296) (en : n ≡ arity (form_of o)) where
    abbrev first : Walked
    first = tree_at N (d - 1) (k + 1)

    abbrev second : Walked
    second = tree_at N (d - 1) (after_of first)

    node_by : (b : ℕ) → d ≡ suc b → tree_at N d k ≡ tree_node (tree_at N (d - 1)) k (form_of o) a
    unfolding tree_at
    node_by b e = rw (e, eo, ea, lt-ltb k 4096 h, sub-one (suc b))

    node : tree_at N d k ≡ tree_node (tree_at N (d - 1)) k (form_of o) a
    node = let q : d ≡ suc (d - 1) = omega (lin, z) in node_by (d - 1) q

    gives : (x y : A) → (0 < n → x ≡ t (tree_of first)) → (1 < n → y ≡ t (tree_of second)) → form (form_of o) a x y ≡ t (tree_of (tree_at N d k))
    gives x y ex ey =
        sym (ap (λ (w : Walked). t (tree_of w)) node ∙ ap t (tree_node_lem (tree_at N (d - 1)) k a (form_of o))
        ∙ folds (form_of o) a (tree_of first) (tree_of second) x y (λ q. ex (omega (lin, q, en))) (λ q. ey (omega (lin, q, en))))

    goes : (m : ℕ) → m ≡ after_by n (k + 1) (after_of first) (after_of second) → m ≡ after_of (tree_at N d k)
    goes m e = e ∙ ap (λ (i : ℕ). after_by i (k + 1) (after_of first) (after_of second)) en ∙ sym (ap after_of node ∙ after_node (tree_at N (d - 1)) k a (form_of o))

    -- the three ways in which a walk goes on: what it read, and what it called, is what t gives for the tree
    pub ends_leaf : (j x y : A) → n ≡ 0 → j ≡ form (form_of o) a x y → pack j (k + 1) ≡ whole
    ends_leaf j x y q e = ap₂ pack (e ∙ gives x y (λ p. absurd (omega (lin, p, q))) (λ p. absurd (omega (lin, p, q)))) (goes (k + 1) (rw q))

    pub ends_one : (j x y : A) (m : ℕ) → n ≡ 1 → x ≡ t (tree_of first) → m ≡ after_of first → j ≡ form (form_of o) a x y → pack j m ≡ whole
    ends_one j x y m q ex em e = ap₂ pack (e ∙ gives x y (λ p. ex) (λ p. absurd (omega (lin, p, q)))) (goes m (rw q em))

    pub ends_two : (j x y : A) (i m : ℕ) → (n ≡ 0 → ⊥) → (n ≡ 1 → ⊥) → x ≡ t (tree_of first) → i ≡ after_of first →
        y ≡ t (tree_of (tree_at N (d - 1) i)) → m ≡ after_of (tree_at N (d - 1) i) → j ≡ form (form_of o) a x y → pack j m ≡ whole
    ends_two j x y i m z₀ z₁ ex ei ey em e =
        ap₂ pack (e ∙ gives x y (λ p. ex) (λ p. ey ∙ ap (λ (l : ℕ). t (tree_of (tree_at N (d - 1) l))) ei))
        (goes m (em ∙ ap (λ (l : ℕ). after_of (tree_at N (d - 1) l)) ei ∙ sym (by_two n (k + 1) (after_of first) (after_of second) z₀ z₁)))

  -- a number or a variable, answered in place
  pub ends_there : (form : Form → ℕ → A → A → A) → Folds t form → {b : Bool} → b ≡ leaf_at N d k → b ≡ true → {r : F} {j : A} (x y : A)
      → r ≡ pack j (k + 1) → j ≡ form (form_of (get_or N k 0 / 4294967296)) (get_or N k 0 % 4294967296) x y → r ≡ whole
  ends_there form folds eb e {j = j} x y er ej = let h = leaf_there N d k eb e in er ∙ ends_leaf form folds _ _ _ h.0 h.1 refl refl refl j x y h.2 ej
