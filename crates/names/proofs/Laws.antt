-- Laws of the tests of all, of the stage's parts, of the tree walk, and of a body line by its kind's number. Assumes nothing.
use native.Mathlib.Omega.{arith as lin}
use native.Mathlib.Decide.{dec_lt}
use Rattle.rules.specs.declared.Form.{Form}
use Rattle.rules.specs.declared.Way.{Way}
use Rattle.rules.specs.declared.Op.{Op}
use Rattle.rules.specs.declared.Form.TheVariants as M
use Rattle.rules.specs.declared.Way.TheVariants as W
use mathlib.Core.Logic.{◌⊎◌, inl, inr}
use mathlib.Core.Path.{ap₂}
use lib.ListN.{get_or-eq_default, get_or-map, length-map}
use borrow.Author.Tests.{ne_eqb}
use Rattle.std.specs.Bool.{then_some}
use Rattle.std.specs.Option.{is_some}
use Rattle.std.specs.Prelude.{◌+◌, ◌-◌, ◌/◌, ◌%◌, ◌<◌, ◌≤◌, ◌&&◌, ◌∷◌, ◌++◌, ◌≡◌, Option, Some, None, Result, Ok, Err}
use Rattle.rules.specs.Prelude.{ℕ, zero, suc, Bool, true, false, List, [], map, refl, sym, ap, ◌∙◌, length, get_or, drop}
use Rattle.rules.specs.declared.Answer.{Answer}
use Rattle.rules.specs.Numbers.{num_code}
use Rattle.rules.specs.Answers.{answer, and_then, outcome, first}
use Rattle.rules.specs.Environments.{no_var}
use Rattle.rules.specs.Program.{Prog, Var, Expr, Stmt, bad_s, set_s, put_s, goto_s, if_s, ifimm_s, iftag_s, ifint_s, return_s, row_there, kind_at, label_at, no_entry}
use Rattle.rules.specs.View.{tab, vars_from, labels_from, label_from, entry_from, Walked, walked, form_of, tree_at, way_of, tree_of, with_one, with_two, stmt_of, stmt_from, body_from}
use Rattle.rules.specs.Names.{expr_there, fields_there, products_there, entry_suits, entries_suit, label_suits, name_kind, name_row, name_var}
use Rattle.rules.proofs.Laws.Lists.{tab_length, tab_in}
use Rattle.table.proofs.Passes.{left_more, left_none, accepts, refuses, outcome_on, outcome_no, first_append, lines_done, lines_on, lines_no}
use Rattle.program.specs.declared.Stored.{Stored}
use Rattle.program.specs.Lines.{stored_at}
use Rattle.program.proofs.Laws.{vars_small, label_in, label_out, line_in_lem, line_view}
use Rattle.program.specs.Nodes.{arity, after_of}
use Rattle.program.proofs.Walk.{Folds, ends_deep, ends_past, ends_leaf, ends_one, ends_two}
use Rattle.names.specs.Walk.{form_there, there_at}
use Rattle.names.specs.Passed.{passed, on_line}
use Rattle.names.specs.Trees.{line_named, names_in}

-- ---- a test of all

module _ (P : Prog) (l : List ℕ) (i n : ℕ) (e : n ≡ length l) where
  pub fields_left : i < n → fields_there P (drop i l) ≡ (row_there P.rows (get_or l i 0) && fields_there P (drop (i + 1) l))
  unfolding fields_there
  fields_left h = rw (left_more l i n e 0 h)

  pub fields_done : n ≤ i → fields_there P (drop i l) ≡ true
  unfolding fields_there
  fields_done h = rw (left_none l i n e h)

module _ (P : Prog) (l : List (List ℕ)) (i n : ℕ) (e : n ≡ length l) where
  pub products_left : i < n → products_there P (drop i l) ≡ (fields_there P (get_or l i []) && products_there P (drop (i + 1) l))
  unfolding products_there
  products_left h = rw (left_more l i n e [] h)

  pub products_done : n ≤ i → products_there P (drop i l) ≡ true
  unfolding products_there
  products_done h = rw (left_none l i n e h)

-- ---- the entries of a label: as many as there can be variables, or none

suits_none : (D : List Var) → entries_suit D [] ≡ true
unfolding entries_suit
suits_none [] = refl
suits_none (d ∷ D) = refl

module _ (Z D L : List ℕ) (l v n m : ℕ) (en : n ≡ length (vars_from Z D)) (em : m ≡ length (labels_from Z L)) where
  pub suits_absent : m ≤ l → entries_suit (vars_from Z D) (label_at (labels_from Z L) l).entries ≡ true
  suits_absent h = rw (label_out Z L l (omega (lin, em, h))) (suits_none (vars_from Z D))

  entries_are : l < m → 32 ≡ length (label_at (labels_from Z L) l).entries
  unfolding label_from
  entries_are h = rw (label_in Z L l (omega (lin, em, h))) (sym (tab_length 32 (entry_from L l)))

  pub suits_left : l < m → v < n → entries_suit (drop v (vars_from Z D)) (drop v (label_at (labels_from Z L) l).entries)
      ≡ (entry_suits (kind_at (vars_from Z D) v) (get_or (label_at (labels_from Z L) l).entries v no_entry) && entries_suit (drop (v + 1) (vars_from Z D)) (drop (v + 1) (label_at (labels_from Z L) l).entries))
  unfolding entries_suit kind_at
  suits_left h k = rw (left_more (vars_from Z D) v n en no_var k, left_more (label_at (labels_from Z L) l).entries v 32 (entries_are h) no_entry (omega (lin, en, vars_small Z D)))

  pub suits_done : n ≤ v → entries_suit (drop v (vars_from Z D)) (drop v (label_at (labels_from Z L) l).entries) ≡ true
  unfolding entries_suit
  suits_done h = rw (left_none (vars_from Z D) v n en h)

-- ---- line by line

-- a line's number and its line are an answer
said_is : (n line : ℕ) → on_line line (passed n) ≡ outcome (answer n line)
said_is zero line = refl
said_is (suc n) line = rw (ne_eqb (suc n) 0 (λ q. omega (lin, q)))

module _ {A : Type 0} (f : A → ℕ) (l : List A) (line i n : ℕ) (en : n ≡ length l) where
  pub lines_end : n ≤ i → Ok tt ≡ outcome (first (line + i) (map f (drop i l)))
  lines_end h = ap outcome (lines_done f l line i n en h)

  module _ (d : A) (h : i < n) where
    pub line_on : Ok tt ≡ on_line (line + i) (passed (f (get_or l i d))) → first (line + (i + 1)) (map f (drop (i + 1) l)) ≡ first (line + i) (map f (drop i l))
    line_on e = lines_on f l line i n en d _ h refl (accepts _ (e ∙ said_is _ _))

    pub line_no : {a : Answer} → Err a ≡ on_line (line + i) (passed (f (get_or l i d))) → Err a ≡ outcome (first (line + i) (map f (drop i l)))
    line_no e = let w = e ∙ said_is _ _ in w ∙ ap outcome (lines_no f l line i n en d _ h refl (refuses _ w).0)

-- ---- part by part

-- the answers of the parts, one after the other: `ret`, the rows, the variables, the body
module _ (trees : Bool) (P : Prog) where
  pub names_top : {a : Answer} → Err a ≡ on_line 1 (passed (name_kind P P.ret)) → Err a ≡ outcome (names_in trees P)
  unfolding names_in first
  names_top e = let w = e ∙ said_is _ _ in rw (ne_eqb (name_kind P P.ret) 0 (refuses _ w).0) w

  module _ (zt : Ok tt ≡ on_line 1 (passed (name_kind P P.ret))) where
    from_rows : names_in trees P ≡ and_then (first 2 (map (name_row P) P.rows)) (λ _. first (2 + length P.rows) (map (name_var P) P.vars ++ map (line_named trees P) P.body))
    unfolding names_in first
    from_rows = rw (accepts _ (zt ∙ said_is _ _), sym (length-map P.rows (name_row P))) (first_append 2 (map (name_row P) P.rows) (map (name_var P) P.vars ++ map (line_named trees P) P.body))

    pub names_rows : {a : Answer} → Err a ≡ outcome (first 2 (map (name_row P) P.rows)) → Err a ≡ outcome (names_in trees P)
    names_rows e = outcome_no _ _ e ∙ ap outcome (sym from_rows)

    module _ (za : Ok tt ≡ outcome (first 2 (map (name_row P) P.rows))) (k : ℕ) (ek : k ≡ length P.rows) where
      from_vars : names_in trees P ≡ and_then (first (2 + k) (map (name_var P) P.vars)) (λ _. first (2 + k + length P.vars) (map (line_named trees P) P.body))
      from_vars = from_rows ∙ outcome_on _ _ za ∙ rw (sym ek, sym (length-map P.vars (name_var P))) (first_append (2 + k) (map (name_var P) P.vars) (map (line_named trees P) P.body))

      pub names_vars : {a : Answer} → Err a ≡ outcome (first (2 + k) (map (name_var P) P.vars)) → Err a ≡ outcome (names_in trees P)
      names_vars e = outcome_no _ _ e ∙ ap outcome (sym from_vars)

      pub names_body : Ok tt ≡ outcome (first (2 + k) (map (name_var P) P.vars)) → (j : ℕ) → j ≡ length P.vars → {r : Result Unit Answer}
          → r ≡ outcome (first (2 + k + j) (map (line_named trees P) P.body)) → r ≡ outcome (names_in trees P)
      names_body e j ej er = er ∙ ap outcome (rw ej (sym (from_vars ∙ outcome_on _ _ e)))

-- ---- the walk

folds : (P : Prog) → Folds (expr_there P) (form_there P)
unfolding expr_there
folds P M.Absent a p q x y ex ey = refl
folds P M.Lit a p q x y ex ey = refl
folds P M.Var a p q x y ex ey = refl
folds P M.Fetch a p q x y ex ey = sym (ex (omega lin))
folds P M.Int a p q x y ex ey = sym (ex (omega lin))
folds P M.Val a p q x y ex ey = ap (λ (b : Bool). row_there P.rows a && b) (sym (ex (omega lin)))
folds P M.Step a p q x y ex ey = ap₂ ◌&&◌ (sym (ex (omega lin))) (sym (ey (omega lin)))
folds P (M.Calc o) a p q x y ex ey = ap₂ ◌&&◌ (sym (ex (omega lin))) (sym (ey (omega lin)))

-- a form with two operands names nothing itself
two_form : (P : Prog) (o : Form) (a : ℕ) (x y : Bool) → (arity o ≡ 0 → ⊥) → (arity o ≡ 1 → ⊥) → form_there P o a x y ≡ (x && y)
two_form P M.Absent a x y z i = absurd (z refl)
two_form P M.Lit a x y z i = absurd (z refl)
two_form P M.Var a x y z i = absurd (z refl)
two_form P M.Fetch a x y z i = absurd (i refl)
two_form P M.Int a x y z i = absurd (i refl)
two_form P M.Val a x y z i = absurd (i refl)
two_form P M.Step a x y z i = refl
two_form P (M.Calc o) a x y z i = refl

pub two_operands : {f : Form} → (f ≡ M.Step) ⊎ ((o : Op) × (f ≡ M.Calc o)) → (arity f ≡ 0 → ⊥) × (arity f ≡ 1 → ⊥)
two_operands {f} (inl e) = ((λ q. omega (lin, sym (ap arity e) ∙ q)), λ q. omega (lin, sym (ap arity e) ∙ q))
two_operands {f} (inr (o, e)) = ((λ q. omega (lin, sym (ap arity e) ∙ q)), λ q. omega (lin, sym (ap arity e) ∙ q))

-- whether there is a node after it tells whether what it names exists
none_there : (b : Bool) (n : ℕ) → None ≡ then_some b n → b ≡ false
none_there true n e = absurd (grind lin)
none_there false n e = refl

some_there : (b : Bool) (n : ℕ) {m : ℕ} → Some m ≡ then_some b n → (b ≡ true) × (m ≡ n)
some_there true n e = (refl, grind lin)
some_there false n e = absurd (grind lin)

module _ (P : Prog) (N : List ℕ) (d k : ℕ) where
  pub tree_not : None ≡ there_at P N d k → expr_there P (tree_of (tree_at N d k)) ≡ false
  unfolding there_at
  tree_not e = none_there _ _ e

  pub tree_is : {m : ℕ} → Some m ≡ there_at P N d k → (expr_there P (tree_of (tree_at N d k)) ≡ true) × (m ≡ after_of (tree_at N d k))
  unfolding there_at
  tree_is e = some_there _ _ e

  -- as a test
  pub tree_test : is_some (there_at P N d k) ≡ expr_there P (tree_of (tree_at N d k))
  unfolding there_at
  tree_test = by (expr_there P (tree_of (tree_at N d k)))
    where
      by : (b : Bool) → is_some (then_some b (after_of (tree_at N d k))) ≡ b
      by true = refl
      by false = refl

module _ (P : Prog) (N : List ℕ) (d k : ℕ) where
  pub at_zero : d ≡ 0 → None ≡ there_at P N d k
  unfolding there_at expr_there
  at_zero e = ends_deep (expr_there P) then_some N d k e

  pub at_past : (d ≡ 0 → ⊥) → 4096 ≤ k → None ≡ there_at P N d k
  unfolding there_at expr_there
  at_past z h = ends_past (expr_there P) then_some N d k z h

  -- the ways in which a walk goes on, by the form that it read
  module _ (z : d ≡ 0 → ⊥) (h : k < 4096) {op a : ℕ} (eo : op ≡ get_or N k 0 / 4294967296) (ea : a ≡ get_or N k 0 % 4294967296) {f : Form} (ef : f ≡ form_of op) where
    pub leaf_is : (b : Bool) → arity f ≡ 0 → b ≡ form_there P f a true true → then_some b (k + 1) ≡ there_at P N d k
    unfolding there_at
    leaf_is b q e = ends_leaf (expr_there P) then_some N d k (form_there P) (folds P) op a 0 z h eo ea (sym q ∙ ap arity ef) b true true refl (rw ef at e)

    abbrev here : Bool
    here = expr_there P (tree_of (tree_at N (d - 1) (k + 1)))

    abbrev next : ℕ
    next = after_of (tree_at N (d - 1) (k + 1))

    with_one_lem : (j : Bool) → arity f ≡ 1 → j ≡ form_there P f a here true → then_some j next ≡ there_at P N d k
    unfolding there_at
    with_one_lem j q e = ends_one (expr_there P) then_some N d k (form_there P) (folds P) op a 1 z h eo ea (sym q ∙ ap arity ef) j here true next refl refl refl (rw ef at e)

    pub one_not : arity f ≡ 1 → false ≡ form_there P f a here true → None ≡ there_at P N d k
    one_not q e = with_one_lem false q e

    pub one_is : {x : Option ℕ} → arity f ≡ 1 → here ≡ form_there P f a here true → x ≡ there_at P N (d - 1) (k + 1) → x ≡ there_at P N d k
    unfolding there_at
    one_is q e ex = ex ∙ with_one_lem here q e

    with_two_lem : (i : ℕ) → i ≡ next → (j : Bool) → (arity f ≡ 0 → ⊥) → (arity f ≡ 1 → ⊥) → j ≡ (here && expr_there P (tree_of (tree_at N (d - 1) i))) → then_some j (after_of (tree_at N (d - 1) i)) ≡ there_at P N d k
    unfolding there_at
    with_two_lem i q j z₀ z₁ e =
        ends_two (expr_there P) then_some N d k (form_there P) (folds P) op a (arity f) z h eo ea (ap arity ef) j here (expr_there P (tree_of (tree_at N (d - 1) i))) i (after_of (tree_at N (d - 1) i)) z₀ z₁ refl q refl refl
        (rw ef at (e ∙ sym (two_form P f a here _ z₀ z₁)))

    pub two_none : (arity f ≡ 0 → ⊥) → (arity f ≡ 1 → ⊥) → None ≡ there_at P N (d - 1) (k + 1) → None ≡ there_at P N d k
    two_none z₀ z₁ e = with_two_lem next refl false z₀ z₁ (rw (tree_not P N (d - 1) (k + 1) e) refl)

    pub two_some : {m : ℕ} → (arity f ≡ 0 → ⊥) → (arity f ≡ 1 → ⊥) → Some m ≡ there_at P N (d - 1) (k + 1) → {y : Option ℕ} → y ≡ there_at P N (d - 1) m → y ≡ there_at P N d k
    unfolding there_at
    two_some {m} z₀ z₁ e ey = let w = tree_is P N (d - 1) (k + 1) e in ey ∙ with_two_lem m w.1 (expr_there P (tree_of (tree_at N (d - 1) m))) z₀ z₁ (rw w.0 refl)

-- ---- a line that is no label

-- the number of its kind
kind_of : Way → ℕ
kind_of W.Absent = 0
kind_of W.Set = 1
kind_of W.Put = 2
kind_of W.Goto = 3
kind_of W.If = 4
kind_of W.IfImm = 5
kind_of W.IfTag = 6
kind_of W.IfInt = 7
kind_of W.Return = 8
kind_of W.Label = 9

kinds : (k : ℕ) → kind_of (way_of k) ≡ get_or (tab 10 (λ i. i)) k 0
unfolding way_of tab kind_of
kinds k = sym (get_or-map kind_of (W.Absent ∷ W.Set ∷ W.Put ∷ W.Goto ∷ W.If ∷ W.IfImm ∷ W.IfTag ∷ W.IfInt ∷ W.Return ∷ W.Label ∷ []) k W.Absent)

label_by : (k : ℕ) → Dec (k < 10) → way_of k ≡ W.Label → k ≡ 9
unfolding kind_of
label_by k (yes h) e = sym (tab_in 10 (λ i. i) k 0 h) ∙ sym (kinds k) ∙ ap kind_of e
label_by k (no h) e = let z : ◌≡◌ {A = ℕ} 9 0 = sym (ap kind_of e) ∙ kinds k ∙ get_or-eq_default (tab 10 (λ i. i)) 0 {n = k} (rw (tab_length 10 (λ i. i)) (omega (lin, h))) in absurd (omega lin)

-- what is b of every other statement is b of such a line, by its way and by the number of its kind
module _ (q : Stmt → Bool) (b : Bool) (N : List ℕ) where
  one_by : (f : Expr → Stmt) → ((x : Expr) → q (f x) ≡ b) → (w : Walked) → q (with_one f w) ≡ b
  one_by f h (walked x n) = h x

  two_by : (f : Expr → Expr → Stmt) → ((x y : Expr) → q (f x y) ≡ b) → (w : Walked) → q (with_two N f w) ≡ b
  two_by f h (walked x n) = h x _

  module _ (l v w k : ℕ) (none : q bad_s ≡ b) (set : (x : Expr) → q (set_s v x) ≡ b) (put : (x y : Expr) → q (put_s x (num_code w) y) ≡ b) (goto : q (goto_s l) ≡ b)
      (if : (x : Expr) → q (if_s l x) ≡ b) (ifimm : q (ifimm_s l v) ≡ b) (iftag : q (iftag_s l v (num_code w)) ≡ b) (ifint : q (ifint_s l v (num_code w)) ≡ b)
      (return : (x : Expr) → q (return_s x) ≡ b) where
    pub no_label : (way : Way) → (way ≡ W.Label → ⊥) → q (stmt_of N way l v w k) ≡ b
    unfolding stmt_of
    no_label W.Absent h = none
    no_label W.Set h = one_by (set_s v) set (tree_at N 16 k)
    no_label W.Put h = two_by (λ x y. put_s x (num_code w) y) put (tree_at N 16 k)
    no_label W.Goto h = goto
    no_label W.If h = one_by (if_s l) if (tree_at N 16 k)
    no_label W.IfImm h = ifimm
    no_label W.IfTag h = iftag
    no_label W.IfInt h = ifint
    no_label W.Return h = one_by return_s return (tree_at N 16 k)
    no_label W.Label h = absurd (h refl)

    pub other_kind : (kind : ℕ) → (kind ≡ 9 → ⊥) → q (stmt_of N (way_of kind) l v w k) ≡ b
    other_kind kind h = no_label (way_of kind) (λ e. h (label_by kind (dec_lt kind 10) e))

-- any entries suit it
module _ (P : Prog) (N : List ℕ) (l v w k : ℕ) where
  pub other_line : (way : Way) → (way ≡ W.Label → ⊥) → true ≡ label_suits P (stmt_of N way l v w k)
  other_line way h = sym (no_label (label_suits P) true N l v w k refl (λ x. refl) (λ x y. refl) refl (λ x. refl) refl refl refl (λ x. refl) way h)

-- ---- a line and its parts

pub stored_line : (N B : List ℕ) (i : ℕ) (s : Stored) → s ≡ stored_at B i → stmt_from N B i ≡ stmt_of N (way_of s.kind) s.label s.variable s.word s.node
stored_line N B i s e = rw e (line_view N B i)

module _ (Z N B : List ℕ) (i n : ℕ) (e : n ≡ length (body_from Z N B)) where
  pub line_there : i < n → stmt_from N B i ≡ get_or (body_from Z N B) i bad_s
  line_there h = sym (line_in_lem Z N B i (omega (lin, e, h)))
