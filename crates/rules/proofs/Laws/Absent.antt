-- The machine: a line of which a table names something absent, or nests past 16, is stuck. Assumes nothing.
use Rattle.std.specs.Prelude.{T}
use Rattle.std.proofs.Math.ListN.{get_or-eq_default}
use borrow.Author.Tests.{ltb-false}
use Rattle.std.proofs.Common.{arith as lin}
use Rattle.std.specs.Prelude.{◌≤◌, ◌&&◌, ◌≡◌, ◌+ℤ◌}
use Rattle.rules.specs.Machine.{Given}
use Rattle.rules.specs.Prelude.{ℕ, Bool, true, false, not, List, refl, ltb, eqb, pos, length, Num, Op, Int, Imm, Place, None, Some, Act}
use Rattle.rules.specs.Prelude.D
use Rattle.rules.specs.When.{need}
use Rattle.rules.specs.Numbers.{same_num, zero_n, eq_z}
use Rattle.rules.specs.Program.{Rows, Expr, bad, var, arith, val, int, fetch, step, Stmt, bad_s, set_s, put_s, goto_s, if_s, ifimm_s, iftag_s, ifint_s, return_s, label_s, Prog, row_there, var_there, label_there}
use Rattle.rules.specs.Names.{expr_there, stmt_there}
use Rattle.rules.specs.Machine.{Store, ev_var, ev_arith, ev_val, ev_int, ev_fetch, ev_step, eval, jump_on, store_at, need_place, moved, act_set, act_put, act_if, act_ifimm, act_iftag, act_ifint, act, tag_in}

-- ---- forms whose operand is stuck are stuck

arith_first : (o : Op) (y : Given) → ev_arith o None y ≡ None
unfolding ev_arith
arith_first o y = refl

step_first : (s : Store) (y : Given) → ev_step s None y ≡ None
unfolding ev_step
step_first s y = refl

put_first : (s : Store) (m : Num) (y : Given) → act_put s m None y ≡ D.Stuck
unfolding act_put
put_first s m y = refl

arith_second : (o : Op) (x : Given) → ev_arith o x None ≡ None
unfolding ev_arith
arith_second o None = refl
arith_second o (Some (Int n)) = refl
arith_second o (Some (Imm n)) = refl
arith_second o (Some (Place b i)) = refl

step_second : (s : Store) (x : Given) → ev_step s x None ≡ None
unfolding ev_step
step_second s None = refl
step_second s (Some (Int n)) = refl
step_second s (Some (Imm n)) = refl
step_second s (Some (Place b i)) = refl

put_second : (s : Store) (m : Num) (x : Given) → act_put s m x None ≡ D.Stuck
unfolding act_put
put_second s m None = refl
put_second s m (Some (Int n)) = refl
put_second s m (Some (Imm n)) = refl
put_second s m (Some (Place b o)) = go (moved s b (pos o +ℤ m.n))
  where
    go : (g : Given) → need_place D.Stuck g (λ c i. store_at c i None) ≡ D.Stuck
    go None = refl
    go (Some (Int n)) = refl
    go (Some (Imm n)) = refl
    go (Some (Place c i)) = refl

-- a form of two operands, the first or the second of which is absent
either : {A : Type 0} (f : Given → Given → A) (stuck : A) (c d : Bool) (x y : Given) → ((y : Given) → f None y ≡ stuck) → ((x : Given) → f x None ≡ stuck)
    → (T (not c) → x ≡ None) → (T (not d) → y ≡ None) → T (not (c && d)) → f x y ≡ stuck
either f stuck false d x y l r p q h = rw (p tt) (l y)
either f stuck true false x y l r p q h = rw (q tt) (r x)
either {A = A} f stuck true true x y l r p q h = elim h [ ]

row_first : (ρ : Rows) (r : ℕ) (x : Given) (c : Bool) → row_there ρ r ≡ c → T (not c) → ev_val ρ r x ≡ None
unfolding ev_val
row_first ρ r None false e h = refl
row_first ρ r (Some (Int n)) false e h = rw e
row_first ρ r (Some (Imm n)) false e h = refl
row_first ρ r (Some (Place b o)) false e h = refl
row_first ρ r None true e h = elim h [ ]
row_first ρ r (Some (Int n)) true e h = elim h [ ]
row_first ρ r (Some (Imm n)) true e h = elim h [ ]
row_first ρ r (Some (Place b o)) true e h = elim h [ ]

same_either : (c : Bool) → need D.Stuck c D.Stuck ≡ D.Stuck
same_either true = refl
same_either false = refl

module _ (P : Prog) (s : Store) (δ : List Given) (size : length δ ≡ length P.vars) where
  var_absent : (v : ℕ) (c : Bool) → var_there P.vars v ≡ c → T (not c) → ev_var δ v ≡ None
  unfolding ev_var
  var_absent v false e h = let x : length P.vars ≤ v = ltb-false v (length P.vars) e in get_or-eq_default δ None (omega lin)
  var_absent v true e h = elim h [ ]

  val_absent : (r : ℕ) (x : Given) (c d : Bool) → row_there P.rows r ≡ c → (T (not d) → x ≡ None) → T (not (c && d)) → ev_val P.rows r x ≡ None
  unfolding ev_val
  val_absent r x false d e q h = row_first P.rows r x false e tt
  val_absent r x true false e q h = rw (q tt)
  val_absent r x true true e q h = elim h [ ]

  pub expr_absent : (x : Expr) → T (not (expr_there P x)) → eval P.rows s δ x ≡ None
  unfolding eval expr_there ev_int ev_fetch
  expr_absent bad h = refl
  expr_absent (var v) h = var_absent v (var_there P.vars v) refl h
  expr_absent (arith o x y) h = either (ev_arith o) None (expr_there P x) (expr_there P y) (eval P.rows s δ x) (eval P.rows s δ y) (arith_first o) (arith_second o) (expr_absent x) (expr_absent y) h
  expr_absent (val r x) h = val_absent r (eval P.rows s δ x) (row_there P.rows r) (expr_there P x) refl (expr_absent x) h
  expr_absent (int x) h = rw (expr_absent x h)
  expr_absent (fetch x) h = rw (expr_absent x h)
  expr_absent (step x y) h = either (ev_step s) None (expr_there P x) (expr_there P y) (eval P.rows s δ x) (eval P.rows s δ y) (step_first s) (step_second s) (expr_absent x) (expr_absent y) h
  expr_absent (Rattle.rules.specs.Program.lit _) h = elim h [ ]

  jump_absent : (l : ℕ) (b c : Bool) → label_there P l ≡ c → T (not c) → jump_on P l b ≡ D.Stuck
  unfolding jump_on
  jump_absent l b false e h = rw e
  jump_absent l b true e h = elim h [ ]

  -- ---- lines: stuck where a name is absent, and where an operand is

  set_absent : (v : ℕ) (x : Given) (c : Bool) → var_there P.vars v ≡ c → T (not c) → act_set δ v x ≡ D.Stuck
  unfolding act_set
  set_absent v None false e h = refl
  set_absent v (Some g) false e h = rw (size, e)
  set_absent v None true e h = elim h [ ]
  set_absent v (Some g) true e h = elim h [ ]

  none_set : (v : ℕ) → act_set δ v None ≡ D.Stuck
  unfolding act_set
  none_set v = refl

  if_absent : (l : ℕ) (x : Given) → T (not (label_there P l)) → act_if P l x ≡ D.Stuck
  unfolding act_if
  if_absent l None h = refl
  if_absent l (Some (Int n)) h = jump_absent l (not (same_num n zero_n)) (label_there P l) refl h
  if_absent l (Some (Imm n)) h = refl
  if_absent l (Some (Place b o)) h = refl

  ifimm_absent : (l : ℕ) (x : Given) → T (not (label_there P l)) → act_ifimm P l x ≡ D.Stuck
  unfolding act_ifimm
  ifimm_absent l None h = refl
  ifimm_absent l (Some (Int n)) h = refl
  ifimm_absent l (Some (Imm n)) h = jump_absent l true (label_there P l) refl h
  ifimm_absent l (Some (Place b o)) h = jump_absent l false (label_there P l) refl h

  iftag_absent : (l : ℕ) (n : Num) (x : Given) → T (not (label_there P l)) → act_iftag P s l n x ≡ D.Stuck
  unfolding act_iftag
  iftag_absent l n None h = refl
  iftag_absent l n (Some (Int m)) h = refl
  iftag_absent l n (Some (Imm m)) h = refl
  iftag_absent l n (Some (Place b o)) h = rw (jump_absent l (eq_z (pos (tag_in s b)) n.n) (label_there P l) refl h) (same_either (eqb o 0 && ltb b (length s)))

  ifint_absent : (l : ℕ) (n : Num) (x : Given) → T (not (label_there P l)) → act_ifint P l n x ≡ D.Stuck
  unfolding act_ifint
  ifint_absent l n None h = refl
  ifint_absent l n (Some (Int m)) h = refl
  ifint_absent l n (Some (Imm m)) h = jump_absent l (same_num m n) (label_there P l) refl h
  ifint_absent l n (Some (Place b o)) h = refl

  none_if : (l : ℕ) → act_if P l None ≡ D.Stuck
  unfolding act_if
  none_if l = refl

  none_ifimm : (l : ℕ) → act_ifimm P l None ≡ D.Stuck
  unfolding act_ifimm
  none_ifimm l = refl

  none_iftag : (l : ℕ) (n : Num) → act_iftag P s l n None ≡ D.Stuck
  unfolding act_iftag
  none_iftag l n = refl

  none_ifint : (l : ℕ) (n : Num) → act_ifint P l n None ≡ D.Stuck
  unfolding act_ifint
  none_ifint l n = refl

  -- a line that names something and has an operand
  on_operand : (f : Given → Act) (c d : Bool) (x : Given) → ((x : Given) → T (not c) → f x ≡ D.Stuck) → f None ≡ D.Stuck → (T (not d) → x ≡ None) → T (not (c && d)) → f x ≡ D.Stuck
  on_operand f false d x l e q h = l x tt
  on_operand f true false x l e q h = rw (q tt) e
  on_operand f true true x l e q h = elim h [ ]

  -- a table names something absent, or nests past 16
  pub absent_stuck : (st : Stmt) → T (not (stmt_there P st)) → act P s δ st ≡ D.Stuck
  unfolding act stmt_there
  absent_stuck bad_s h = refl
  absent_stuck (set_s v x) h = on_operand (act_set δ v) (var_there P.vars v) (expr_there P x) (eval P.rows s δ x) (λ y. set_absent v y (var_there P.vars v) refl) (none_set v) (expr_absent x) h
  absent_stuck (put_s x n y) h = either (act_put s n) D.Stuck (expr_there P x) (expr_there P y) (eval P.rows s δ x) (eval P.rows s δ y) (put_first s n) (put_second s n) (expr_absent x) (expr_absent y) h
  absent_stuck (goto_s l) h = jump_absent l true (label_there P l) refl h
  absent_stuck (if_s l x) h = on_operand (act_if P l) (label_there P l) (expr_there P x) (eval P.rows s δ x) (if_absent l) (none_if l) (expr_absent x) h
  absent_stuck (ifimm_s l v) h = on_operand (act_ifimm P l) (label_there P l) (var_there P.vars v) (ev_var δ v) (ifimm_absent l) (none_ifimm l) (var_absent v (var_there P.vars v) refl) h
  absent_stuck (iftag_s l v n) h = on_operand (act_iftag P s l n) (label_there P l) (var_there P.vars v) (ev_var δ v) (iftag_absent l n) (none_iftag l n) (var_absent v (var_there P.vars v) refl) h
  absent_stuck (ifint_s l v n) h = on_operand (act_ifint P l n) (label_there P l) (var_there P.vars v) (ev_var δ v) (ifint_absent l n) (none_ifint l n) (var_absent v (var_there P.vars v) refl) h
  absent_stuck (return_s x) h = rw (expr_absent x h)
  absent_stuck (label_s l) h = jump_absent l false (label_there P l) refl h
