-- Where no line names a label that is absent, as in every program whose names are accepted, the lines are judged as the rules say;
-- so a check in which the names come first answers as the rules do for all tables. Assumes nothing.
use Rattle.std.specs.Prelude.{T}
use borrow.Author.Tests.{ltb-true, eqb-true}
use Rattle.std.proofs.Common.{arith as lin}
use Rattle.std.specs.Prelude.{◌+◌, ◌<◌, ◌∷◌, ◌++◌, ◌≡◌}
use Rattle.rules.specs.Prelude.{ℕ, Bool, true, false, List, [], map, refl, ap, ltb, length}
use Rattle.rules.specs.declared.Env.{Env}
use Rattle.rules.specs.Answers.{accepted, passes, and_then, first}
use Rattle.rules.specs.declared.Tables.{Tables}
use Rattle.rules.specs.Program.{Stmt, bad_s, set_s, put_s, goto_s, if_s, ifimm_s, iftag_s, ifint_s, return_s, label_s, Prog, label_there}
use Rattle.rules.specs.View.{program}
use Rattle.rules.specs.Names.{stmt_there, name_row, name_var, name_stmt, names}
use Rattle.rules.specs.Environments.{covers_env, covers, label_env, start_env}
use Rattle.rules.specs.Body.{rule_label, line_of, local_line, body_numbers, types, ends}
use Rattle.rules.specs.Check.{check}
use Rattle.rules.proofs.Laws.Tests.{held, and_both}
use Rattle.rules.proofs.Laws.Stages.{Each, each_append, each_map, Zero, need_exactly, first_exactly, first_plain}
use Rattle.program.specs.Labels.{env_from}
use Rattle.program.proofs.Laws.{label_env_lem}
use Rattle.body.specs.Lines.{label_line, line_in, numbers_in, types_in}

module _ (t : Tables) where
  label_is : (b : Bool) (Γ : Env) (l : ℕ) → l < length (program t).labels → label_line (env_from t.labels l (length (program t).vars)) b Γ ≡ rule_label (program t) l b Γ
  unfolding label_line rule_label covers_env covers label_env
  label_is true Γ l h = rw (label_env_lem t l h)
  label_is false Γ l h = rw (label_env_lem t l h)

  label_there_lem : (l : ℕ) → T (label_there (program t) l) → l < length (program t).labels
  unfolding label_there
  label_there_lem l h = ltb-true _ _ (held _ (and_both (ltb l (length (program t).labels)) _ h).0)

  pub line_is : (b : Bool) (Γ : Env) (st : Stmt) → T (stmt_there (program t) st) → line_in t b Γ st ≡ line_of (program t) b Γ st
  unfolding line_in line_of stmt_there program
  line_is b Γ bad_s h = refl
  line_is b Γ (set_s v x) h = refl
  line_is b Γ (put_s x n y) h = refl
  line_is b Γ (goto_s l) h = refl
  line_is b Γ (if_s l x) h = refl
  line_is b Γ (ifimm_s l v) h = refl
  line_is b Γ (iftag_s l v n) h = refl
  line_is b Γ (ifint_s l v n) h = refl
  line_is b Γ (return_s x) h = refl
  line_is b Γ (label_s l) h = label_is b Γ l (label_there_lem l h)

  numbers_is : (body : List Stmt) → Each (λ st. T (stmt_there (program t) st)) body → (b : Bool) (Γ : Env) → numbers_in t body b Γ ≡ body_numbers (program t) body b Γ
  unfolding numbers_in body_numbers
  numbers_is [] h b Γ = refl
  numbers_is (st ∷ body) h b Γ =
      let x = line_of (program t) b Γ st in
      rw (line_is b Γ st h.0) (ap (λ (l : List ℕ). x.answer ∷ l) (numbers_is body h.1 x.live x.env))

-- names that are accepted are there, line by line
there_each : (P : Prog) (body : List Stmt) → Each (λ st. Zero (name_stmt P st)) body → Each (λ st. T (stmt_there P st)) body
unfolding name_stmt
there_each P [] h = tt
there_each P (st ∷ body) h = (((need_exactly 4 (stmt_there P st) _ (omega lin)).0 h.0).0, there_each P body h.1)

stmts_there : (P : Prog) → names P ≡ accepted → Each (λ st. T (stmt_there P st)) P.body
unfolding names
stmts_there P h =
    let later = ((each_append Zero (map (name_row P) P.rows) _).0 ((first_exactly 1 _).0 h).1).1 in
    there_each P P.body ((each_map Zero (name_stmt P) P.body).0 ((each_append Zero (map (name_var P) P.vars) _).0 later).1)

pub types_is : (t : Tables) → names (program t) ≡ accepted → types_in t ≡ types (program t)
unfolding types_in types program
types_is t h =
    ap (λ (l : List ℕ). first (2 + length (program t).rows) (map (local_line (program t).rows) (program t).vars ++ l))
    (numbers_is t (program t).body (stmts_there (program t) h) true (start_env (program t).vars))

plain : (P : Prog) → passes (names P) ≡ true → names P ≡ accepted
unfolding names
plain P q = first_plain 1 _ (eqb-true _ 0 q)

check_by : (t : Tables) (c : Bool) → passes (names (program t)) ≡ c → and_then (names (program t)) (λ _. and_then (types_in t) (λ _. ends (program t))) ≡ check (program t)
unfolding check
check_by t true q = rw (types_is t (plain (program t) q))
check_by t false q = rw q

pub check_is : (t : Tables) → and_then (names (program t)) (λ _. and_then (types_in t) (λ _. ends (program t))) ≡ check (program t)
check_is t = check_by t (passes (names (program t))) refl
