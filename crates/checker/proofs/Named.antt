-- What the rules derive names only what exists: so where typing refuses nothing, the names in expressions are there. Assumes nothing.
use lib.Dec.{T, ltb→lt}
use lib.ListN.{get_or-eq_default}
use borrow.Author.Tests.{lt-ltb, ltb-false, eqb-true}
use native.Mathlib.Omega.{arith as lin}
use Rattle.std.specs.Prelude.{◌+◌, ◌≤◌, ◌&&◌, ◌∷◌, ◌++◌, ◌≡◌}
use Rattle.rules.specs.Prelude.{ℕ, Bool, true, false, List, [], map, refl, sym, ap, subst, not, ltb, eqb, length, ℤ, pos, negsuc}
use Rattle.rules.specs.declared.Answer.{Answer}
use Rattle.rules.specs.declared.Entry.{Entry}
use Rattle.rules.specs.declared.Env.{Env}
use Rattle.rules.specs.declared.Kind.{Kind}
use Rattle.rules.specs.declared.Line.{Line}
use Rattle.rules.specs.declared.Psi.{Psi}
use Rattle.rules.specs.declared.Psi.TheVariants.{Inf, Upto}
use Rattle.rules.specs.declared.Tag.{Tag}
use Rattle.rules.specs.Numbers.{among, suits}
use Rattle.rules.specs.declared.Tables.{Tables}
use Rattle.rules.specs.Program.{Prog, Row, Rows, Expr, Stmt, bad_s, set_s, put_s, goto_s, if_s, ifimm_s, iftag_s, ifint_s, return_s, label_s, row_at, psi_of, row_there}
use Rattle.rules.specs.View.{program}
use Rattle.rules.specs.Names.{expr_there, stmt_there, names}
use Rattle.rules.specs.Environments.{with_entry, label_env, start_env, covers_env}
use Rattle.rules.specs.Body.{reached, refuse, goes, line_of, local_line}
use Rattle.rules.specs.Published.{Constant, suited, unlimited, Judges, int_exp, var_exp, aop_exp, val_int_exp, int_val_exp, int_val_unboxed_exp, val_deref_exp, val_deref_boxed_exp, val_add_exp, val_add_boxed_exp, Allows, vset_stmt, lset_stmt, goto_stmt, if_stmt, if_unboxed_stmt, if_sum_tag_stmt, if_int_tag_stmt, ret_stmt, lbl_stmt}
use Rattle.rules.proofs.Laws.Tests.{by_need}
use Rattle.rules.proofs.Laws.Stages.{Each, each_append, Zero, first_exactly, first_plain}
use Rattle.rules.proofs.Exactly.Allows.{statement_accepted}
use Rattle.names.specs.Trees.{stmt_named, Whole, names_in, names_whole, with_trees}
use Rattle.program.specs.Labels.{env_from}
use Rattle.body.specs.Lines.{label_line, line_in, numbers_in, types_in}

-- ---- an absent row has no constants

limited : Psi → Type 0
limited Inf = ⊥
limited (Upto n) = Unit

none_below : (z : ℤ) → T (among z 0) → ⊥
none_below (pos k) h = let x = ltb→lt k 0 h in omega lin
none_below (negsuc k) h = h

no_constant : {ψ : Psi} {t : Tag} → Constant ψ t → ψ ≡ Upto 0 → ⊥
unfolding limited
no_constant (suited {n = n} h) e = none_below n.n (subst (λ (ψ : Psi). T (suits ψ n)) e h)
no_constant unlimited e = subst limited (sym e) tt

absent_psi : (ρ : Rows) (r : ℕ) → length ρ ≤ r → psi_of ρ r ≡ Upto 0
unfolding psi_of row_at
absent_psi ρ r h = ap (λ (x : Row). x.psi) (get_or-eq_default ρ _ {n = r} h)

row_there_lem : (ρ : Rows) (r : ℕ) {t : Tag} → Constant (psi_of ρ r) t → row_there ρ r ≡ true
row_there_lem ρ r c = go (ltb r (length ρ)) refl
  where
    go : (b : Bool) → ltb r (length ρ) ≡ b → b ≡ true
    go true h = refl
    go false h = absurd (no_constant c (absent_psi ρ r (ltb-false r (length ρ) h)))

-- ---- expressions and statements

and_first : (a b : Bool) → (a && b) ≡ true → a ≡ true
and_first true b h = refl
and_first false b h = h

module _ (P : Prog) (Γ : Env) (e : Γ.count ≡ length P.vars) where
  is_there : {x : Expr} {k : Kind} {d : Entry} → Judges P.rows P.vars Γ x k d → expr_there P x ≡ true
  unfolding expr_there
  is_there int_exp = refl
  is_there (var_exp {v} h) = lt-ltb v (length P.vars) (rw e at h)
  is_there (aop_exp p q w) = rw (is_there p, is_there q)
  is_there (val_int_exp {r = r} p c) = rw (row_there_lem P.rows r c, is_there p)
  is_there (int_val_exp p) = is_there p
  is_there (int_val_unboxed_exp p h) = is_there p
  is_there (val_deref_exp p h g) = is_there p
  is_there (val_deref_boxed_exp p a b g) = is_there p
  is_there (val_add_exp p q w h s g) = rw (is_there p, is_there q)
  is_there (val_add_boxed_exp p q w a b g) = rw (is_there p, is_there q)

  -- the names of a line are as many with its trees as without, and the next line has as many variables
  abbrev Kept : Stmt → Env → Type 0
  Kept st Δ = (stmt_named false P st ≡ stmt_there P st) × (Δ.count ≡ length P.vars)

  allowed_kept : {st : Stmt} {b : Bool} {Δ : Env} → Allows P Γ st b Δ → Kept st Δ
  unfolding stmt_named stmt_there expr_there with_entry label_env
  allowed_kept (vset_stmt p h) = (rw (is_there p), e)
  allowed_kept (lset_stmt {x} p q h) = (rw (and_first (expr_there P x) true (is_there p), is_there q), e)
  allowed_kept (goto_stmt j) = (refl, e)
  allowed_kept (if_stmt p j) = (rw (is_there p), e)
  allowed_kept (if_unboxed_stmt p j) = (refl, e)
  allowed_kept (if_sum_tag_stmt p h j) = (refl, e)
  allowed_kept (if_int_tag_stmt p h j) = (refl, e)
  allowed_kept (ret_stmt p h) = (rw (is_there p), e)
  allowed_kept (lbl_stmt h) = (refl, refl)

-- ---- lines

module _ (t : Tables) where
  abbrev P : Prog
  P = program t

  abbrev Sized : Env → Type 0
  Sized Γ = Γ.count ≡ length P.vars

  -- a line that is refused nothing is reached, and allowed
  if_reached : (Γ : Env) (e : Sized Γ) (st : Stmt) (b : Bool) (x : Line) → line_of P true Γ st ≡ x → Zero (reached b Γ x).answer → Kept P Γ e st (reached b Γ x).env
  if_reached Γ e st true x q z = allowed_kept P Γ e (rw q at ((statement_accepted P Γ st).0 (rw (sym q) at z)))
  if_reached Γ e st false x q z = absurd (omega lin)

  label_sized : (Γ Δ : Env) (b : Bool) → Sized Γ → Sized Δ → Sized (label_line Δ b Γ).env
  unfolding label_line
  label_sized Γ Δ true e d = by_need (λ (x : Line). Sized x.env) (refuse 11 Γ) (covers_env Δ Γ) (goes true Δ) e (λ h. d)
  label_sized Γ Δ false e d = d

  line_kept : (b : Bool) (Γ : Env) (e : Sized Γ) (st : Stmt) → Zero (line_in t b Γ st).answer → Kept P Γ e st (line_in t b Γ st).env
  unfolding line_in line_of stmt_named stmt_there env_from program
  line_kept b Γ e bad_s z = absurd (omega lin)
  line_kept b Γ e (set_s v x) z = if_reached Γ e (set_s v x) b _ refl z
  line_kept b Γ e (put_s x n y) z = if_reached Γ e (put_s x n y) b _ refl z
  line_kept b Γ e (goto_s l) z = if_reached Γ e (goto_s l) b _ refl z
  line_kept b Γ e (if_s l x) z = if_reached Γ e (if_s l x) b _ refl z
  line_kept b Γ e (ifimm_s l v) z = if_reached Γ e (ifimm_s l v) b _ refl z
  line_kept b Γ e (iftag_s l v n) z = if_reached Γ e (iftag_s l v n) b _ refl z
  line_kept b Γ e (ifint_s l v n) z = if_reached Γ e (ifint_s l v n) b _ refl z
  line_kept b Γ e (return_s x) z = if_reached Γ e (return_s x) b _ refl z
  line_kept b Γ e (label_s l) z = (refl, label_sized Γ (env_from t.labels l (length P.vars)) b e refl)

  body_kept : (body : List Stmt) (b : Bool) (Γ : Env) → Sized Γ → Each Zero (numbers_in t body b Γ) → Whole false P body
  unfolding numbers_in
  body_kept [] b Γ e h = tt
  body_kept (st ∷ body) b Γ e h = let k = line_kept b Γ e st h.0 in (k.0, body_kept body _ _ k.1 h.1)

  abbrev declared : List ℕ
  declared = map (local_line P.rows) P.vars

  without_trees : (types_in t).number ≡ 0 → names_in false P ≡ names P
  unfolding types_in program start_env
  without_trees z =
      let numbers = numbers_in t P.body true (start_env P.vars) in
      let line = 2 + length P.rows in
      let all = (first_exactly line (declared ++ numbers)).0 (first_plain line (declared ++ numbers) z) in
      names_whole false P (body_kept P.body true (start_env P.vars) refl ((each_append Zero declared numbers).0 all).1)

  -- the trees are looked at where a line is refused
  pub names_by : (a : Answer) → a ≡ types_in t → names_in (not (eqb a.number 0)) P ≡ names P
  names_by a e = go (eqb a.number 0) refl
    where
      go : (c : Bool) → eqb a.number 0 ≡ c → names_in (not c) P ≡ names P
      go true h = without_trees (subst (λ (b : Answer). b.number ≡ 0) e (eqb-true a.number 0 h))
      go false h = with_trees P
