-- Labels that are there, a body line by the number of its kind, the loops over the lines, and the last line, in the words of the tables. Assumes nothing.
use mathlib.Core.Path.{◌≡◌, refl, sym, ap, subst, ◌∙◌}
use Rattle.rules.specs.declared.Way.{Way}
use Rattle.rules.specs.declared.Way.TheVariants as W
use mathlib.Core.Bool.{Bool, true, false}
use mathlib.Core.List.{List, [], ◌∷◌, map}
use Prim.Native.Nat.{ℕ, suc, ◌+◌, ◌-◌, ◌<◌, ◌≤◌}
use native.Mathlib.Omega.{arith as lin}
use lib.ListN.{length, get_or, drop, length-map, drop_of_length-le}
use lib.Seq.{set_out}
use borrow.Author.Tests.{ne_eqb}
use Rattle.rules.specs.declared.Env.{Env}
use Rattle.rules.specs.declared.Entry.{Entry}
use Rattle.rules.specs.declared.Line.{Line}
use Rattle.rules.specs.declared.Answer.{Answer}
use Rattle.rules.specs.When.{when}
use Rattle.rules.specs.Answers.{answer, accepted, passes, first, outcome}
use Rattle.rules.specs.Numbers.{num_code}
use Rattle.rules.specs.declared.Tables.{Tables}
use Rattle.rules.proofs.Laws.Lists.{tab_length}
use Rattle.rules.specs.Program.{Stmt, bad_s}
use Rattle.rules.specs.View.{tab, tree_at, way_of, stmt_of, stmt_from, kind_code, rows_from, vars_from, labels_from, body_from, program}
use Rattle.rules.specs.Typing.{ty_var}
use Rattle.rules.specs.Environments.{covers_env, covers, with_entry, start_env}
use Rattle.rules.specs.Body.{refuse, rule_set, rule_put, rule_goto, rule_if, rule_ifimm, rule_iftag, rule_ifint, rule_return, reached, line_of, local_line, last_of, is_end}
use Rattle.table.proofs.Passes.{first_append}
use Rattle.program.specs.declared.Stored.{Stored}
use Rattle.coded.specs.Coded.{entry_in, env_of}
use Rattle.program.specs.Lines.{stored_at}
use Rattle.program.specs.Labels.{env_from}
use Rattle.program.specs.Nodes.{after_of}
use Rattle.program.proofs.Laws.{env_in, line_view, line_in_lem, line_drop}
use Rattle.program.proofs.Walk.{with_one_lem, with_two_lem}
use Rattle.std.specs.Prelude.{Result, Ok, Err}
use Rattle.std.specs.Result.{MatchResult, is_ok}
use Rattle.typing.specs.Walk.{Told}
use Rattle.body.specs.declared.Then.{Then}
use Rattle.body.specs.Lines.{judged_at, line_by, label_line, line_in, line_at, numbers_in, locals_in, lines_in, types_in}

-- ---- labels

-- covering looks at the label's entries alone
pub env_covers : (Z L : List ℕ) (l n : ℕ) (Γ : Env) → l < length (labels_from Z L) → covers_env (env_from L l n) Γ ≡ covers (labels_from Z L) l Γ
unfolding covers covers_env
env_covers Z L l n Γ h = ap (λ (Δ : Env). covers_env Δ Γ) (env_in Z L l n h)

-- ---- an environment beside its numbers

module _ (Γ : Env) (C : List ℕ) (n : ℕ) (e : Γ ≡ env_of C n) where
  pub own_count : Γ ≡ env_of C Γ.count
  unfolding env_of
  own_count = e ∙ ap (env_of C) (sym (ap (λ (x : Env). x.count) e))

  module _ (v : ℕ) (x : Entry) (C' : List ℕ) (p : env_of C' n ≡ with_entry (env_of C n) v x) where
    pub takes_in : with_entry Γ v x ≡ env_of C' n
    takes_in = ap (λ (Δ : Env). with_entry Δ v x) e ∙ sym p

    -- a variable past the last takes no entry
    pub takes_past : 32 ≤ v → Γ ≡ with_entry Γ v x
    unfolding with_entry env_of
    takes_past h = rw e (sym (rw (set_out (tab 32 (entry_in C)) v x (rw (tab_length 32 (entry_in C)) h))))

-- ---- the line by its kind

module _ (t : Tables) (b : Bool) (Γ : Env) (i : ℕ) (s : Stored) (e : s ≡ stored_at t.body i) where
  abbrev line : Line
  line = line_at t b Γ i

  by_way : (w : Way) → w ≡ way_of s.kind → line ≡ line_in t b Γ (stmt_of t.nodes w s.label s.variable s.word s.node)
  unfolding line_at
  by_way w q = rw (line_view t.nodes t.body i, sym e, sym q)

  pub set_line : W.Set ≡ way_of s.kind → line ≡ reached b Γ (rule_set (vars_from t.size t.vars) s.variable (judged_at t Γ s.node) Γ)
  unfolding stmt_of line_in line_of program
  set_line q = by_way W.Set q ∙ rw (with_one_lem (Stmt.set_s s.variable) (tree_at t.nodes 16 s.node))

  pub put_line_lem : W.Put ≡ way_of s.kind → line ≡ reached b Γ (rule_put (rows_from t.size t.rows) (num_code s.word) (judged_at t Γ s.node) (judged_at t Γ (after_of (tree_at t.nodes 16 s.node))) Γ)
  unfolding stmt_of line_in line_of program
  put_line_lem q = by_way W.Put q ∙ rw (with_two_lem t.nodes (λ x y. Stmt.put_s x (num_code s.word) y) (tree_at t.nodes 16 s.node))

  pub goto_line : W.Goto ≡ way_of s.kind → line ≡ reached b Γ (rule_goto (labels_from t.size t.labels) s.label Γ)
  unfolding stmt_of line_in line_of program
  goto_line q = by_way W.Goto q

  pub if_line : W.If ≡ way_of s.kind → line ≡ reached b Γ (rule_if (labels_from t.size t.labels) s.label (judged_at t Γ s.node) Γ)
  unfolding stmt_of line_in line_of program
  if_line q = by_way W.If q ∙ rw (with_one_lem (Stmt.if_s s.label) (tree_at t.nodes 16 s.node))

  pub ifimm_line : W.IfImm ≡ way_of s.kind → line ≡ reached b Γ (rule_ifimm (labels_from t.size t.labels) s.label s.variable (ty_var (vars_from t.size t.vars) Γ s.variable) Γ)
  unfolding stmt_of line_in line_of program
  ifimm_line q = by_way W.IfImm q

  pub iftag_line : W.IfTag ≡ way_of s.kind → line ≡ reached b Γ (rule_iftag (rows_from t.size t.rows) (labels_from t.size t.labels) s.label s.variable (num_code s.word) (ty_var (vars_from t.size t.vars) Γ s.variable) Γ)
  unfolding stmt_of line_in line_of program
  iftag_line q = by_way W.IfTag q

  pub ifint_line : W.IfInt ≡ way_of s.kind → line ≡ reached b Γ (rule_ifint (rows_from t.size t.rows) (labels_from t.size t.labels) s.label s.variable (num_code s.word) (ty_var (vars_from t.size t.vars) Γ s.variable) Γ)
  unfolding stmt_of line_in line_of program
  ifint_line q = by_way W.IfInt q

  pub return_line : W.Return ≡ way_of s.kind → line ≡ reached b Γ (rule_return (kind_code (get_or t.size 0 0)) (judged_at t Γ s.node) Γ)
  unfolding stmt_of line_in line_of program
  return_line q = by_way W.Return q ∙ rw (with_one_lem Stmt.return_s (tree_at t.nodes 16 s.node))

  pub label_line_lem : W.Label ≡ way_of s.kind → line ≡ label_line (env_from t.labels s.label (length (vars_from t.size t.vars))) b Γ
  unfolding stmt_of line_in
  label_line_lem q = by_way W.Label q

  pub no_line : W.Absent ≡ way_of s.kind → line ≡ refuse 4 Γ
  unfolding stmt_of line_in line_of
  no_line q = by_way W.Absent q

-- ---- a stage, line by line

first_on : (line a : ℕ) (l : List ℕ) → a ≡ 0 → first line (a ∷ l) ≡ first (line + 1) l
unfolding first
first_on line a l z = rw z

first_no : (line a : ℕ) (l : List ℕ) → (a ≡ 0 → ⊥) → first line (a ∷ l) ≡ answer a line
unfolding first
first_no line a l z = rw (ne_eqb a 0 z)

first_none : (from : ℕ) → first from [] ≡ accepted
unfolding first
first_none from = refl

pub locals_start : (Z R D : List ℕ) (r : ℕ) → r ≡ length (rows_from Z R) →
    first (2 + r + 0) (map (local_line (rows_from Z R)) (drop 0 (vars_from Z D))) ≡ first (2 + length (rows_from Z R)) (map (local_line (rows_from Z R)) (vars_from Z D))
locals_start Z R D r e = let q : 2 + r + 0 ≡ 2 + length (rows_from Z R) = omega (lin, e) in rw q

-- what a loop over the body lines has left
module _ (t : Tables) (from i : ℕ) (b : Bool) (Γ : Env) where
  abbrev pub ahead : Answer
  ahead = first (from + i) (numbers_in t (drop i (body_from t.size t.nodes t.body)) b Γ)

module _ (t : Tables) (from i : ℕ) (b : Bool) (Γ : Env) where
  pub ahead_end : length (body_from t.size t.nodes t.body) ≤ i → ahead t from i b Γ ≡ accepted
  unfolding numbers_in
  ahead_end h = rw (drop_of_length-le (body_from t.size t.nodes t.body) {i = i} h) (first_none (from + i))

  module _ (x : Line) (h : i < length (body_from t.size t.nodes t.body)) (e : x ≡ line_at t b Γ i) where
    ahead_is : numbers_in t (drop i (body_from t.size t.nodes t.body)) b Γ ≡ x.answer ∷ numbers_in t (drop (i + 1) (body_from t.size t.nodes t.body)) x.live x.env
    unfolding numbers_in line_at
    ahead_is = rw (line_drop t.size t.nodes t.body i h, e)

    pub ahead_on : x.answer ≡ 0 → ahead t from i b Γ ≡ ahead t from (i + 1) x.live x.env
    ahead_on z = let q : from + (i + 1) ≡ from + i + 1 = omega lin in rw (ahead_is, q) (first_on (from + i) x.answer _ z)

    pub ahead_no : (x.answer ≡ 0 → ⊥) → ahead t from i b Γ ≡ answer x.answer (from + i)
    ahead_no z = rw ahead_is (first_no (from + i) x.answer _ z)

pub err_of : {A : Type 0} (x : Result A ℕ) (P : A → Type 0) (Q : ℕ → Type 0) → MatchResult x P Q → false ≡ is_ok x → (n : ℕ) × (x ≡ Err n) × Q n
err_of (Err n) P Q m e = (n, refl, m)
err_of (Ok y) P Q m e = let z : ◌≡◌ {A = ℕ} 0 1 = cc in absurd (omega lin)

-- a line that refuses
pub ahead_refused : (t : Tables) (from i : ℕ) (b : Bool) (Γ : Env) (m n : ℕ) (x : Result Then ℕ) → x ≡ Err n → Told x → i < length (body_from t.size t.nodes t.body) →
    line_by t.labels m Γ x ≡ line_at t b Γ i → ahead t from i b Γ ≡ lines_in t → Err (answer n (from + i)) ≡ outcome (lines_in t)
ahead_refused t from i b Γ m n x q k h e p =
    let z : 0 < n = subst Told q k in
    let w : n ≡ 0 → ⊥ = λ y. omega (lin, y, z) in
    let l : line_by t.labels m Γ (Err n) ≡ line_at t b Γ i = subst (λ (y : Result Then ℕ). line_by t.labels m Γ y ≡ line_at t b Γ i) q e in
    rw (sym p ∙ ahead_no t from i b Γ (refuse n Γ) h l w, ne_eqb n 0 w) refl

pub lines_start : (t : Tables) (r v : ℕ) (Γ : Env) → r ≡ length (rows_from t.size t.rows) → v ≡ length (vars_from t.size t.vars) → Γ ≡ start_env (vars_from t.size t.vars) →
    ahead t (2 + r + v) 0 true Γ ≡ lines_in t
unfolding lines_in
lines_start t r v Γ er ev eg =
    let q : 2 + r + v + 0 ≡ 2 + length (rows_from t.size t.rows) + length (vars_from t.size t.vars) = omega (lin, er, ev) in
    rw (q, eg)

-- ---- one stage of lines, then the next

pub types_parts : (t : Tables) → types_in t ≡ when (passes (locals_in t)) (λ _. lines_in t) (λ _. locals_in t)
unfolding types_in locals_in lines_in
types_parts t =
    let f = local_line (rows_from t.size t.rows) in
    first_append (2 + length (rows_from t.size t.rows)) (map f (vars_from t.size t.vars)) (numbers_in t (body_from t.size t.nodes t.body) true (start_env (vars_from t.size t.vars)))
    ∙ rw (length-map (vars_from t.size t.vars) f)

-- ---- the last line

abbrev stops : Way → Bool
stops W.Absent = false
stops W.Set = false
stops W.Put = false
stops W.Goto = true
stops W.If = false
stops W.IfImm = false
stops W.IfTag = false
stops W.IfInt = false
stops W.Return = true
stops W.Label = false

end_way : (N : List ℕ) (w : Way) (l v x k : ℕ) → is_end (stmt_of N w l v x k) ≡ stops w
unfolding stmt_of
end_way N W.Absent l v x k = refl
end_way N W.Set l v x k = rw (with_one_lem (Stmt.set_s v) (tree_at N 16 k))
end_way N W.Put l v x k = rw (with_two_lem N (λ y z. Stmt.put_s y (num_code x) z) (tree_at N 16 k))
end_way N W.Goto l v x k = refl
end_way N W.If l v x k = rw (with_one_lem (Stmt.if_s l) (tree_at N 16 k))
end_way N W.IfImm l v x k = refl
end_way N W.IfTag l v x k = refl
end_way N W.IfInt l v x k = refl
end_way N W.Return l v x k = rw (with_one_lem Stmt.return_s (tree_at N 16 k))
end_way N W.Label l v x k = refl

pub end_line : (N B : List ℕ) (i : ℕ) (s : Stored) → s ≡ stored_at B i → (w : Way) → w ≡ way_of s.kind → is_end (stmt_from N B i) ≡ stops w
end_line N B i s e w q = rw (line_view N B i, sym e, sym q) (end_way N w s.label s.variable s.word s.node)

last_at : (l : List Stmt) → 0 < length l → last_of l ≡ get_or l (length l - 1) bad_s
unfolding last_of
last_at [] h = absurd (omega lin)
last_at (st ∷ []) h = refl
last_at (st ∷ next ∷ l) h = let p : suc (suc (length l)) - 1 ≡ suc (suc (length l) - 1) = omega lin in rw p (last_at (next ∷ l) (omega lin))

pub last_is : (Z N B : List ℕ) (n : ℕ) → n ≡ length (body_from Z N B) → 0 < n → last_of (body_from Z N B) ≡ stmt_from N B (n - 1)
last_is Z N B n e h =
    let p : 0 < length (body_from Z N B) = omega (lin, e, h) in
    rw e (last_at (body_from Z N B) p ∙ line_in_lem Z N B (length (body_from Z N B) - 1) (omega (lin, p)))

none_last : (l : List Stmt) → length l ≤ 0 → is_end (last_of l) ≡ false
unfolding last_of
none_last [] h = refl
none_last (st ∷ l) h = absurd (omega lin)

pub no_last : (Z N B : List ℕ) (n : ℕ) → n ≡ length (body_from Z N B) → n ≤ 0 → is_end (last_of (body_from Z N B)) ≡ false
no_last Z N B n e h = none_last (body_from Z N B) (omega (lin, e, h))
