-- Runs: a program that is accepted is never stuck, and each state fits its line's environment. Assumes nothing.
use Rattle.std.proofs.Math.Dec.{T}
use Rattle.std.proofs.Common.{ltb→lt, eqb→eq, arith as lin, add-one}
use Rattle.std.specs.Prelude.{◌+◌, ◌<◌, ◌&&◌, ◌∷◌, ◌++◌, ◌≡◌}
use Rattle.rules.specs.Typing.{Judged}
use Rattle.rules.specs.Machine.{Given}
use Rattle.rules.specs.Prelude.{ℕ, zero, suc, Bool, true, false, not, List, [], map, refl, sym, ap, subst, ltb, length, get_or, set, Env, Kind, Answer, Err, Ok, Line, None, Some, Act}
use Rattle.rules.specs.Prelude.D
use Rattle.rules.specs.When.{need}
use Rattle.rules.specs.Answers.{answer, accepted}
use Rattle.rules.specs.Program.{label_there, label_at, is_label, Label, same_kind, is_zero, Stmt, bad_s, set_s, put_s, goto_s, if_s, ifimm_s, iftag_s, ifint_s, return_s, label_s, Prog, loosest}
use Rattle.rules.specs.Names.{name_kind, name_row, name_var, name_stmt, names, label_suits, stmt_there}
use Rattle.rules.specs.Typing.{type}
use Rattle.rules.specs.Environments.{start_env, covers, label_env}
use Rattle.rules.specs.Body.{refuse, goes, is_end, last_of, last_line, body_numbers, types, ends, local_line, line_of, rule_goto, rule_return, rule_label}
use Rattle.rules.specs.Check.{check}
use Rattle.rules.specs.Machine.{Store, act, set_cell, decide, Machine, apply, step_from, step_of, run_of}
use Rattle.rules.specs.Fits.{unreached, entered, Entered, here_env, env_from, env_at}
use Rattle.rules.proofs.Laws.Tests.{by_need, and_both}
use Rattle.rules.proofs.Laws.Stages.{Each, Zero, each_append, each_map, first_exactly, need_exactly}
use Rattle.rules.proofs.Laws.Accepts.{check_exactly}
use Rattle.rules.proofs.Sound.Facts.{Fits}
use Rattle.rules.proofs.Sound.Line.{jump_is, Promises, Good, Sized, Reaches, After, covers_good, line_sound}

abbrev pub GoodAt : Prog → Entered → List Given → Store → Type 0
GoodAt P unreached δ s = ⊥
GoodAt P (entered Γ) δ s = Good P Γ δ s

-- the lines that are left are allowed, and nothing is reached after the last one
abbrev pub Acc : Prog → List Stmt → Bool → Env → Type 0
Acc P [] b Γ = T (not b)
Acc P (st ∷ body) b Γ = ((line_of P b Γ st).answer ≡ 0) × Acc P body (line_of P b Γ st).live (line_of P b Γ st).env

-- after `goto` and `return` nothing is reached
abbrev Stops : Line → Type 0
Stops x = T (not x.live)

goto_stops : (L : List Label) (l : ℕ) (Γ : Env) → Stops (rule_goto L l Γ)
unfolding rule_goto
goto_stops L l Γ = by_need Stops (refuse 11 Γ) (ltb l (length L) && covers L l Γ) (goes false Γ) tt (λ h. tt)

return_stops : (k : Kind) (x : Judged) (Γ : Env) → Stops (rule_return k x Γ)
unfolding rule_return
return_stops k (Err n) Γ = tt
return_stops k (Ok (l, e)) Γ = by_need Stops (refuse 6 Γ) (same_kind l k) _ tt (λ h. by_need Stops (refuse 10 Γ) (is_zero e.offset) (goes false Γ) tt (λ h. tt))

end_stops : (P : Prog) (b : Bool) (Γ : Env) (st : Stmt) → T (is_end st) → Stops (line_of P b Γ st)
unfolding line_of
end_stops P true Γ (goto_s l) h = goto_stops P.labels l Γ
end_stops P true Γ (return_s x) h = return_stops P.ret (type P.rows P.vars Γ x) Γ
end_stops P false Γ (goto_s l) h = tt
end_stops P false Γ (return_s x) h = tt
end_stops P false Γ bad_s h = elim h [ ]
end_stops P false Γ (set_s _ _) h = elim h [ ]
end_stops P false Γ (put_s _ _ _) h = elim h [ ]
end_stops P false Γ (if_s _ _) h = elim h [ ]
end_stops P false Γ (ifimm_s _ _) h = elim h [ ]
end_stops P false Γ (iftag_s _ _ _) h = elim h [ ]
end_stops P false Γ (ifint_s _ _ _) h = elim h [ ]
end_stops P false Γ (label_s _) h = elim h [ ]
end_stops P true Γ bad_s h = elim h [ ]
end_stops P true Γ (set_s _ _) h = elim h [ ]
end_stops P true Γ (put_s _ _ _) h = elim h [ ]
end_stops P true Γ (if_s _ _) h = elim h [ ]
end_stops P true Γ (ifimm_s _ _) h = elim h [ ]
end_stops P true Γ (iftag_s _ _ _) h = elim h [ ]
end_stops P true Γ (ifint_s _ _ _) h = elim h [ ]
end_stops P true Γ (label_s _) h = elim h [ ]

acc : (P : Prog) (body : List Stmt) (b : Bool) (Γ : Env) → Each Zero (body_numbers P body b Γ) → T (is_end (last_of body)) → Acc P body b Γ
unfolding body_numbers last_of
acc P [] b Γ h t = absurd t
acc P (st ∷ []) b Γ h t = (h.0, end_stops P b Γ st t)
acc P (st ∷ next ∷ body) b Γ h t = (h.0, acc P (next ∷ body) (line_of P b Γ st).live (line_of P b Γ st).env h.1 t)

-- what the lines name is there
abbrev pub Named : Prog → List Stmt → Type 0
Named P body = Each (λ st. Zero (name_stmt P st)) body

named : (P : Prog) (st : Stmt) → Zero (name_stmt P st) → T (stmt_there P st)
unfolding name_stmt
named P st h = ((need_exactly 4 (stmt_there P st) (need 5 (label_suits P st) 0) (omega lin)).0 h).0

-- ---- from line to line

-- after a line: it falls into E, or reaches a label that it fits, or returns
abbrev pub Then : Prog → Entered → List Given → Store → Act → Type 0
Then P E δ s D.Stuck = ⊥
Then P E δ s D.Fall = GoodAt P E δ s
Then P E δ s (D.Jump i) = Reaches P i δ s
Then P E δ s (D.SetVar v d) = GoodAt P E (set δ v (Some d)) s
Then P E δ s (D.SetCell b o d) = GoodAt P E δ (set_cell s b o d)
Then P E δ s (D.Give d) = Fits P.rows s P.ret loosest (Some d)

allowed : (n : ℕ) → n ≡ 0 → (P : Prog) (x : Line) (δ : List Given) (s : Store) (a : Act) → Promises n P x δ s a → After P x δ s a
allowed zero e P x δ s a h = h
allowed (suc n) e P x δ s a h = absurd (omega (lin, e))

there_lt : (P : Prog) (l : ℕ) → T (stmt_there P (label_s l)) → l < length P.labels
unfolding stmt_there label_there
there_lt P l t = ltb→lt l (length P.labels) (and_both (ltb l (length P.labels)) (is_label l (get_or P.body (label_at P.labels l).line bad_s)) t).0

module _ (P : Prog) (Z : Sized P) where
  -- what falls into a line fits its environment
  first_good : (body : List Stmt) (b : Bool) (Γ : Env) (δ : List Given) (s : Store) → T b → Acc P body b Γ → Named P body → Good P Γ δ s → GoodAt P (env_from P body b Γ zero) δ s
  unfolding env_from line_of rule_label
  first_good [] true Γ δ s t a n g = absurd a
  first_good (bad_s ∷ body) true Γ δ s t a n g = g
  first_good (set_s v x ∷ body) true Γ δ s t a n g = g
  first_good (put_s x m y ∷ body) true Γ δ s t a n g = g
  first_good (goto_s l ∷ body) true Γ δ s t a n g = g
  first_good (if_s l x ∷ body) true Γ δ s t a n g = g
  first_good (ifimm_s l v ∷ body) true Γ δ s t a n g = g
  first_good (iftag_s l v m ∷ body) true Γ δ s t a n g = g
  first_good (ifint_s l v m ∷ body) true Γ δ s t a n g = g
  first_good (return_s x ∷ body) true Γ δ s t a n g = g
  first_good (label_s l ∷ body) true Γ δ s t a n g = go (covers P.labels l Γ) refl a.0
    where
      go : (c : Bool) → covers P.labels l Γ ≡ c → (need (refuse 11 Γ) c (goes true (label_env P l))).answer ≡ 0 → Good P (label_env P l) δ s
      go true q e = covers_good P Z l (there_lt P l (named P (label_s l) n.0)) Γ δ s (rw q tt) g
      go false q e = absurd (omega (lin, e))
  first_good [] false Γ δ s t a n g = elim t [ ]
  first_good (bad_s ∷ body) false Γ δ s t a n g = elim t [ ]
  first_good (set_s v x ∷ body) false Γ δ s t a n g = elim t [ ]
  first_good (put_s x m y ∷ body) false Γ δ s t a n g = elim t [ ]
  first_good (goto_s l ∷ body) false Γ δ s t a n g = elim t [ ]
  first_good (if_s l x ∷ body) false Γ δ s t a n g = elim t [ ]
  first_good (ifimm_s l v ∷ body) false Γ δ s t a n g = elim t [ ]
  first_good (iftag_s l v m ∷ body) false Γ δ s t a n g = elim t [ ]
  first_good (ifint_s l v m ∷ body) false Γ δ s t a n g = elim t [ ]
  first_good (return_s x ∷ body) false Γ δ s t a n g = elim t [ ]
  first_good (label_s l ∷ body) false Γ δ s t a n g = elim t [ ]

  after_then : (body : List Stmt) (x : Line) (δ : List Given) (s : Store) → Acc P body x.live x.env → Named P body → (a : Act) → After P x δ s a → Then P (env_from P body x.live x.env zero) δ s a
  after_then body x δ s a n D.Fall h = first_good body x.live x.env δ s h.0 a n h.1
  after_then body x δ s a n (D.Jump i) h = h
  after_then body x δ s a n (D.SetVar v d) h = first_good body x.live x.env (set δ v (Some d)) s h.0 a n h.1
  after_then body x δ s a n (D.SetCell b o d) h = first_good body x.live x.env δ (set_cell s b o d) h.0 a n h.1
  after_then body x δ s a n (D.Give d) h = h
  after_then body x δ s a n D.Stuck h = elim h [ ]

  label_after : (l : ℕ) (b : Bool) (Γ : Env) (δ : List Given) (s : Store) → (line_of P b Γ (label_s l)).answer ≡ 0 → Good P (label_env P l) δ s → After P (line_of P b Γ (label_s l)) δ s D.Fall
  unfolding line_of rule_label
  label_after l false Γ δ s e g = (tt, g)
  label_after l true Γ δ s e g = go (covers P.labels l Γ) e
    where
      go : (c : Bool) → (need (refuse 11 Γ) c (goes true (label_env P l))).answer ≡ 0 → After P (need (refuse 11 Γ) c (goes true (label_env P l))) δ s D.Fall
      go true e = (tt, g)
      go false e = absurd (omega (lin, e))

  reached_after : (st : Stmt) (Γ : Env) (δ : List Given) (s : Store) → (line_of P true Γ st).answer ≡ 0 → T (stmt_there P st) → Good P Γ δ s → After P (line_of P true Γ st) δ s (act P s δ st)
  reached_after st Γ δ s e t g = allowed (line_of P true Γ st).answer e P (line_of P true Γ st) δ s (act P s δ st) (line_sound P Z Γ s δ g.store g.vars st t)

  line_after_lem : (st : Stmt) (b : Bool) (Γ : Env) (δ : List Given) (s : Store) → (line_of P b Γ st).answer ≡ 0 → T (stmt_there P st) → GoodAt P (here_env P b Γ st) δ s → After P (line_of P b Γ st) δ s (act P s δ st)
  unfolding act stmt_there
  line_after_lem bad_s true Γ δ s e t g = reached_after bad_s Γ δ s e t g
  line_after_lem (set_s v x) true Γ δ s e t g = reached_after (set_s v x) Γ δ s e t g
  line_after_lem (put_s x m y) true Γ δ s e t g = reached_after (put_s x m y) Γ δ s e t g
  line_after_lem (goto_s l) true Γ δ s e t g = reached_after (goto_s l) Γ δ s e t g
  line_after_lem (if_s l x) true Γ δ s e t g = reached_after (if_s l x) Γ δ s e t g
  line_after_lem (ifimm_s l v) true Γ δ s e t g = reached_after (ifimm_s l v) Γ δ s e t g
  line_after_lem (iftag_s l v m) true Γ δ s e t g = reached_after (iftag_s l v m) Γ δ s e t g
  line_after_lem (ifint_s l v m) true Γ δ s e t g = reached_after (ifint_s l v m) Γ δ s e t g
  line_after_lem (return_s x) true Γ δ s e t g = reached_after (return_s x) Γ δ s e t g
  line_after_lem (label_s l) b Γ δ s e t g = rw (jump_is P l t false) (label_after l b Γ δ s e g)
  line_after_lem bad_s false Γ δ s e t g = elim t [ ]
  line_after_lem (set_s v x) false Γ δ s e t g = elim g [ ]
  line_after_lem (put_s x m y) false Γ δ s e t g = elim g [ ]
  line_after_lem (goto_s l) false Γ δ s e t g = elim g [ ]
  line_after_lem (if_s l x) false Γ δ s e t g = elim g [ ]
  line_after_lem (ifimm_s l v) false Γ δ s e t g = elim g [ ]
  line_after_lem (iftag_s l v m) false Γ δ s e t g = elim g [ ]
  line_after_lem (ifint_s l v m) false Γ δ s e t g = elim g [ ]
  line_after_lem (return_s x) false Γ δ s e t g = elim g [ ]

  lines_then : (body : List Stmt) (b : Bool) (Γ : Env) (i : ℕ) (δ : List Given) (s : Store) → Acc P body b Γ → Named P body → GoodAt P (env_from P body b Γ i) δ s → Then P (env_from P body b Γ (suc i)) δ s (act P s δ (get_or body i bad_s))
  unfolding env_from
  lines_then [] b Γ i δ s a n g = absurd g
  lines_then (st ∷ body) b Γ zero δ s a n g = after_then body (line_of P b Γ st) δ s a.1 n.1 (act P s δ st) (line_after_lem st b Γ δ s a.0 (named P st n.0) g)
  lines_then (st ∷ body) b Γ (suc i) δ s a n g = lines_then body (line_of P b Γ st).live (line_of P b Γ st).env i δ s a.1 n.1 g

  -- what fits a label fits the environment of its line
  here_label : (st : Stmt) (b : Bool) (Γ : Env) (l : ℕ) (δ : List Given) (s : Store) → T (is_label l st) → Good P (label_env P l) δ s → GoodAt P (here_env P b Γ st) δ s
  here_label (label_s k) b Γ l δ s t g = subst (λ (z : ℕ). Good P (label_env P z) δ s) (sym (eqb→eq k l t)) g
  here_label bad_s b Γ l δ s t g = elim t [ ]
  here_label (set_s _ _) b Γ l δ s t g = elim t [ ]
  here_label (put_s _ _ _) b Γ l δ s t g = elim t [ ]
  here_label (goto_s _) b Γ l δ s t g = elim t [ ]
  here_label (if_s _ _) b Γ l δ s t g = elim t [ ]
  here_label (ifimm_s _ _) b Γ l δ s t g = elim t [ ]
  here_label (iftag_s _ _ _) b Γ l δ s t g = elim t [ ]
  here_label (ifint_s _ _ _) b Γ l δ s t g = elim t [ ]
  here_label (return_s _) b Γ l δ s t g = elim t [ ]

  at_label : (body : List Stmt) (b : Bool) (Γ : Env) (i l : ℕ) (δ : List Given) (s : Store) → T (is_label l (get_or body i bad_s)) → Good P (label_env P l) δ s → GoodAt P (env_from P body b Γ i) δ s
  unfolding env_from
  at_label (st ∷ body) b Γ zero l δ s t g = here_label st b Γ l δ s t g
  at_label (st ∷ body) b Γ (suc i) l δ s t g = at_label body (line_of P b Γ st).live (line_of P b Γ st).env i l δ s t g
  at_label [] b Γ i l δ s t g = elim t [ ]

-- ---- the theorem

-- a machine before its first line
abbrev pub before : List Given → Store → Machine
before δ s = record { at = 0; steps = 0; value = None; vals = δ; store = s }

abbrev pub NotStuck : Act → Type 0
NotStuck D.Stuck = ⊥
NotStuck D.Fall = Unit
NotStuck (D.Jump i) = Unit
NotStuck (D.SetVar v d) = Unit
NotStuck (D.SetCell b o d) = Unit
NotStuck (D.Give d) = Unit

-- what was returned fits `ret` as `any,0,any`; a machine that has not returned does not get stuck at its line
abbrev pub SafeValue : Prog → Machine → Given → Type 0
SafeValue P m None = NotStuck (decide P m.store m.vals m.at)
SafeValue P m (Some d) = Fits P.rows m.store P.ret loosest (Some d)

-- the store is sound and the variables fit the environment of the line
pub record Safe (P : Prog) (m : Machine) : Type 0 where
  pub fits : GoodAt P (env_at P m.at) m.vals m.store
  pub value : SafeValue P m m.value

-- the same, without the promise that the next step is not stuck (it follows)
abbrev pub FineValue : Prog → Store → Given → Type 0
FineValue P s None = Unit
FineValue P s (Some d) = Fits P.rows s P.ret loosest (Some d)

pub record Fine (P : Prog) (m : Machine) : Type 0 where
  pub fits : GoodAt P (env_at P m.at) m.vals m.store
  pub value : FineValue P m.store m.value

then_moves : (P : Prog) (E : Entered) (δ : List Given) (s : Store) (a : Act) → Then P E δ s a → NotStuck a
then_moves P E δ s D.Fall h = tt
then_moves P E δ s (D.Jump i) h = tt
then_moves P E δ s (D.SetVar v d) h = tt
then_moves P E δ s (D.SetCell b o d) h = tt
then_moves P E δ s (D.Give d) h = tt
then_moves P E δ s D.Stuck h = elim h [ ]

module _ (P : Prog) (Z : Sized P) (ok : check P ≡ accepted) where
  there : Named P P.body
  unfolding names
  there =
      let a = (first_exactly 1 (name_kind P P.ret ∷ (map (name_row P) P.rows ++ (map (name_var P) P.vars ++ map (name_stmt P) P.body)))).0 ((check_exactly P).0 ok).0 in
      let b = (each_append Zero (map (name_row P) P.rows) (map (name_var P) P.vars ++ map (name_stmt P) P.body)).0 a.1 in
      let c = (each_append Zero (map (name_var P) P.vars) (map (name_stmt P) P.body)).0 b.1 in
      (each_map Zero (name_stmt P) P.body).0 c.1

  numbers_zero : Each Zero (map (local_line P.rows) P.vars) × Each Zero (body_numbers P P.body true (start_env P.vars))
  unfolding types
  numbers_zero =
      (each_append Zero (map (local_line P.rows) P.vars) (body_numbers P P.body true (start_env P.vars))).0
      ((first_exactly (2 + length P.rows) (map (local_line P.rows) P.vars ++ body_numbers P P.body true (start_env P.vars))).0 ((check_exactly P).0 ok).1)

  -- a local's N suits
  pub locals_zero : Each (λ d. Zero (local_line P.rows d)) P.vars
  locals_zero = (each_map Zero (local_line P.rows) P.vars).0 numbers_zero.0

  ended_by : T (is_end (last_of P.body))
  unfolding ends
  ended_by = go (is_end (last_of P.body)) ((check_exactly P).0 ok).2
    where
      go : (c : Bool) → need (answer 13 (last_line P)) c accepted ≡ accepted → T c
      go true h = tt
      go false h = let z : ◌≡◌ {A = ℕ} 13 0 = ap (λ (x : Answer). x.number) h in absurd (omega lin)

  all : Acc P P.body true (start_env P.vars)
  all = acc P P.body true (start_env P.vars) numbers_zero.1 ended_by

  next : (m : Machine) → GoodAt P (env_at P m.at) m.vals m.store → Then P (env_at P (m.at + 1)) m.vals m.store (decide P m.store m.vals m.at)
  unfolding env_at decide
  next m g = rw (add-one m.at) (lines_then P Z P.body true (start_env P.vars) m.at m.vals m.store all there g)

  lands : (i : ℕ) (δ : List Given) (s : Store) → Reaches P i δ s → GoodAt P (env_at P i) δ s
  unfolding env_at label_there
  lands i δ s h =
      let q : T (is_label h.label (get_or P.body (label_at P.labels h.label).line bad_s)) = (and_both (ltb h.label (length P.labels)) (is_label h.label (get_or P.body (label_at P.labels h.label).line bad_s)) h.there).1 in
      at_label P Z P.body true (start_env P.vars) i h.label δ s (rw h.is at q) h.good

  fine_step : (m : Machine) → m.value ≡ None → GoodAt P (env_at P m.at) m.vals m.store → (a : Act) → Then P (env_at P (m.at + 1)) m.vals m.store a → Fine P (apply a m)
  unfolding apply
  fine_step m e g D.Fall h = record { fits = h; value = rw e tt }
  fine_step m e g (D.Jump i) h = record { fits = lands i m.vals m.store h; value = rw e tt }
  fine_step m e g (D.SetVar v d) h = record { fits = h; value = rw e tt }
  fine_step m e g (D.SetCell b o d) h = record { fits = h; value = rw e tt }
  fine_step m e g (D.Give d) h = record { fits = g; value = h }
  fine_step m e g D.Stuck h = elim h [ ]

  step_fine : (m : Machine) → Fine P m → Fine P (step_of P m)
  unfolding step_of
  step_fine m f = go m.value refl
    where
      go : (g : Given) → m.value ≡ g → Fine P (step_from P m g)
      go None e = fine_step m e f.fits (decide P m.store m.vals m.at) (next m f.fits)
      go (Some d) e = f

  run_fine : (n : ℕ) (m : Machine) → Fine P m → Fine P (run_of P n m)
  unfolding run_of
  run_fine zero m f = f
  run_fine (suc n) m f = run_fine n (step_of P m) (step_fine m f)

  fine_safe : (m : Machine) → Fine P m → Safe P m
  fine_safe m f = record { fits = f.fits; value = go m.value f.value }
    where
      go : (g : Given) → FineValue P m.store g → SafeValue P m g
      go None h = then_moves P (env_at P (m.at + 1)) m.vals m.store (decide P m.store m.vals m.at) (next m f.fits)
      go (Some d) h = h

  -- from a store that is sound and variables that fit the start, no run is ever stuck
  pub sound : (δ : List Given) (s : Store) → Good P (start_env P.vars) δ s → (n : ℕ) → Safe P (run_of P n (before δ s))
  unfolding env_at
  sound δ s g n =
      fine_safe (run_of P n (before δ s))
      (run_fine n (before δ s) (record { fits = first_good P Z P.body true (start_env P.vars) δ s tt all there g; value = tt }))
