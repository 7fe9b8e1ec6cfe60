-- Programs and texts: the checker accepts exactly what the published rules derive. Assumes nothing.
use Rattle.std.specs.Prelude.{T}
use Rattle.std.proofs.Common.{arith as lin}
use Rattle.std.specs.Prelude.{◌+◌, ◌∷◌, ◌++◌, ◌≡◌, ◌↔◌}
use Rattle.rules.specs.Prelude.{ℕ, Bool, true, false, List, [], map, refl, ap, length, Env, Kind, Cint, Value, Answer}
use Rattle.rules.specs.When.{when}
use Rattle.rules.specs.Numbers.{suits}
use Rattle.rules.specs.Answers.{accepted}
use Rattle.rules.specs.Text.{read_text}
use Rattle.rules.specs.Program.{Rows, Var, Stmt, bad_s, set_s, put_s, goto_s, if_s, ifimm_s, iftag_s, ifint_s, return_s, label_s, Prog, psi_of}
use Rattle.rules.specs.Names.{names}
use Rattle.rules.specs.Environments.{start_env}
use Rattle.rules.specs.Body.{rule_label, line_of, local_ok, local_line, body_numbers, types, last_of, is_end, ends}
use Rattle.rules.specs.Check.{check, verdict}
use Rattle.rules.specs.Published.{Follows, end_of_body, seq_stmt, lbl_stmt_unreached, Declares, end_of_declarations, parameter, int_local, value_local, Ends, by_goto, by_return, later, Derivable}
use Rattle.rules.proofs.Laws.Tests.{held, by_need}
use Rattle.rules.proofs.Laws.Stages.{Each, each_append, Zero, need_exactly, first_exactly}
use Rattle.rules.proofs.Laws.Accepts.{check_exactly, verdict_exactly, read_as}
use Rattle.rules.proofs.Exactly.Allows.{statement_exactly, statement_accepted}

-- ---- bodies

module _ (P : Prog) where
  -- where nothing is reached only a label passes
  label_only : (Γ : Env) (s : Stmt) (rest : List Stmt) → Zero (line_of P false Γ s).answer → Follows P (line_of P false Γ s).live (line_of P false Γ s).env rest → Follows P false Γ (s ∷ rest)
  unfolding line_of rule_label
  label_only Γ bad_s rest z f = absurd (omega lin)
  label_only Γ (set_s v x) rest z f = absurd (omega lin)
  label_only Γ (put_s x n y) rest z f = absurd (omega lin)
  label_only Γ (goto_s l) rest z f = absurd (omega lin)
  label_only Γ (if_s l x) rest z f = absurd (omega lin)
  label_only Γ (ifimm_s l v) rest z f = absurd (omega lin)
  label_only Γ (iftag_s l v n) rest z f = absurd (omega lin)
  label_only Γ (ifint_s l v n) rest z f = absurd (omega lin)
  label_only Γ (return_s x) rest z f = absurd (omega lin)
  label_only Γ (label_s l) rest z f = lbl_stmt_unreached f

  follows : (body : List Stmt) (b : Bool) (Γ : Env) → Each Zero (body_numbers P body b Γ) → Follows P b Γ body
  unfolding body_numbers
  follows [] b Γ h = end_of_body
  follows (s ∷ rest) true Γ h = seq_stmt ((statement_accepted P Γ s).0 h.0) (follows rest _ _ h.1)
  follows (s ∷ rest) false Γ h = label_only Γ s rest h.0 (follows rest _ _ h.1)

  passes_body : {b : Bool} {Γ : Env} {body : List Stmt} → Follows P b Γ body → Each Zero (body_numbers P body b Γ)
  unfolding body_numbers line_of rule_label
  passes_body end_of_body = tt
  passes_body (seq_stmt {b} {Γ} {Δ} {s} a f) = rw ((statement_exactly P Γ s b Δ).1 a) (refl, passes_body f)
  passes_body (lbl_stmt_unreached f) = (refl, passes_body f)

-- ---- declarations

module _ (ρ : Rows) where
  declares_one : (d : Var) (rest : List Var) (b : Bool) (k : Kind) → d.is_local ≡ b → d.kind ≡ k → Zero (when b (λ _. local_ok ρ k d.number) (λ _. 0)) → Declares ρ rest → Declares ρ (d ∷ rest)
  declares_one d rest false k l h z f = parameter l f
  declares_one d rest true Cint l h z f = int_local l h f
  declares_one d rest true (Value r) l h z f = value_local l h ((need_exactly 9 (suits (psi_of ρ r) d.number) 0 (omega lin)).0 z).0 f

  declares : (D : List Var) → Each Zero (map (local_line ρ) D) → Declares ρ D
  unfolding local_line
  declares [] h = end_of_declarations
  declares (d ∷ rest) h = declares_one d rest d.is_local d.kind refl refl h.0 (declares rest h.1)

  passes_locals : {D : List Var} → Declares ρ D → Each Zero (map (local_line ρ) D)
  unfolding local_line
  passes_locals end_of_declarations = tt
  passes_locals (parameter l f) = (rw l refl, passes_locals f)
  passes_locals (int_local l h f) = (rw (l, h) refl, passes_locals f)
  passes_locals (value_local {d} {r} l h s f) = (rw (l, h, held (suits (psi_of ρ r) d.number) s) refl, passes_locals f)

-- ---- the last line

is_end_lem : (s : Stmt) → T (is_end s) → Ends (s ∷ [])
is_end_lem (goto_s l) h = by_goto
is_end_lem (return_s x) h = by_return
is_end_lem bad_s h = elim h [ ]
is_end_lem (set_s _ _) h = elim h [ ]
is_end_lem (put_s _ _ _) h = elim h [ ]
is_end_lem (if_s _ _) h = elim h [ ]
is_end_lem (ifimm_s _ _) h = elim h [ ]
is_end_lem (iftag_s _ _ _) h = elim h [ ]
is_end_lem (ifint_s _ _ _) h = elim h [ ]
is_end_lem (label_s _) h = elim h [ ]

has_end : (body : List Stmt) → T (is_end (last_of body)) → Ends body
unfolding last_of
has_end (s ∷ []) h = is_end_lem s h
has_end (s ∷ next ∷ rest) h = later (has_end (next ∷ rest) h)
has_end [] h = elim h [ ]

last_later : (s : Stmt) {rest : List Stmt} → Ends rest → last_of (s ∷ rest) ≡ last_of rest
unfolding last_of
last_later s by_goto = refl
last_later s by_return = refl
last_later s (later f) = refl

end_is_last : {body : List Stmt} → Ends body → T (is_end (last_of body))
unfolding last_of
end_is_last by_goto = tt
end_is_last by_return = tt
end_is_last (later {s} f) = rw (last_later s f) (end_is_last f)

-- ---- programs

module _ (P : Prog) where
  types_exactly : (types P ≡ accepted) ↔ (Declares P.rows P.vars × Follows P true (start_env P.vars) P.body)
  unfolding types
  types_exactly =
      let (all, one) = first_exactly (2 + length P.rows) (map (local_line P.rows) P.vars ++ body_numbers P P.body true (start_env P.vars)) in
      let (split, join) = each_append Zero (map (local_line P.rows) P.vars) (body_numbers P P.body true (start_env P.vars)) in
      ((λ h. (declares P.rows P.vars (split (all h)).0, follows P P.body true (start_env P.vars) (split (all h)).1)), λ h. one (join (passes_locals P.rows h.0, passes_body P h.1)))

  ends_exactly : (ends P ≡ accepted) ↔ Ends P.body
  unfolding ends
  ends_exactly = (
    by_need (λ (a : Answer). a ≡ accepted → Ends P.body) _ (is_end (last_of P.body)) accepted
        (λ h. let z : ◌≡◌ {A = ℕ} 13 0 = ap (λ (a : Answer). a.number) h in absurd (omega lin))
        (λ e h. has_end P.body e),
    λ h. rw (held (is_end (last_of P.body)) (end_is_last h)),
  )

  -- 6 to 13 refuse nothing exactly if the rules derive the program
  rules_exactly : ((types P ≡ accepted) × (ends P ≡ accepted)) ↔ Derivable P
  rules_exactly = (
    (λ h. record { declarations = (types_exactly.0 h.0).0; body = (types_exactly.0 h.0).1; ending = ends_exactly.0 h.1 }),
    λ d. (types_exactly.1 (d.declarations, d.body), ends_exactly.1 d.ending),
  )

-- a program whose names exist is accepted exactly if the rules derive it
pub program_exactly : (P : Prog) → names P ≡ accepted → (check P ≡ accepted) ↔ Derivable P
program_exactly P h = (
  (λ k. (rules_exactly P).0 (((check_exactly P).0 k).1, ((check_exactly P).0 k).2)),
  λ d. (check_exactly P).1 (h, ((rules_exactly P).1 d).0, ((rules_exactly P).1 d).1),
)

-- a text is accepted exactly if it reads, its names exist, and the rules derive what was read
pub text_exactly : (s : List ℕ) → (verdict s ≡ accepted) ↔ (((read_text s).answer ≡ accepted) × (names (read_as s) ≡ accepted) × Derivable (read_as s))
text_exactly s = (
  (λ h.
      let c = (verdict_exactly s).0 h in
      let n = ((check_exactly (read_as s)).0 c.1).0 in
      (c.0, n, (program_exactly (read_as s) n).0 c.1)),
  λ h. (verdict_exactly s).1 (h.0, (program_exactly (read_as s) h.1).1 h.2),
)
