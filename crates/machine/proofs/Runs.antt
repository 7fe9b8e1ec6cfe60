-- Runs of tables: a step that does not move ends a run, and one that moves counts one and leaves the rest of it. Assumes nothing.
use native.Mathlib.Omega.{arith as lin}
use borrow.Author.Tests.{leb-true, leb-false}
use Rattle.std.specs.Prelude.{◌+◌, ◌-◌, ◌*◌, ◌<◌, ◌≡◌, Some, None}
use Rattle.rules.specs.Prelude.{ℕ, zero, suc, Bool, true, false, List, [], get_or, refl, sym, ap, subst, ◌∙◌}
use Rattle.rules.specs.declared.Act.{Act}
use Rattle.rules.specs.declared.Act.TheVariants as D
use Rattle.rules.specs.Machine.{Given}
use Rattle.rules.specs.declared.Stepped.{Stepped}
use Rattle.rules.specs.declared.Stepped.TheVariants as T
use Rattle.rules.specs.When.{when}
use Rattle.rules.specs.Program.{Prog}
use Rattle.rules.specs.Machine.{decide, says_act, says_from, says}
use Rattle.rules.specs.Machine.Tables.{MTables, datum_code, apply_t, store_of, machine, step_from_t, step_t, run_t, spent, step_within, says_within, run_within}
use Rattle.moves.specs.declared.Moved.{Moved}
use Rattle.moves.specs.Moves.{lines, parts, Moves}
use Rattle.machine.proofs.Laws.{step_keeps}

-- what a step says where a run ends, and where it goes on
abbrev pub Rests : Stepped → Type 0
Rests T.Stuck = Unit
Rests T.Moved = ⊥
Rests T.Returned = Unit
Rests T.Spent = Unit

abbrev Goes : Stepped → Type 0
Goes T.Stuck = ⊥
Goes T.Moved = Unit
Goes T.Returned = ⊥
Goes T.Spent = ⊥

abbrev budget : MTables → ℕ
budget t = get_or t.size 0 0

act_rests : (a : Act) (t : MTables) → Rests (says_act a) → apply_t a t ≡ t
unfolding apply_t
act_rests D.Stuck t h = refl
act_rests D.Fall t h = elim h [ ]
act_rests (D.Jump _) t h = elim h [ ]
act_rests (D.SetVar _ _) t h = elim h [ ]
act_rests (D.SetCell _ _ _) t h = elim h [ ]
act_rests (D.Give _) t h = elim h [ ]

act_counts : (a : Act) (t : MTables) → Goes (says_act a) → (apply_t a t).steps ≡ t.steps + 1
unfolding apply_t
act_counts D.Fall t h = refl
act_counts (D.Jump i) t h = refl
act_counts (D.SetVar v d) t h = refl
act_counts (D.SetCell b o d) t h = refl
act_counts (D.Give d) t h = refl
act_counts D.Stuck t h = elim h [ ]

module _ (P : Prog) (t : MTables) where
  rests_by : (b : Bool) (g : Given) → Rests (when b (λ _. T.Spent) (λ _. says_from P (machine P t) g)) → when b (λ _. t) (λ _. step_from_t P t g) ≡ t
  unfolding machine
  rests_by true g h = refl
  rests_by false None h = act_rests (decide P (store_of t.size t.heads t.cells) _ t.at) t h
  rests_by false (Some d) h = refl

  pub step_rests : Rests (says_within P t) → step_within P t ≡ t
  unfolding step_within says_within says step_t machine
  step_rests h = rests_by (spent t) (datum_code t.value) h

  run_stays : step_t P t ≡ t → (k : ℕ) → run_t P k t ≡ t
  unfolding run_t
  run_stays e zero = refl
  run_stays e (suc k) = ap (run_t P k) e ∙ run_stays e k

  run_rests : Rests (says_within P t) → run_within P t ≡ t
  unfolding run_within run_t step_within
  run_rests h = go (spent t) refl
    where
      go : (b : Bool) → spent t ≡ b → run_t P (budget t - t.steps) t ≡ t
      go true q = let none : budget t - t.steps ≡ 0 = omega (lin, leb-true (budget t) t.steps q) in ap (λ (k : ℕ). run_t P k t) none
      go false q = let e : step_t P t ≡ t = rw q at (step_rests h) in run_stays e (budget t - t.steps)

  module _ (h : Goes (says_within P t)) where
    goes_by : (b : Bool) (g : Given) → Goes (when b (λ _. T.Spent) (λ _. says_from P (machine P t) g)) → (b ≡ false) × ((step_from_t P t g).steps ≡ t.steps + 1)
    unfolding machine
    goes_by false None h = (refl, act_counts (decide P (store_of t.size t.heads t.cells) _ t.at) t h)
    goes_by false (Some _) h = elim h [ ]
    goes_by true g h = elim h [ ]

    gone : (spent t ≡ false) × ((step_t P t).steps ≡ t.steps + 1)
    unfolding says_within says step_t machine
    gone = goes_by (spent t) (datum_code t.value) h

    same : step_within P t ≡ step_t P t
    unfolding step_within
    same = rw gone.0 refl

    pub left : t.steps < budget t
    left = leb-false (budget t) t.steps gone.0

    pub counts : (step_within P t).steps ≡ t.steps + 1
    counts = ap (λ (u : MTables). u.steps) same ∙ gone.1

    pub goes_on : run_within P (step_within P t) ≡ run_within P t
    unfolding run_within run_t
    goes_on =
        let k : budget (step_within P t) ≡ budget t = ap (λ (z : List ℕ). get_or z 0 0) (step_keeps P t).0 in
        let j : budget (step_within P t) - (step_within P t).steps ≡ budget t - (t.steps + 1) = rw (k, counts) refl in
        let more : suc (budget t - (t.steps + 1)) ≡ budget t - t.steps = omega (lin, left) in
        ap (λ (n : ℕ). run_t P n (step_within P t)) j ∙ ap (run_t P (budget t - (t.steps + 1))) same ∙ ap (λ (n : ℕ). run_t P n t) more

-- ---- the loop: t₀ is where it began, t where it stands, and o what it was told last

-- the run that is left is the run from t₀, and what rests was said at t
abbrev pub Left : List ℕ → List ℕ → List ℕ → List ℕ → MTables → MTables → Stepped → Type 0
Left Z N L B t₀ t o = (R D : List ℕ) → (run_within (lines Z N L B R D) t ≡ run_within (lines Z N L B R D) t₀) × (Rests o → o ≡ says_within (lines Z N L B R D) t)

-- a turn that moves counts one, and one that rests is the last
abbrev pub turns : ℕ → ℕ → Stepped → ℕ
turns most done T.Stuck = (most - done) * 2
turns most done T.Moved = (most - done) * 2 + 1
turns most done T.Returned = (most - done) * 2
turns most done T.Spent = (most - done) * 2

-- what is so where a step moves, and where it does not, is so
by_rest : (Q : Stepped → Type 0) (o : Stepped) → (Goes o → Q T.Moved) → (Rests o → Q o) → Q o
by_rest Q T.Stuck f g = g tt
by_rest Q T.Moved f g = f tt
by_rest Q T.Returned f g = g tt
by_rest Q T.Spent f g = g tt

unmoved : (o : Stepped) → (o ≡ T.Moved → ⊥) → Rests o
unmoved T.Stuck h = tt
unmoved T.Moved h = h refl
unmoved T.Returned h = tt
unmoved T.Spent h = tt

turns_rest : (most done : ℕ) (o : Stepped) → Rests o → turns most done o ≡ (most - done) * 2
turns_rest most done T.Stuck h = refl
turns_rest most done T.Moved h = elim h [ ]
turns_rest most done T.Returned h = refl
turns_rest most done T.Spent h = refl

module _ (Z N L B : List ℕ) (t : MTables) where
  abbrev P : List ℕ → List ℕ → Prog
  P R D = lines Z N L B R D

  -- a turn: the step at t says what r says, and leaves C and W
  module _ (r : Moved) (C W : List ℕ) (m : Moves Z N L B t r C W) where
    abbrev t' : MTables
    t' = parts t.size t.heads C W r.at r.steps r.value

    goes : Goes r.out → (R D : List ℕ) → Goes (says_within (P R D) t)
    goes h R D = subst Goes (m R D).0 h

    rests : Rests r.out → (R D : List ℕ) → t' ≡ t
    rests h R D = (m R D).1 ∙ step_rests (P R D) t (subst Rests (m R D).0 h)

    pub fewer : (o : Stepped) → o ≡ T.Moved → turns (get_or t.size 0 0) r.steps r.out < turns (get_or t.size 0 0) t.steps o
    fewer o e = rw e
        (by_rest (λ x. turns (get_or t.size 0 0) r.steps x < turns (get_or t.size 0 0) t.steps T.Moved) r.out
        (λ h. omega (lin, ap (λ (u : MTables). u.steps) (m [] []).1, counts (P [] []) t (goes h [] []), left (P [] []) t (goes h [] [])))
        (λ h. omega (lin, ap (λ (u : MTables). u.steps) (rests h [] []), turns_rest (get_or t.size 0 0) r.steps r.out h)))

    pub onward : (t₀ : MTables) (o : Stepped) → Left Z N L B t₀ t o → Left Z N L B t₀ t' r.out
    onward t₀ o inv R D = (
      by_rest (λ _. run_within (P R D) t' ≡ run_within (P R D) t₀) r.out
          (λ h. ap (run_within (P R D)) (m R D).1 ∙ goes_on (P R D) t (goes h R D) ∙ (inv R D).0)
          (λ h. ap (run_within (P R D)) (rests h R D) ∙ (inv R D).0),
      λ h. (m R D).0 ∙ ap (says_within (P R D)) (sym (rests h R D)),
    )

  -- the end: what is left behind the two borrows is what the machine holds
  pub ended : (C W : List ℕ) → C ≡ t.cells → W ≡ t.vals → (t₀ : MTables) (o : Stepped) → Left Z N L B t₀ t o → (o ≡ T.Moved → ⊥) → (R D : List ℕ)
      → (o ≡ says_within (P R D) (run_within (P R D) t₀)) × (parts t.size t.heads C W t.at t.steps t.value ≡ run_within (P R D) t₀)
  ended C W c w t₀ o inv h R D =
      let e : o ≡ says_within (P R D) t = (inv R D).1 (unmoved o h) in
      let q : t ≡ run_within (P R D) t₀ = sym (run_rests (P R D) t (subst Rests e (unmoved o h))) ∙ (inv R D).0 in
      (e ∙ ap (says_within (P R D)) q, (λ i. parts t.size t.heads (c i) (w i) t.at t.steps t.value) ∙ q)
