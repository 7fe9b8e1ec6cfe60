-- What no step of tables alters, and a step of a lent machine as a step of its parts. Assumes nothing.
use Rattle.std.specs.Prelude.{◌≡◌, Some, None}
use Rattle.rules.specs.Prelude.{Bool, true, false, List, ℕ, [], refl, sym, ap, ◌∙◌}
use Rattle.rules.specs.declared.Act.{Act}
use Rattle.rules.specs.declared.Act.TheVariants as D
use Rattle.rules.specs.Machine.{Given}
use Rattle.rules.specs.declared.Stepped.{Stepped}
use Rattle.rules.specs.When.{when}
use Rattle.rules.specs.Program.{Prog}
use Rattle.rules.specs.Machine.Tables.{MTables, datum_code, apply_t, step_from_t, step_t, spent, step_within, says_within}
use Rattle.moves.specs.Moves.{lines, parts, Moves}
use Rattle.machine.specs.declared.Machine.{Machine}
use Rattle.machine.specs.Steps.{tables_in, lent_to, Steps}

-- ---- what no step alters

-- the store's sizes and the blocks' heads are those of t
abbrev Kept : MTables → MTables → Type 0
Kept t u = (u.size ≡ t.size) × (u.heads ≡ t.heads)

apply_keeps : (a : Act) (t : MTables) → Kept t (apply_t a t)
unfolding apply_t
apply_keeps D.Stuck t = (refl, refl)
apply_keeps D.Fall t = (refl, refl)
apply_keeps (D.Jump i) t = (refl, refl)
apply_keeps (D.SetVar v d) t = (refl, refl)
apply_keeps (D.SetCell b o d) t = (refl, refl)
apply_keeps (D.Give d) t = (refl, refl)

step_from_keeps : (P : Prog) (t : MTables) (g : Given) → Kept t (step_from_t P t g)
step_from_keeps P t None = apply_keeps _ t
step_from_keeps P t (Some d) = (refl, refl)

unless_keeps : (b : Bool) (t u : MTables) → Kept t u → Kept t (when b (λ _. t) (λ _. u))
unless_keeps true t u k = (refl, refl)
unless_keeps false t u k = k

pub step_keeps : (P : Prog) (t : MTables) → Kept t (step_within P t)
unfolding step_within step_t
step_keeps P t = unless_keeps (spent t) t (step_from_t P t (datum_code t.value)) (step_from_keeps P t (datum_code t.value))

pub whole : (t u : MTables) → Kept t u → parts t.size t.heads u.cells u.vals u.at u.steps u.value ≡ u
whole t u k i = parts (sym k.0 i) (sym k.1 i) u.cells u.vals u.at u.steps u.value

-- ---- a machine that is lent

module _ (Z N L B S H : List ℕ) (m : Machine) (r : Stepped) (m' : Machine) (e : Steps Z N L B S H m r m') where
  -- a step of it is a step of its parts
  pub in_parts : Moves Z N L B (tables_in S H m) (record { out = r; at = m'.at; steps = m'.steps; value = m'.value }) m'.cells.now m'.vals.now
  in_parts R D =
      let t : MTables = tables_in S H m in
      let P : Prog = lines Z N L B R D in
      ((e R D).0, ap (tables_in S H) (e R D).1 ∙ whole t (step_within P t) (step_keeps P t))

  -- and it holds the same two tables after it
  pub same_tables : (m'.cells.ghost_name ≡ m.cells.ghost_name) × (m'.vals.ghost_name ≡ m.vals.ghost_name)
  same_tables = (ap (λ (x : Machine). x.cells.ghost_name) (e [] []).1, ap (λ (x : Machine). x.vals.ghost_name) (e [] []).1)

-- what `step` says of the machine at m is what is said of its parts
module _ (Z N L B S H : List ℕ) (m : Machine) (r : Stepped) (m' : Machine) where
  abbrev t : MTables
  t = tables_in S H m

  abbrev t' : MTables
  t' = step_within (lines Z N L B [] []) t

  pub told_once : Steps Z N L B S H m r m' → Moves Z N L B t (record { out = says_within (lines Z N L B [] []) t; at = t'.at; steps = t'.steps; value = t'.value }) t'.cells t'.vals
  told_once e R D = (sym (e [] []).0 ∙ (e R D).0, ap (tables_in S H) (sym (e [] []).1 ∙ (e R D).1) ∙ whole t (step_within (lines Z N L B R D) t) (step_keeps (lines Z N L B R D) t))

-- The parts of a machine that was lent for one step: what is left behind the two borrows, C and W, is what the machine holds last, if they are the borrows that it was made of.
pub once_of : (Z N L B S H : List ℕ) (m : Machine) (r : Stepped) (m' : Machine) (C W : List ℕ) → Steps Z N L B S H m r m'
    → (m.cells.ghost_name ≡ m'.cells.ghost_name → C ≡ m'.cells.now) → (m.vals.ghost_name ≡ m'.vals.ghost_name → W ≡ m'.vals.now)
    → Moves Z N L B (tables_in S H m) (record { out = r; at = m'.at; steps = m'.steps; value = m'.value }) C W
once_of Z N L B S H m r m' C W e cells vals R D =
    let t : MTables = tables_in S H m in
    let u : MTables = step_within (lines Z N L B R D) t in
    let same : m' ≡ lent_to m u = (e R D).1 in
    let c : C ≡ m'.cells.now = cells (ap (λ (x : Machine). x.cells.ghost_name) (sym same)) in
    let w : W ≡ m'.vals.now = vals (ap (λ (x : Machine). x.vals.ghost_name) (sym same)) in
    ((e R D).0, (λ i. parts S H (c i) (w i) m'.at m'.steps m'.value) ∙ ap (tables_in S H) same ∙ whole t u (step_keeps (lines Z N L B R D) t))
