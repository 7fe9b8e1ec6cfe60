-- What the demands of the code rest on. Assumes nothing.
use Rattle.std.proofs.Common.{eq-eqb, ne_eqb, eqb-true}
use Rattle.std.specs.Prelude.{◌+◌, ◌-◌, ◌≡◌}
use Rattle.rules.specs.Prelude.{ℕ, Bool, true, false, List, refl, sym, ap, ◌∙◌, ltb, length, get_or}
use Rattle.rules.specs.declared.Answer.{Answer}
use Rattle.rules.specs.declared.Stepped.{Stepped}
use Rattle.rules.specs.declared.Stepped.TheVariants as T
use Rattle.rules.specs.declared.Verdict.TheVariants as K
use Rattle.rules.specs.When.{when}
use Rattle.rules.specs.Limits.{limits}
use Rattle.rules.specs.Answers.{answer, accepted, answer_of, case_of, passes}
use Rattle.rules.specs.declared.Tables.{Tables}
use Rattle.rules.specs.Program.{Prog}
use Rattle.rules.specs.View.{program}
use Rattle.rules.specs.Check.{Checked, checked, verdict}
use Rattle.rules.specs.Machine.{step_of, run_of, says}
use Rattle.rules.specs.Machine.Tables.{MTables, machine, step_t, run_t, spent, step_within, says_within, run_within}
use Rattle.rules.specs.Store.Text.{Counted, counted_out, store_lines, most_store_lines, no_store}
use Rattle.rules.specs.declared.StoreTables.{StoreTables}
use Rattle.rules.specs.Store.Fill.{no_store_tables, fill_store}
use Rattle.rules.specs.Store.{StoreOut, kept_store, judged, params_of, read_store}
use Rattle.rules.specs.Run.{Result, start, refused, result_of, run_store, run_checked, glue_of, store_text_of, running}
use Rattle.rules.proofs.Demands.{program_of, demand3, counted}
use Rattle.rules.proofs.Laws.Accepts.{verdict_plain}
use Rattle.rules.proofs.Laws.Told.{told_store}
use Rattle.rules.proofs.Sound.StepTables.{Roomy, step_tables, run_tables}
use Rattle.program.specs.Lines.{tables_of}
use Rattle.moves.specs.Moves.{lines}
use Rattle.machine.specs.declared.Machine.{Machine}
use Rattle.machine.specs.Steps.{tables_in, Steps}
use Rattle.machine.proofs.Laws.{step_keeps, whole}
use Rattle.runner.specs.declared.Ran.{Ran}
use Rattle.runner.specs.Ran.{told}
use Rattle.demands.specs.Fine.{budget_of, machine_at, Fine}

-- ---- a refused store

kept_nothing : (a : Answer) (o : StoreTables) → (a.number ≡ 0 → ⊥) → (kept_store a o).tables ≡ no_store_tables
kept_nothing a o h = rw (ne_eqb a.number 0 h)

judged_nothing : (P : Prog) (s : List ℕ) (c : Counted) → ((judged P s c).answer.number ≡ 0 → ⊥) → (judged P s c).tables ≡ no_store_tables
judged_nothing P s (counted_out a c) h = kept_nothing (judged P s (counted_out a c)).answer (fill_store s P.vars c) h

abbrev read_by : Prog → List ℕ → Bool → StoreOut
read_by P s b = when b (λ _. kept_store (answer 21 0) no_store_tables) (λ _. judged P s (store_lines s (params_of P.vars) (most_store_lines + 1) 1 0 no_store))

by_length : (P : Prog) (s : List ℕ) (b : Bool) → ((read_by P s b).answer.number ≡ 0 → ⊥) → (read_by P s b).tables ≡ no_store_tables
by_length P s true h = kept_nothing (answer 21 0) no_store_tables h
by_length P s false h = judged_nothing P s (store_lines s (params_of P.vars) (most_store_lines + 1) 1 0 no_store) h

pub kept_zero : (P : Prog) (s : List ℕ) → ((read_store P s).answer.number ≡ 0 → ⊥) → (read_store P s).tables ≡ no_store_tables
unfolding read_store
kept_zero P s = by_length P s (ltb limits.store (length s))

-- ---- steps

not_spent : (P : Prog) (t : MTables) (r : Stepped) → (r ≡ T.Spent → ⊥) → (b : Bool) → r ≡ when b (λ _. T.Spent) (λ _. says P (machine P t)) → when b (λ _. t) (λ _. step_t P t) ≡ step_t P t
not_spent P t r ruled true q = absurd (ruled q)
not_spent P t r ruled false q = refl

pub one_step : (Z N R D L B S H : List ℕ) (m m' : Machine) (r : Stepped) → Steps Z N L B S H m r m' → Roomy (tables_in S H m) → (r ≡ T.Spent → ⊥)
    → machine (lines Z N L B R D) (tables_in S H m') ≡ step_of (lines Z N L B R D) (machine (lines Z N L B R D) (tables_in S H m))
unfolding step_within says_within
one_step Z N R D L B S H m m' r h room ruled =
    let P : Prog = lines Z N L B R D in
    let t : MTables = tables_in S H m in
    ap (machine P) (ap (tables_in S H) (h R D).1 ∙ whole t (step_within P t) (step_keeps P t) ∙ not_spent P t r ruled (spent t) (h R D).0) ∙ step_tables (tables_of Z N R D L B) t room

pub ran_on : (T : Tables) (t : MTables) → Roomy t → machine (program T) (run_within (program T) t) ≡ run_of (program T) (get_or t.size 0 0 - t.steps) (machine (program T) t)
unfolding run_within
ran_on T t room = run_tables T (get_or t.size 0 0 - t.steps) t room

-- ---- a run that was not refused

zero_told : (a : Answer) → answer_of (case_of a) ≡ a → a.number ≡ 0 → a ≡ accepted
unfolding case_of
zero_told a e z = sym e ∙ rw z

glue_passed : (t : List ℕ) (c : Checked) → (run_checked t c).answer ≡ accepted → c.verdict.number ≡ 0
glue_passed t c = go (passes c.verdict) refl
  where
    go : (b : Bool) → passes c.verdict ≡ b → (when b (λ _. run_store (program c.tables) (read_store (program c.tables) t)) (λ _. refused c.verdict)).answer ≡ accepted → c.verdict.number ≡ 0
    go true q h = eqb-true c.verdict.number 0 q
    go false q h = ap (λ (a : Answer). a.number) h

store_passed : (P : Prog) (o : StoreOut) → (run_store P o).answer ≡ accepted → o.answer.number ≡ 0
store_passed P o = go (passes o.answer) refl
  where
    go : (b : Bool) → passes o.answer ≡ b → (when b (λ _. result_of (run_t P (get_or o.tables.size 0 0) (start o.tables))) (λ _. refused o.answer)).answer ≡ accepted → o.answer.number ≡ 0
    go true q h = eqb-true o.answer.number 0 q
    go false q h = ap (λ (a : Answer). a.number) h

module _ (s : List ℕ) (r : Ran) (h : told r ≡ running s) (e : r.answer ≡ K.Accepted) where
  abbrev P : Prog
  P = program_of (glue_of s)

  abbrev o : StoreOut
  o = read_store P (store_text_of s)

  says_accepted : (running s).answer ≡ accepted
  says_accepted = ap (λ (x : Result). x.answer) (sym h) ∙ ap answer_of e

  glue_zero : (verdict (glue_of s)).number ≡ 0
  unfolding running verdict
  glue_zero = glue_passed (store_text_of s) (checked (glue_of s)) says_accepted

  running_store : running s ≡ run_store P o
  unfolding running verdict
  running_store = rw (eq-eqb (checked (glue_of s)).verdict.number 0 glue_zero)

  store_zero : o.answer.number ≡ 0
  store_zero = store_passed P o (ap (λ (x : Result). x.answer) (sym running_store) ∙ says_accepted)

  tells : told r ≡ result_of (run_t P (budget_of s) (start o.tables))
  tells = h ∙ running_store ∙ rw (eq-eqb o.answer.number 0 store_zero)

  pub fine : Fine s r
  unfolding machine
  fine =
      let glue = verdict_plain (glue_of s) glue_zero in
      let store = zero_told o.answer (told_store P (store_text_of s)) store_zero in
      let value : r.value ≡ (machine_at s (budget_of s)).value = ap (λ (x : Result). x.value) tells in
      let steps : r.steps ≡ (machine_at s (budget_of s)).steps = ap (λ (x : Result). x.steps) tells in
      record {
        never_wrong = demand3 (glue_of s) (store_text_of s) glue store;
        value = value;
        steps = steps;
        all_taken = λ x. steps ∙ counted (glue_of s) (store_text_of s) glue store (budget_of s) (sym value ∙ x);
      }
