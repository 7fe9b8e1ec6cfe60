-- The three demands, of the code: `demand1`, `demand2` and `demand3` are proofs of the three statements above them.
-- A premise that begins with `Says`, `Steps`, `Runs` or `told` is the contract of the function that is named above it, as its crate states it;
-- what follows holds of every result and every table that the contract allows. That a function returns, and reads nothing outside a table, is part of its being proved.
-- docs/PROMISES.md says where each name is defined. Assumes nothing.
use Rattle.std.specs.Prelude.{◌-◌, ◌≡◌, ◌↔◌, Err}
use Rattle.rules.specs.Prelude.{ℕ, List, [], sym, ap, subst, ◌∙◌, get_or}
use Rattle.rules.specs.declared.Answer.{Answer}
use Rattle.rules.specs.declared.Verdict.{Verdict}
use Rattle.rules.specs.declared.Verdict.TheVariants as K
use Rattle.rules.specs.declared.Stepped.{Stepped}
use Rattle.rules.specs.declared.Stepped.TheVariants as T
use Rattle.rules.specs.Answers.{accepted, answer_of}
use Rattle.rules.specs.Text.Layout.{zeros}
use Rattle.rules.specs.Text.{read_text}
use Rattle.rules.specs.Program.{Prog}
use Rattle.rules.specs.Names.{names}
use Rattle.rules.specs.Published.{Derivable}
use Rattle.rules.specs.Check.{checked, verdict}
use Rattle.rules.specs.Machine.{step_of, run_of}
use Rattle.rules.specs.Machine.Tables.{MTables, machine}
use Rattle.rules.specs.Store.Fill.{no_store_tables}
use Rattle.rules.specs.Store.{read_store}
use Rattle.rules.specs.Run.{running}
use Rattle.rules.proofs.Laws.Accepts.{read_as, refused_tables, verdict_plain}
use Rattle.rules.proofs.Laws.Told.{cases_apart}
use Rattle.rules.proofs.Exactly.Derivable.{text_exactly}
use Rattle.rules.proofs.Sound.StepTables.{Roomy}
use Rattle.table.proofs.Passes.{refuses}
use Rattle.rules.specs.declared.Tables.{Tables}
use Rattle.rules.specs.declared.StoreTables.{StoreTables}
use Rattle.program.specs.Lines.{tables_of}
use Rattle.checker.specs.Says as C
use Rattle.checker.specs.Verdicts.{said}
use Rattle.store.specs.Says as S
use Rattle.moves.specs.declared.Moved.{Moved}
use Rattle.moves.specs.Moves.{lines, parts}
use Rattle.machine.specs.declared.Machine.{Machine}
use Rattle.machine.specs.Steps.{tables_in, lent_to, Steps, Runs}
use Rattle.machine.proofs.Runs.{Rests, step_rests}
use Rattle.runner.specs.declared.Ran.{Ran}
use Rattle.runner.specs.Ran.{told}
use Rattle.demands.specs.Fine.{Fine}
use Rattle.demands.specs.Laws.{kept_zero, one_step, ran_on, fine}

-- ---- 1. Any text in gets an answer. A refusal has its number and line (2 says which), and the tables it was to fill are all zero. A step that cannot be taken changes nothing.

pub record AnyTextIsAnswered : Type 0 where
  -- checker::check
  pub refused_zero : (s : List ℕ) (v : Verdict) (t : Tables) → C.Says (checked s) v t → (v ≡ K.Accepted → ⊥) → t ≡ zeros
  -- store::read. The program's tables are only read
  pub refused_store_zero : (P : Prog) (s : List ℕ) (a : Answer) (t : StoreTables) → S.Says (read_store P s) (Err a) t → t ≡ no_store_tables
  -- machine::step
  pub stuck_changes_nothing : (Z N L B S H : List ℕ) (m m' : Machine) (r : Stepped) → Steps Z N L B S H m r m' → r ≡ T.Stuck → m' ≡ m

pub demand1 : AnyTextIsAnswered
demand1 = record {
  refused_zero = λ s v t h ruled.
      let z : ((verdict s).number ≡ 0 → ⊥) = λ e. ruled (cases_apart v K.Accepted (said s v t h ∙ verdict_plain s e)) in
      h.tables ∙ refused_tables s z;
  refused_store_zero = λ P s a t h. h.tables ∙ kept_zero P s (refuses (read_store P s).answer h.answer).0;
  stuck_changes_nothing = λ Z N L B S H m m' r h e.
      (h [] []).1 ∙ ap (lent_to m) (step_rests (lines Z N L B [] []) (tables_in S H m) (subst Rests (sym e ∙ (h [] []).0) tt));
}

-- ---- 2. The verdict is that of the published rules. Each step is the step of the written machine, and the count is the number of those steps.

pub record VerdictAndStepsAreTheRules : Type 0 where
  -- checker::check: the number and the line
  pub verdict_of_the_rules : (s : List ℕ) (v : Verdict) (t : Tables) → C.Says (checked s) v t → answer_of v ≡ verdict s
  -- accepted exactly if the text reads, what it names is there, and every statement is derivable
  pub accepted_exactly : (s : List ℕ) (v : Verdict) (t : Tables) → C.Says (checked s) v t
      → (v ≡ K.Accepted) ↔ (((read_text s).answer ≡ accepted) × (names (read_as s) ≡ accepted) × Derivable (read_as s))
  -- machine::step, on tables of their fixed lengths, while the budget lasts
  pub step_of_the_machine : (Z N R D L B S H : List ℕ) (m m' : Machine) (r : Stepped) → Steps Z N L B S H m r m' → Roomy (tables_in S H m) → (r ≡ T.Spent → ⊥)
      → machine (lines Z N L B R D) (tables_in S H m') ≡ step_of (lines Z N L B R D) (machine (lines Z N L B R D) (tables_in S H m))
  -- machine::run: all the steps that the budget leaves, one by one
  pub run_of_the_machine : (Z N R D L B : List ℕ) (t : MTables) (r : Moved) (C W : List ℕ) → Runs Z N L B t r C W → Roomy t
      → machine (lines Z N L B R D) (parts t.size t.heads C W r.at r.steps r.value) ≡ run_of (lines Z N L B R D) (get_or t.size 0 0 - t.steps) (machine (lines Z N L B R D) t)

pub demand2 : VerdictAndStepsAreTheRules
demand2 = record {
  verdict_of_the_rules = said;
  accepted_exactly = λ s v t h. (
    (λ e. (text_exactly s).0 (sym (said s v t h) ∙ ap answer_of e)),
    λ d. cases_apart v K.Accepted (said s v t h ∙ (text_exactly s).1 d),
  );
  step_of_the_machine = one_step;
  run_of_the_machine = λ Z N R D L B t r C W h room. ap (machine (lines Z N L B R D)) (h R D).1 ∙ ran_on (tables_of Z N R D L B) t room;
}

-- ---- 3. What was accepted cannot go wrong.

-- runner::run
pub demand3 : (s : List ℕ) (r : Ran) → told r ≡ running s → r.answer ≡ K.Accepted → Fine s r
demand3 s r h e = fine s r h e
