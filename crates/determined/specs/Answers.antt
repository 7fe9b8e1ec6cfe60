-- The contracts of answers, checker, runner, prints, told and export determine. Assumes nothing.
use Rattle.std.specs.Prelude.{◌≡◌}
use Rattle.rules.specs.Prelude.{ℕ, List, refl}
use Rattle.rules.specs.declared.Verdict.{Verdict}
use Rattle.rules.specs.Check.{Checked}
use Rattle.rules.proofs.Laws.Told.{cases_apart}
use Rattle.checker.specs.Says.{Says}
use Rattle.runner.specs.declared.Ran.{Ran}
use Rattle.runner.specs.Ran as R
use Rattle.determined.specs.Determined.{Determined, one, result, both, skip}
use Rattle.answers.specs.contracts as answers_clauses
use Rattle.answers.proofs as answers
use Rattle.checker.specs.contracts as checker_clauses
use Rattle.checker.proofs as checker
use Rattle.runner.specs.contracts as runner_clauses
use Rattle.runner.proofs as runner
use Rattle.prints.specs.contracts as prints_clauses
use Rattle.prints.proofs as prints
use Rattle.told.specs.contracts as told_clauses
use Rattle.told.proofs as told
use Rattle.export.specs.contracts as export_clauses
use Rattle.export.proofs as export

-- what is told of a run says which run it is: no two cases have the same answer
told_apart : {r q : Ran} → R.told r ≡ R.told q → r ≡ q
told_apart {r} {q} e i = record { answer = cases_apart r.answer q.answer (λ j. (e j).answer) i; state = (e i).state; steps = (e i).steps; value = (e i).value }

-- ---- answers

pub answers_case_of : Determined answers_clauses.case_of.ended answers.case_of.Reads.Learnt
answers_case_of κs a x y s t = result

pub answers_answer_of : Determined answers_clauses.answer_of.ended answers.answer_of.Reads.Learnt
answers_answer_of κs a x y s t = result

-- ---- checker

pub checker_check : Determined checker_clauses.check.ended checker.check.Reads.Learnt
checker_check κs a x y s t h k = (one h.answer k.answer, skip (both (one h.tables k.tables) refl))

pub checker_answer : Determined checker_clauses.answer.ended checker.answer.Reads.Learnt
checker_answer κs a x y s t = result

-- ---- runner

pub runner_run : Determined runner_clauses.run.ended runner.run.Reads.Learnt
runner_run κs a x y s t h k = (told_apart (one h k), refl)

-- ---- prints

pub prints_answer_text : Determined prints_clauses.answer_text.ended prints.answer_text.Reads.Learnt
prints_answer_text κs a x y s t h k = (one h.1 k.1, skip (both (one h.0 k.0) refl))

pub prints_result_text : Determined prints_clauses.result_text.ended prints.result_text.Reads.Learnt
prints_result_text κs a x y s t h k = (one h.1 k.1, skip (skip (skip (skip (both (one h.0 k.0) refl)))))

-- ---- told

pub told_check_prints : Determined told_clauses.check_prints.ended told.check_prints.Reads.Learnt
told_check_prints κs a x y s t h k = (one h.0.1 k.0.1, skip (both (one h.0.0 k.0.0) refl))

pub told_run_prints : Determined told_clauses.run_prints.ended told.run_prints.Reads.Learnt
told_run_prints κs a x y s t h k = (one h.0.1 k.0.1, skip (both (one h.0.0 k.0.0) refl))

-- ---- export

pub export_tapmallet_check : Determined export_clauses.tapmallet_check.ended export.tapmallet_check.Reads.Learnt
export_tapmallet_check κs a x y s t h k = (one h.0 k.0, skip (both (one h.1 k.1) refl))

pub export_tapmallet_run : Determined export_clauses.tapmallet_run.ended export.tapmallet_run.Reads.Learnt
export_tapmallet_run κs a x y s t h k = (one h.1 k.1, skip (both (one h.0 k.0) refl))
