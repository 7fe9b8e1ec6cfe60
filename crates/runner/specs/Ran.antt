-- What the running program says of a joined text, as the rules' result. Assumes nothing.
use Rattle.rules.specs.Prelude.{ℕ}
use Rattle.rules.specs.Machine.{Given}
use Rattle.rules.specs.Answers.{accepted, answer_of}
use Rattle.rules.specs.Run.{Result, state_of}
use Rattle.runner.specs.declared.Ran.{Ran}

abbrev pub told : Ran → Result
told r = record { answer = answer_of r.answer; state = r.state; steps = r.steps; value = r.value }

-- the result of a run that was not refused
abbrev pub ended : ℕ → Given → Result
ended n g = record { answer = accepted; state = state_of g; steps = n; value = g }
