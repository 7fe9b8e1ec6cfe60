-- What the checker answers has the number and the line of the rules. Assumes nothing.
use Rattle.std.specs.Prelude.{◌≡◌}
use Rattle.rules.specs.Prelude.{ℕ, List, ap, ◌∙◌}
use Rattle.rules.specs.declared.Tables.{Tables}
use Rattle.rules.specs.declared.Verdict.{Verdict}
use Rattle.rules.specs.Answers.{answer_of, case_of}
use Rattle.rules.specs.Check.{checked, verdict}
use Rattle.rules.proofs.Laws.Told.{told_verdict}
use Rattle.checker.specs.Says.{Says}

-- by the contract of `answer`
pub answered : (s : List ℕ) (v : Verdict) → v ≡ case_of (verdict s) → answer_of v ≡ verdict s
answered s v e = ap answer_of e ∙ told_verdict s

-- by the contract of `check`
pub said : (s : List ℕ) (v : Verdict) (t : Tables) → Says (checked s) v t → answer_of v ≡ verdict s
unfolding verdict
said s v t h = answered s v h.answer
