-- Every answer that the rules give is that of a case, and no two cases have the same answer. Assumes nothing.
pub mod Numbers
pub mod Glue
pub mod Store
use Rattle.std.proofs.Common.{ltb→lt}
use Rattle.std.specs.Prelude.{◌<◌, ◌≡◌}
use Rattle.rules.specs.Prelude.{ℕ, List, refl, sym, ap, ◌∙◌, Verdict}
use Rattle.rules.specs.Prelude.C
use Rattle.rules.specs.Answers.{answer_of, case_of}
use Rattle.rules.specs.Program.{Prog}
use Rattle.rules.specs.Check.{verdict}
use Rattle.rules.specs.Store.{read_store}
use Rattle.rules.proofs.Laws.Told.Numbers.{InStore, NoLine, no_line}
use Rattle.rules.proofs.Laws.Told.Glue.{glue_told}
use Rattle.rules.proofs.Laws.Told.Store.{store_told}

-- ---- a case has one number and line, and no two cases have the same

pub case_again : (v : Verdict) → case_of (answer_of v) ≡ v
unfolding case_of
case_again C.Accepted = refl
case_again C.TooLong = refl
case_again (C.Shape l) = refl
case_again (C.Limit l) = refl
case_again (C.Absent l) = refl
case_again (C.IntEntry l) = refl
case_again (C.WrongKind l) = refl
case_again (C.NotKnown l) = refl
case_again (C.Outside l) = refl
case_again (C.NotAllowed l) = refl
case_again (C.NotZero l) = refl
case_again (C.NotCovered l) = refl
case_again (C.NotReached l) = refl
case_again (C.NoEnd l) = refl
case_again C.StoreTooLong = refl
case_again (C.StoreShape l) = refl
case_again (C.StoreLimit l) = refl
case_again (C.StoreAbsent l) = refl
case_again (C.StoreBlock l) = refl
case_again (C.StoreCell l) = refl
case_again (C.StoreArgument l) = refl

pub cases_apart : (v w : Verdict) → answer_of v ≡ answer_of w → v ≡ w
cases_apart v w e = sym (case_again v) ∙ ap case_of e ∙ case_again w

-- ---- every answer has a case

-- the answer to a glue text has a case, of the first table; 0 and 1 name no line
pub told_verdict : (s : List ℕ) → answer_of (case_of (verdict s)) ≡ verdict s
told_verdict s = (glue_told s).0

pub verdict_number : (s : List ℕ) → (verdict s).number < 14
verdict_number s = ltb→lt (verdict s).number 14 (glue_told s).1

pub verdict_line : (s : List ℕ) → NoLine (verdict s).number → (verdict s).line ≡ 0
verdict_line s = no_line (verdict s) (told_verdict s)

-- the answer to a store text has a case, accepted or of the second table; 0 and 21 name no line
pub told_store : (P : Prog) (s : List ℕ) → answer_of (case_of (read_store P s).answer) ≡ (read_store P s).answer
told_store P s = (store_told P s).0

pub store_number : (P : Prog) (s : List ℕ) → InStore (read_store P s).answer.number
store_number P s = (store_told P s).1

pub store_line_lem : (P : Prog) (s : List ℕ) → NoLine (read_store P s).answer.number → (read_store P s).answer.line ≡ 0
store_line_lem P s = no_line (read_store P s).answer (told_store P s)
