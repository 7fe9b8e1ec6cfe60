-- Numbers of the answers: a number and the line that it names; the earliest stage wins, then the earliest line. Assumes nothing.
-- 0 accepted, line 0 · 1 text too long, line 0 · 2 wrong shape, key order, number, or count of label entries · 3 a limit is passed
-- 4 a row, variable or label named that does not exist · 5 entry of an int variable that is not `any,0,T`
-- 6 int where a value is needed or the reverse, or another row · 7 boxedness, offset or tag not known as needed · 8 tag or offset outside the row
-- 9 immediate not allowed by PSI · 10 offset must be 0 and is not known to be · 11 environment not covered by the label
-- 12 a body line after `goto` or `return` that is no label · 13 last line of the file is neither `goto` nor `return`
-- Store: 21 too long, line 0 · 22 shape, or too few or many `arg` lines · 23 limit · 24 row or block absent
-- 25 tag not in the row or wrong number of cells · 26 a cell does not fit `any,0,any` · 27 an argument does not fit
use Rattle.std.specs.Prelude.{◌+◌, ◌-◌, ◌∷◌}
use Rattle.rules.specs.Prelude.{ℕ, Bool, List, [], ltb, eqb, get_or, Result, Ok, Err, Answer, Verdict}
use Rattle.rules.specs.Prelude.C
use Rattle.rules.specs.When.{One, when}

abbrev pub answer : ℕ → ℕ → Answer
answer n l = record { number = n; line = l }

abbrev pub accepted : Answer
accepted = answer 0 0

abbrev pub passes : Answer → Bool
passes a = eqb a.number 0

-- a stage, and the next one if it refuses nothing
abbrev pub and_then : Answer → (One → Answer) → Answer
and_then a later = when (passes a) later (λ _. a)

-- an answer as code hands it on: nothing where it is 0, and else as an error
abbrev pub outcome : Answer → Result Unit Answer
outcome a = when (passes a) (λ _. Ok tt) (λ _. Err a)

-- a stage line by line: the first of the numbers, one for each line from `line` on, that is not 0
unfoldable pub first : ℕ → List ℕ → Answer
first line [] = accepted
first line (a ∷ rest) = when (eqb a 0) (λ _. first (line + 1) rest) (λ _. answer a line)

-- ---- the answer as a case: its number and line, and the case of a number and a line

abbrev pub answer_of : Verdict → Answer
answer_of C.Accepted = accepted
answer_of C.TooLong = answer 1 0
answer_of (C.Shape l) = answer 2 l
answer_of (C.Limit l) = answer 3 l
answer_of (C.Absent l) = answer 4 l
answer_of (C.IntEntry l) = answer 5 l
answer_of (C.WrongKind l) = answer 6 l
answer_of (C.NotKnown l) = answer 7 l
answer_of (C.Outside l) = answer 8 l
answer_of (C.NotAllowed l) = answer 9 l
answer_of (C.NotZero l) = answer 10 l
answer_of (C.NotCovered l) = answer 11 l
answer_of (C.NotReached l) = answer 12 l
answer_of (C.NoEnd l) = answer 13 l
answer_of C.StoreTooLong = answer 21 0
answer_of (C.StoreShape l) = answer 22 l
answer_of (C.StoreLimit l) = answer 23 l
answer_of (C.StoreAbsent l) = answer 24 l
answer_of (C.StoreBlock l) = answer 25 l
answer_of (C.StoreCell l) = answer 26 l
answer_of (C.StoreArgument l) = answer 27 l

abbrev pub glue_cases : ℕ → List Verdict
glue_cases l =
    C.Accepted ∷ C.TooLong ∷ C.Shape l ∷ C.Limit l ∷ C.Absent l ∷ C.IntEntry l ∷ C.WrongKind l ∷ C.NotKnown l ∷ C.Outside l ∷ C.NotAllowed l ∷ C.NotZero l ∷ C.NotCovered l ∷ C.NotReached l ∷ C.NoEnd l ∷ []

abbrev pub store_cases : ℕ → List Verdict
store_cases l = C.StoreTooLong ∷ C.StoreShape l ∷ C.StoreLimit l ∷ C.StoreAbsent l ∷ C.StoreBlock l ∷ C.StoreCell l ∷ C.StoreArgument l ∷ []

-- a number that stands in neither table would be a refusal; none is given (Laws/Told)
unfoldable pub case_of : Answer → Verdict
case_of a =
    when (ltb a.number 21)
    (λ _. get_or (glue_cases a.line) a.number (C.Shape a.line))
    (λ _. get_or (store_cases a.line) (a.number - 21) (C.StoreShape a.line))

-- to compute with what stands here
unfoldable pub answers : One
unfolding first case_of
answers = tt
