-- The texts of the programs fit a table of 128 bytes, so what is printed is the whole text. Assumes nothing.
use Rattle.std.proofs.Common.{length-append, arith}
use Rattle.std.proofs.lemmas.List.{length-replicate}
use Rattle.std.proofs.lemmas.List.Edits.{sets-eq}
use Rattle.std.proofs.Math.Seq.{take-append_seam}
use Rattle.std.specs.Prelude.{◌+◌, ◌/◌, ◌%◌, ◌≤◌, ◌∷◌, ◌≡◌, Some, None}
use Rattle.rules.specs.Prelude.{ℕ, zero, suc, List, [], ap, ◌∙◌, ltb, ℤ, pos, negsuc, length, take, drop, replicate}
use Rattle.rules.specs.declared.Answer.{Answer}
use Rattle.rules.specs.declared.Datum.TheVariants.{Int, Imm, Place}
use Rattle.rules.specs.Machine.{Given}
use Rattle.rules.specs.declared.State.{State}
use Rattle.rules.specs.declared.State.TheVariants as Q
use Rattle.rules.proofs.Laws.Tests.{by_when}
use Rattle.rules.specs.Run.{Result, digits_of, decimal, signed, value_text, state_text, answer_text, result_text}
use Rattle.prints.specs.Written.{put_all, printed}

-- ---- the longest of each

pub digits_room : (most n : ℕ) → length (digits_of most n) ≤ most
unfolding digits_of
digits_room zero n = omega arith
digits_room (suc most) n =
    by_when (λ (w : List ℕ). length w ≤ suc most) (ltb n 10) _ _
    (λ _. omega arith)
    (λ _. rw (length-append (digits_of most (n / 10)) ((48 + n % 10) ∷ [])) (omega (arith, digits_room most (n / 10))))

pub decimal_room : (n : ℕ) → length (decimal n) ≤ 20
unfolding decimal
decimal_room n = digits_room 20 n

pub signed_room : (z : ℤ) → length (signed z) ≤ 21
unfolding signed
signed_room (pos n) = omega (arith, decimal_room n)
signed_room (negsuc n) = omega (arith, decimal_room (n + 1))

pub value_room : (v : Given) → length (value_text v) ≤ 22
unfolding value_text
value_room None = omega arith
value_room (Some (Int n)) = omega (arith, signed_room n.n)
value_room (Some (Imm n)) = omega (arith, signed_room n.n)
value_room (Some (Place b o)) = omega (arith, decimal_room b)

pub state_room : (s : State) → length (state_text s) ≤ 7
state_room Q.Refused = omega arith
state_room Q.Running = omega arith
state_room Q.Done = omega arith

-- ---- what the programs print

pub answer_most : (a : Answer) → length (answer_text a) ≤ 54
unfolding answer_text
answer_most a = simp length-append (omega (arith, decimal_room a.number, decimal_room a.line))

pub answer_room : (a : Answer) → length (answer_text a) ≤ 128
answer_room a = omega (arith, answer_most a)

pub result_room : (r : Result) → length (result_text r) ≤ 128
unfolding result_text
result_room r = simp length-append (omega (arith, answer_most r.answer, state_room r.state, decimal_room r.steps, value_room r.value))

-- ---- a text that fits is printed whole

pub whole : (w : List ℕ) → length w ≤ 128 → take (length w) (printed w) ≡ w
unfolding printed put_all
whole w h =
    ap (take (length w)) (sets-eq w (replicate 128 0) 0 (rw length-replicate (omega arith)))
    ∙ take-append_seam w (drop (0 + length w) (replicate 128 0))

pub answer_whole : (a : Answer) → take (length (answer_text a)) (printed (answer_text a)) ≡ answer_text a
answer_whole a = whole (answer_text a) (answer_room a)

pub result_whole : (r : Result) → take (length (result_text r)) (printed (result_text r)) ≡ result_text r
result_whole r = whole (result_text r) (result_room r)
