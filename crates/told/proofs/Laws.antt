-- What was written is what the rules print, and lies within the table. Assumes nothing.
use borrow.Table.Elements.{take-le}
use Rattle.io.specs.Counts.{IsPrefixLen}
use Rattle.std.specs.Prelude.{◌≤◌, ◌≡◌}
use Rattle.rules.specs.Prelude.{ℕ, List, sym, ap, subst, ◌∙◌, length, take}
use Rattle.rules.specs.declared.Answer.{Answer}
use Rattle.rules.specs.declared.Verdict.{Verdict}
use Rattle.rules.specs.Answers.{case_of, answer_of}
use Rattle.rules.specs.Check.{verdict}
use Rattle.rules.specs.Run.{Result, answer_text, result_text, running, check_prints, run_prints}
use Rattle.checker.specs.Verdicts.{answered}
use Rattle.prints.specs.Written.{printed}
use Rattle.prints.specs.Room.{answer_room, result_room, whole}

abbrev Shown : List ℕ → List ℕ → ℕ → Type 0
Shown w o n = (o ≡ printed w) × (n ≡ length w)

shown : (w o : List ℕ) (n : ℕ) → Shown w o n → length w ≤ 128 → Shown w o n × IsPrefixLen n o
shown w o n h room =
    let all : take n o ≡ w = (λ i. take (h.1 i) (h.0 i)) ∙ whole w room in
    let long : n ≡ length (take n o) = h.1 ∙ ap (λ (l : List ℕ). length l) (sym all) in
    (h, (subst (λ (k : ℕ). k ≤ length o) (sym long) (take-le n o), long))

pub check_shown : (s : List ℕ) (v : Verdict) (a : Answer) (o : List ℕ) (n : ℕ) → v ≡ case_of (verdict s) → a ≡ answer_of v → Shown (answer_text a) o n → Shown (check_prints s) o n × IsPrefixLen n o
unfolding check_prints
check_shown s v a o n e h p =
    let same : a ≡ verdict s = h ∙ answered s v e in
    shown (answer_text (verdict s)) o n (subst (λ (b : Answer). Shown (answer_text b) o n) same p) (answer_room (verdict s))

pub run_shown : (s : List ℕ) (x : Result) (o : List ℕ) (n : ℕ) → x ≡ running s → Shown (result_text x) o n → Shown (run_prints s) o n × IsPrefixLen n o
unfolding run_prints
run_shown s x o n e p = shown (result_text (running s)) o n (subst (λ (y : Result). Shown (result_text y) o n) e p) (result_room (running s))
