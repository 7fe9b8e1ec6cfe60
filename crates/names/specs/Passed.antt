-- What a line's number says to code that goes on or not: 0 lets it go on, any other number is an error, and with its line an answer. Assumes nothing.
use Rattle.rules.specs.Prelude.{ℕ, zero, suc, Result, Ok, Err}
use Rattle.rules.specs.declared.Answer.{Answer}
use Rattle.rules.specs.Answers.{answer}

abbrev pub passed : ℕ → Result Unit ℕ
passed zero = Ok tt
passed (suc n) = Err (suc n)

abbrev pub on_line : ℕ → Result Unit ℕ → Result Unit Answer
on_line line (Ok x) = Ok tt
on_line line (Err n) = Err (answer n line)
