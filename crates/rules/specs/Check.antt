-- The answer to a glue text: stages 1; 2 and 3; 4 and 5; 6 to 12; 13. The earliest stage wins, then the earliest line. Assumes nothing.
use Rattle.rules.specs.Prelude.{ℕ, List, Answer}
use Rattle.rules.specs.When.{One, when}
use Rattle.rules.specs.Numbers.{numbers}
use Rattle.rules.specs.Answers.{and_then, passes}
use Rattle.rules.specs.declared.Tables.{Tables}
use Rattle.rules.specs.Text.Layout.{zeros}
use Rattle.rules.specs.Text.{TextOut, read_text, texts}
use Rattle.rules.specs.Program.{Prog}
use Rattle.rules.specs.View.{program, views}
use Rattle.rules.specs.Names.{names, naming}
use Rattle.rules.specs.Body.{types, ends, bodies}

-- a program that was read: 4 to 13
unfoldable pub check : Prog → Answer
check P = and_then (names P) (λ _. and_then (types P) (λ _. ends P))

-- the answer, and the tables: zero on 1 to 13
pub record Checked : Type 0 where
  pub verdict : Answer
  pub tables : Tables

abbrev pub kept : Answer → Tables → Checked
kept a t = record { verdict = a; tables = when (passes a) (λ _. t) (λ _. zeros) }

abbrev pub check_read : TextOut → Checked
check_read o = kept (and_then o.answer (λ _. check (program o.tables))) o.tables

unfoldable pub checked : List ℕ → Checked
checked s = check_read (read_text s)

-- one function from the bytes to the answer's number and line
unfoldable pub verdict : List ℕ → Answer
verdict s = (checked s).verdict

-- to compute with what stands here
unfoldable pub checks : One
unfolding numbers texts views naming bodies check checked verdict
checks = tt
