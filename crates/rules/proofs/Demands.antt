-- Demand 3, of the definitions, from the bytes of two texts. The three demands of the code stand in crates/demands/specs/Demands.antt, and rest on this one. Assumes nothing.
use Rattle.std.specs.Prelude.{◌≡◌}
use Rattle.rules.specs.Prelude.{ℕ, List, None}
use Rattle.rules.specs.Answers.{accepted}
use Rattle.rules.specs.Program.{Prog}
use Rattle.rules.specs.View.{program}
use Rattle.rules.specs.Check.{checked, verdict}
use Rattle.rules.specs.Machine.Tables.{machine, run_t}
use Rattle.rules.specs.Machine.{Machine}
use Rattle.rules.specs.Store.{read_store}
use Rattle.rules.specs.Run.{start}
use Rattle.rules.specs.Wrong.{NotWrong}
use Rattle.rules.proofs.Sound.Texts.{passed_counts, passed_never_wrong, accepted_check}

-- the program that a glue text is read as
abbrev pub program_of : List ℕ → Prog
program_of glue = program (checked glue).tables

-- the machine that a store text starts it as, after n steps
abbrev pub after : List ℕ → List ℕ → ℕ → Machine
after glue store n = machine (program_of glue) (run_t (program_of glue) n (start (read_store (program_of glue) store).tables))

-- What was accepted cannot go wrong: for an accepted glue text, a store text that passes its check, and any number of steps,
-- the machine has returned a value that fits `ret`, or it can step; its variables fit the environment of its line; every block has the tag, length and row it started with.
pub demand3 : (glue store : List ℕ) → verdict glue ≡ accepted → (read_store (program_of glue) store).answer ≡ accepted
    → (n : ℕ) → NotWrong (program_of glue) (after glue store 0) (after glue store n)
unfolding run_t
demand3 glue store ok fits n = passed_never_wrong (checked glue).tables (accepted_check glue ok) store fits n

-- The count is the number of steps: until the return, n steps have been counted after n steps. (A returned machine stays as it is and counts no more: Laws/Steps, returned_stays.)
pub counted : (glue store : List ℕ) → verdict glue ≡ accepted → (read_store (program_of glue) store).answer ≡ accepted
    → (n : ℕ) → (after glue store n).value ≡ None → (after glue store n).steps ≡ n
counted glue store ok fits n = passed_counts (checked glue).tables (accepted_check glue ok) store fits n
