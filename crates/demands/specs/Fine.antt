-- What demand 3 says of a run that was not refused. Assumes nothing.
use Rattle.std.specs.Prelude.{◌≡◌, None}
use Rattle.rules.specs.Prelude.{ℕ, List, get_or}
use Rattle.rules.specs.Machine.{Machine}
use Rattle.rules.specs.Store.{read_store}
use Rattle.rules.specs.Run.{glue_of, store_text_of}
use Rattle.rules.specs.Wrong.{NotWrong}
use Rattle.rules.proofs.Demands.{program_of, after}
use Rattle.runner.specs.declared.Ran.{Ran}

-- the budget that a joined text gives
abbrev pub budget_of : List ℕ → ℕ
budget_of s = get_or (read_store (program_of (glue_of s)) (store_text_of s)).tables.size 0 0

-- a joined text's machine after n steps
abbrev pub machine_at : List ℕ → ℕ → Machine
machine_at s n = after (glue_of s) (store_text_of s) n

-- What is told is the machine's value and count after as many steps as the budget allows. That machine has not gone wrong, and neither has it after any other number of steps;
-- where no value is told, all the steps of the budget were taken.
pub record Fine (s : List ℕ) (r : Ran) : Type 0 where
  pub never_wrong : (n : ℕ) → NotWrong (program_of (glue_of s)) (machine_at s 0) (machine_at s n)
  pub value : r.value ≡ (machine_at s (budget_of s)).value
  pub steps : r.steps ≡ (machine_at s (budget_of s)).steps
  pub all_taken : r.value ≡ None → r.steps ≡ budget_of s
