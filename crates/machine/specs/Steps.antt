-- A machine whose tables are lent: the tables that it stands for, the machine that tables make of it, and what a step and a run must give. Assumes nothing.
use Rattle.std.specs.Prelude.{◌≡◌}
use denote.Ref.{at_last}
use Rattle.rules.specs.Prelude.{ℕ, List}
use Rattle.rules.specs.declared.Stepped.{Stepped}
use Rattle.rules.specs.Machine.Tables.{MTables, step_within, says_within, run_within}
use Rattle.moves.specs.declared.Moved.{Moved}
use Rattle.moves.specs.Moves.{lines, parts}
use Rattle.machine.specs.declared.Machine.{Machine}

-- the store's sizes and the blocks' heads stand beside the machine: no step alters them
abbrev pub tables_in : List ℕ → List ℕ → Machine → MTables
tables_in S H m = parts S H m.cells.now m.vals.now m.at m.steps m.value

-- the same borrows, at the lists and the numbers of other tables
abbrev pub lent_to : Machine → MTables → Machine
lent_to m t = record { cells = at_last m.cells t.cells; vals = at_last m.vals t.vals; at = t.at; steps = t.steps; value = t.value }

-- one step of the machine at m says r and leaves m', for whatever rows and variables the program has: no step reads what stands in their tables
abbrev pub Steps : List ℕ → List ℕ → List ℕ → List ℕ → List ℕ → List ℕ → Machine → Stepped → Machine → Type 0
Steps Z N L B S H m r m' =
    (R D : List ℕ) → (r ≡ says_within (lines Z N L B R D) (tables_in S H m)) × (m' ≡ lent_to m (step_within (lines Z N L B R D) (tables_in S H m)))

-- a whole run: what its budget leaves, and what a step says there
abbrev pub Runs : List ℕ → List ℕ → List ℕ → List ℕ → MTables → Moved → List ℕ → List ℕ → Type 0
Runs Z N L B t r C W =
    (R D : List ℕ) → (r.out ≡ says_within (lines Z N L B R D) (run_within (lines Z N L B R D) t))
    × (parts t.size t.heads C W r.at r.steps r.value ≡ run_within (lines Z N L B R D) t)
