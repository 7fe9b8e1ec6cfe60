-- A machine in parts: the tables that its parts make, what a step of them must give, and what it is to do what a line decides. Assumes nothing.
use Rattle.std.specs.Prelude.{◌≡◌}
use Rattle.std.specs.Prelude.{◌<◌}
use Rattle.rules.specs.Prelude.{ℕ, true, List, get_or}
use Rattle.rules.specs.declared.Act.{Act}
use Rattle.rules.specs.declared.Act.TheVariants as D
use Rattle.rules.specs.Program.{Prog}
use Rattle.rules.specs.View.{program}
use Rattle.rules.specs.Machine.{says_act}
use Rattle.rules.specs.Machine.Tables.{MTables, apply_t, step_within, says_within}
use Rattle.entry.specs.Codes.{writable}
use Rattle.program.specs.Lines.{tables_of}
use Rattle.moves.specs.declared.Moved.{Moved}

-- the program of four tables that a step reads, with rows R and variables D
abbrev pub lines : List ℕ → List ℕ → List ℕ → List ℕ → List ℕ → List ℕ → Prog
lines Z N L B R D = program (tables_of Z N R D L B)

-- numbers of 64 bits, as every table of them holds
abbrev pub Words : List ℕ → Type 0
Words l = (i : ℕ) → get_or l i 0 < 18446744073709551616

-- the tables that the parts of a machine make
abbrev pub parts : List ℕ → List ℕ → List ℕ → List ℕ → ℕ → ℕ → ℕ → MTables
parts S H C W i n v = record { size = S; heads = H; cells = C; vals = W; at = i; steps = n; value = v }

-- one step of the tables t says what r says, and leaves the lists C and W and the numbers of r, for whatever rows and variables the program has: no step reads what stands in their tables
abbrev pub Moves : List ℕ → List ℕ → List ℕ → List ℕ → MTables → Moved → List ℕ → List ℕ → Type 0
Moves Z N L B t r C W =
    (R D : List ℕ) → (r.out ≡ says_within (lines Z N L B R D) t) × (parts t.size t.heads C W r.at r.steps r.value ≡ step_within (lines Z N L B R D) t)

-- what is decided can be done: the line after this one has a number, and what is to be stored or given has a code of 64 bits
abbrev pub Ready : Act → ℕ → Type 0
Ready D.Stuck i = Unit
Ready D.Fall i = i < 512
Ready (D.Jump j) i = Unit
Ready (D.SetVar v d) i = (i < 512) × (writable d ≡ true)
Ready (D.SetCell b o d) i = (i < 512) × (writable d ≡ true)
Ready (D.Give d) i = writable d ≡ true

-- the tables of t after the act a, with the lists C and W and the numbers of r
abbrev pub Applies : Act → MTables → Moved → List ℕ → List ℕ → Type 0
Applies a t r C W = (r.out ≡ says_act a) × (parts t.size t.heads C W r.at r.steps r.value ≡ apply_t a t)
