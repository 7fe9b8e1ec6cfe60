-- What it means that a machine has not gone wrong. Assumes nothing.
use Rattle.std.specs.Prelude.{T}
use Rattle.std.specs.Prelude.{◌<◌, ◌≡◌}
use Rattle.rules.specs.Machine.{Given}
use Rattle.rules.specs.Prelude.{ℕ, length, get_or, None, Some}
use Rattle.rules.specs.Prelude.S
use Rattle.rules.specs.Program.{Prog, kind_at, loosest, no_entry}
use Rattle.rules.specs.Machine.{Store, row_in, tag_in, cells_in, Machine, says}
use Rattle.rules.specs.Fits.{Entered, unreached, entered, env_at, fits}

-- it has returned a value that fits `ret` as `any,0,any`, or it is able to step
abbrev pub GoesOn : Prog → Machine → Given → Type 0
GoesOn P m None = says P m ≡ S.Moved
GoesOn P m (Some d) = T (fits P.rows m.store P.ret loosest (Some d))

-- its variables fit the environment of its line
abbrev pub VariablesFit : Prog → Machine → Entered → Type 0
VariablesFit P m unreached = ⊥
VariablesFit P m (entered Γ) = (v : ℕ) → v < length P.vars → T (fits P.rows m.store (kind_at P.vars v) (get_or Γ.entries v no_entry) (get_or m.vals v None))

-- every block of the store z has the tag, length and row that it has in s
pub record SameBlocks (s z : Store) : Type 0 where
  pub count : length z ≡ length s
  pub row : (b : ℕ) → row_in z b ≡ row_in s b
  pub tag : (b : ℕ) → tag_in z b ≡ tag_in s b
  pub length : (b : ℕ) → cells_in z b ≡ cells_in s b

-- all three, of a machine that started as `from`
pub record NotWrong (P : Prog) (from m : Machine) : Type 0 where
  pub goes_on : GoesOn P m m.value
  pub variables : VariablesFit P m (env_at P m.at)
  pub blocks : SameBlocks from.store m.store
