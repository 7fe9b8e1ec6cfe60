-- What the tree at a node gives in the machine, with the node after it; and what a node gives, from what its operands give. Assumes nothing.
use Rattle.std.specs.Prelude.{◌≡◌, Some, None}
use Rattle.rules.specs.declared.Form.{Form}
use Rattle.rules.specs.declared.Form.TheVariants as M
use Rattle.rules.specs.Prelude.{ℕ, List, refl}
use Rattle.rules.specs.declared.Datum.TheVariants.{Int, Imm, Place}
use Rattle.rules.specs.declared.Op.{Op}
use Rattle.rules.specs.Machine.{Given}
use Rattle.rules.specs.Numbers.{num_code}
use Rattle.rules.specs.Program.{Rows}
use Rattle.rules.specs.View.{tree_of, tree_at}
use Rattle.rules.specs.Machine.{Store, ev_var, ev_arith, ev_val, ev_int, ev_fetch, ev_step, eval}
use Rattle.program.specs.Nodes.{after_of}
use Rattle.eval.specs.declared.Gave.{Gave}

-- of an operand of arithmetic, what plays a part: the int that it is
abbrev pub int_only : Given → Given
int_only None = None
int_only (Some (Int n)) = Some (Int n)
int_only (Some (Imm n)) = None
int_only (Some (Place b o)) = None

pub arith_ints : (o : Op) (x y : Given) → ev_arith o (int_only x) y ≡ ev_arith o x y
unfolding ev_arith
arith_ints o None y = refl
arith_ints o (Some (Int n)) y = refl
arith_ints o (Some (Imm n)) y = refl
arith_ints o (Some (Place b i)) y = refl

-- what a node gives, from its argument and what its operands give
unfoldable pub form : Rows → Store → List Given → Form → ℕ → Given → Given → Given
form ρ σ δ M.Absent a x y = None
form ρ σ δ M.Lit a x y = Some (Int (num_code a))
form ρ σ δ M.Var a x y = ev_var δ a
form ρ σ δ M.Fetch a x y = ev_fetch σ x
form ρ σ δ M.Int a x y = ev_int x
form ρ σ δ M.Val a x y = ev_val ρ a x
form ρ σ δ M.Step a x y = ev_step σ x y
form ρ σ δ (M.Calc o) a x y = ev_arith o x y

abbrev pub gave : Given → ℕ → Gave
gave g n = record { given = g; next = n }

unfoldable pub gave_at : Rows → Store → List Given → List ℕ → ℕ → ℕ → Gave
gave_at ρ σ δ N d k = gave (eval ρ σ δ (tree_of (tree_at N d k))) (after_of (tree_at N d k))
