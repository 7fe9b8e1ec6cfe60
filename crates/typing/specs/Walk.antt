-- The judgement of the tree at a node, with the node after it; and a node's judgement from its operands'. Assumes nothing.
use Rattle.std.specs.Prelude.{◌≡◌, ◌<◌, Result, Ok, Err}
use Rattle.rules.specs.declared.Form.{Form}
use Rattle.rules.specs.declared.Form.TheVariants as M
use Rattle.rules.specs.Prelude.{ℕ, List, refl}
use Rattle.rules.specs.declared.Env.{Env}
use Rattle.rules.specs.declared.Kind.TheVariants.{Cint, Value}
use Rattle.rules.specs.declared.Op.{Op}
use Rattle.rules.specs.declared.Tag.TheVariants as G
use Rattle.rules.specs.Typing.{Judged}
use Rattle.rules.specs.Numbers.{num_code}
use Rattle.rules.specs.Program.{Rows, Var}
use Rattle.rules.specs.View.{tree_of, tree_at}
use Rattle.rules.specs.Typing.{int_entry, ty_var, ty_arith, ty_val, ty_int, ty_fetch, ty_step, type}
use Rattle.program.specs.Nodes.{after_of}
use Rattle.typing.specs.declared.Found.{Found}

-- of an operand of arithmetic, what plays a part: whether it is an int, and its tag
abbrev pub tag_only : Judged → Judged
tag_only (Err n) = Err n
tag_only (Ok (Cint, e)) = Ok (Cint, int_entry e.tag)
tag_only (Ok (Value r, e)) = Ok (Value 0, int_entry e.tag)

pub arith_tags : (o : Op) (x y : Judged) → ty_arith o (tag_only x) y ≡ ty_arith o x y
unfolding ty_arith
arith_tags o (Err n) y = refl
arith_tags o (Ok (Cint, e)) (Err m) = refl
arith_tags o (Ok (Value r, e)) (Err m) = refl
arith_tags o (Ok (Cint, e)) (Ok (Cint, d)) = refl
arith_tags o (Ok (Cint, e)) (Ok (Value q, d)) = refl
arith_tags o (Ok (Value r, e)) (Ok (l, d)) = refl

-- a number that refuses: 0 is that of a line that goes on
abbrev pub Told : {A : Type 0} → Result A ℕ → Type 0
Told (Err n) = 0 < n
Told (Ok x) = Unit

-- a node's judgement, from its argument and the judgements of its operands
unfoldable pub form : Rows → List Var → Env → Form → ℕ → Judged → Judged → Judged
form ρ D Γ M.Absent a x y = Err 4
form ρ D Γ M.Lit a x y = Ok (Cint, int_entry (G.Known (num_code a)))
form ρ D Γ M.Var a x y = ty_var D Γ a
form ρ D Γ M.Fetch a x y = ty_fetch ρ x
form ρ D Γ M.Int a x y = ty_int ρ x
form ρ D Γ M.Val a x y = ty_val ρ a x
form ρ D Γ M.Step a x y = ty_step ρ x y
form ρ D Γ (M.Calc o) a x y = ty_arith o x y

abbrev pub found : Judged → ℕ → Found
found j n = record { judged = j; next = n }

unfoldable pub found_at : Rows → List Var → Env → List ℕ → ℕ → ℕ → Found
found_at ρ D Γ N d k = found (type ρ D Γ (tree_of (tree_at N d k))) (after_of (tree_at N d k))
