-- Whether a tree names only what exists, form by form, and the node after a tree that does. Assumes nothing.
use Rattle.std.specs.Prelude.{◌&&◌, Option}
use Rattle.std.specs.Bool.{then_some}
use Rattle.rules.specs.declared.Form.{Form}
use Rattle.rules.specs.declared.Form.TheVariants as M
use Rattle.rules.specs.Prelude.{ℕ, Bool, true, false, List}
use Rattle.rules.specs.Program.{Prog, row_there, var_there}
use Rattle.rules.specs.View.{tree_of, tree_at}
use Rattle.rules.specs.Names.{expr_there}
use Rattle.program.specs.Nodes.{after_of}

-- from a node's argument, and whether what its operands name exists
abbrev pub form_there : Prog → Form → ℕ → Bool → Bool → Bool
form_there P M.Absent a x y = false
form_there P M.Lit a x y = true
form_there P M.Var a x y = var_there P.vars a
form_there P M.Fetch a x y = x
form_there P M.Int a x y = x
form_there P M.Val a x y = row_there P.rows a && x
form_there P M.Step a x y = x && y
form_there P (M.Calc o) a x y = x && y

-- the node after a tree, and nothing where what the tree names does not exist
unfoldable pub there_at : Prog → List ℕ → ℕ → ℕ → Option ℕ
there_at P N d k = then_some (expr_there P (tree_of (tree_at N d k))) (after_of (tree_at N d k))
