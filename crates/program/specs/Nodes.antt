-- Nodes in preorder: how many operands a form has, the node after a tree, and the nodes that are a tree by themselves. Assumes nothing.
use Rattle.std.specs.Prelude.{◌/◌, ◌&&◌, ◌||◌}
use Rattle.rules.specs.declared.Form.{Form}
use Rattle.rules.specs.declared.Form.TheVariants as M
use Rattle.rules.specs.Prelude.{ℕ, Bool, List, ltb, eqb, get_or}
use Rattle.rules.specs.Limits.{limits}
use Rattle.rules.specs.View.{Walked, walked}

abbrev pub arity : Form → ℕ
arity M.Absent = 0
arity M.Lit = 0
arity M.Var = 0
arity M.Fetch = 1
arity M.Int = 1
arity M.Val = 1
arity M.Step = 2
arity (M.Calc o) = 2

abbrev pub after_of : Walked → ℕ
after_of (walked x n) = n

-- whether a node can stand at place k, where the depth left is d
abbrev pub within : ℕ → ℕ → Bool
within d k = ltb 0 d && ltb k limits.nodes

-- whether a number or a variable stands at node k, where the depth left is d
unfoldable pub leaf_at : List ℕ → ℕ → ℕ → Bool
leaf_at N d k = ltb 0 d && (ltb k limits.nodes && (eqb (get_or N k 0 / 4294967296) 1 || eqb (get_or N k 0 / 4294967296) 2))
