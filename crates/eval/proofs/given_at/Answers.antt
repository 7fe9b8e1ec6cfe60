-- A number or a variable is evaluated where it stands.
use Rattle.std.specs.Prelude.{None}
use Rattle.rules.specs.Machine.{eval}
use Rattle.program.proofs.Walk.{ends_there}
use Rattle.eval.specs.Walk.{form, gave, gave_at}
use Rattle.eval.proofs.Laws.{folds}
use Rattle.eval.proofs.given_at.Goals as goal

pub returns-then-is_leaf : goal.returns-then-is_leaf
unfolding gave_at
returns-then-is_leaf c R D = ends_there (eval _ _ _) gave _ _ _ (form _ _ _) (folds _ _ _) c.is_leaf.ensures c.if-is_leaf.true None None c.gives.ensures (c.leaf_at.ensures _ _ D)
