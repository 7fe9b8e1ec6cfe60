-- What is left of the run gives what the whole gives, and the machine holds the two tables that it was made of.
use Rattle.std.proofs.Common.{get_or, ◌≡◌}
use Rattle.moves.specs.Moves.{parts}
use Rattle.machine.specs.Steps.{tables_in}
use Rattle.machine.proofs.Runs.{Left, turns}
use Rattle.machine.proofs.run.Given as goal

abbrev pub invariant-loop-out : goal.invariant-loop-out
invariant-loop-out l =
    Left l.size l.nodes l.labels l.body (parts l.store l.heads l.fn.cells l.fn.vals l.at l.steps l.value) (tables_in l.store l.heads l.m) l.out
    × ((l.m.cells.ghost_name ≡ l.initial.m.cells.ghost_name) × (l.m.vals.ghost_name ≡ l.initial.m.vals.ghost_name))

abbrev pub decreases-loop-out : goal.decreases-loop-out
decreases-loop-out l = turns (get_or l.store 0 0) l.m.steps l.out
