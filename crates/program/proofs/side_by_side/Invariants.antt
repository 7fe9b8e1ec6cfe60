-- The invariant: what is still to be entered gives what the whole gives.
use Rattle.std.proofs.Common.{ℕ, length, get_or, ◌+◌, ◌-◌, ◌≡◌, ◌≤◌}
use Rattle.program.proofs.Places.{entered}
use Rattle.program.proofs.side_by_side.Given as goal

abbrev pub invariant-loop-k : goal.invariant-loop-k
invariant-loop-k l =
    let at : ℕ → ℕ = λ k. get_or l.t (l.first + k) 0 in
    (l.first + 96 ≤ length l.t) × (entered (96 - l.k) l.k at l.code-items ≡ entered 96 0 at l.initial.code-items)
