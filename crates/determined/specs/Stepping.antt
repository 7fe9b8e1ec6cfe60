-- The contracts of eval, act, moves and machine determine. Assumes nothing.
use Rattle.std.specs.Prelude.{◌≡◌}
use Rattle.rules.specs.Prelude.{ℕ, List, [], refl}
use Rattle.rules.specs.declared.Stepped.{Stepped}
use Rattle.rules.specs.Machine.Tables.{MTables}
use Rattle.moves.specs.declared.Moved.{Moved}
use Rattle.moves.specs.Moves.{parts}
use Rattle.determined.specs.Determined.{Determined, one, result, both, skip}
use Rattle.eval.specs.contracts as eval_clauses
use Rattle.eval.proofs as eval
use Rattle.act.specs.contracts as act_clauses
use Rattle.act.proofs as act
use Rattle.moves.specs.contracts as moves_clauses
use Rattle.moves.proofs as moves
use Rattle.machine.specs.contracts as machine_clauses
use Rattle.machine.proofs as machine

-- ---- eval

pub eval_moved : Determined eval_clauses.moved.ended eval.moved.Reads.Learnt
eval_moved κs a x y s t h k = result (h []) (k [])

pub eval_var_given : Determined eval_clauses.var_given.ended eval.var_given.Reads.Learnt
eval_var_given κs a x y s t h k = result (h []) (k [])

pub eval_given_at : Determined eval_clauses.given_at.ended eval.given_at.Reads.Learnt
eval_given_at κs a x y s t h k = result (h [] []) (k [] [])

-- ---- act

pub act_decide_at : Determined act_clauses.decide_at.ended act.decide_at.Reads.Learnt
act_decide_at κs a x y s t h k = result (h [] []) (k [] [])

-- ---- moves and machine: a step and a run of a machine in parts

-- two results in the same words, and the two tables that are altered
agree : {S H C W C' W' : List ℕ} {r q : Moved} {o : Stepped} {t : MTables}
    → (r.out ≡ o) × (parts S H C W r.at r.steps r.value ≡ t) → (q.out ≡ o) × (parts S H C' W' q.at q.steps q.value ≡ t)
    → (r ≡ q) × ((C ≡ C') × (W ≡ W'))
agree h k =
    let e = one h.0 k.0 in
    let f = one h.1 k.1 in
    (λ i. record { out = e i; at = (f i).at; steps = (f i).steps; value = (f i).value }, (λ i. (f i).cells, λ i. (f i).vals))

-- they stand after six parameters that are not altered
after : {A L : Type 0} {x y : A} {C W C' W' : List ℕ} {l : L} → (x ≡ y) × ((C ≡ C') × (W ≡ W'))
    → (x ≡ y) × (◌≡◌ {A = Unit {0} × (Unit {0} × (Unit {0} × (Unit {0} × (Unit {0} × (Unit {0} × (List ℕ × (List ℕ × L)))))))} (tt, (tt, (tt, (tt, (tt, (tt, (C, (W, l)))))))) (tt, (tt, (tt, (tt, (tt, (tt, (C', (W', l)))))))))
after g = (g.0, skip (skip (skip (skip (skip (skip (both g.1.0 (both g.1.1 refl))))))))

pub moves_move_at : Determined moves_clauses.move_at.ended moves.move_at.Reads.Learnt
moves_move_at κs a x y s t h k = after (agree (h [] []) (k [] []))

pub machine_step : Determined machine_clauses.step.ended machine.step.Reads.Learnt
machine_step κs a x y s t h k = (one (h [] []).0 (k [] []).0, both (one (h [] []).1 (k [] []).1) refl)

pub machine_run : Determined machine_clauses.run.ended machine.run.Reads.Learnt
machine_run κs a x y s t h k = after (agree (h [] []) (k [] []))
