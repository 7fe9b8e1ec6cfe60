-- The contracts of coded, typing and body determine. Assumes nothing.
use Rattle.rules.specs.Prelude.{[]}
use Rattle.determined.specs.Determined.{Determined, result, lent}
use Rattle.coded.specs.contracts as coded_clauses
use Rattle.coded.proofs as coded
use Rattle.typing.specs.contracts as typing_clauses
use Rattle.typing.proofs as typing
use Rattle.body.specs.contracts as body_clauses
use Rattle.body.proofs as body

-- ---- coded

pub coded_entry_in : Determined coded_clauses.entry_in.ended coded.entry_in.Reads.Learnt
coded_entry_in κs a x y s t h k = result (h 0) (k 0)

pub coded_env_of : Determined coded_clauses.env_of.ended coded.env_of.Reads.Learnt
coded_env_of κs a x y s t = result

pub coded_put_entry : Determined coded_clauses.put_entry.ended coded.put_entry.Reads.Learnt
coded_put_entry κs a x y s t h k = lent h.0 k.0

-- ---- typing

pub typing_var_judged : Determined typing_clauses.var_judged.ended typing.var_judged.Reads.Learnt
typing_var_judged κs a x y s t = result

pub typing_address_of : Determined typing_clauses.address_of.ended typing.address_of.Reads.Learnt
typing_address_of κs a x y s t = result

pub typing_judge_at : Determined typing_clauses.judge_at.ended typing.judge_at.Reads.Learnt
typing_judge_at κs a x y s t = result

-- ---- body

pub body_typed : Determined body_clauses.typed.ended body.typed.Reads.Learnt
body_typed κs a x y s t = result

pub body_ended : Determined body_clauses.ended.ended body.ended.Reads.Learnt
body_ended κs a x y s t h k = result (h [] [] [] []) (k [] [] [] [])
