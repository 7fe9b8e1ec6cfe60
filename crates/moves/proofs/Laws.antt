-- A step of a machine in parts that does what its line decides. Assumes nothing.
use borrow.Author.Tests.{lt-leb}
use Rattle.std.specs.Option.{is_some}
use Rattle.std.specs.Prelude.{◌<◌, ◌≡◌, Some, None}
use Rattle.rules.specs.Prelude.{ℕ, false, List, get_or, length, sym, ap, subst, ◌∙◌}
use Rattle.rules.specs.declared.Act.{Act}
use Rattle.rules.specs.Machine.{Given}
use Rattle.rules.specs.View.{vars_from, program}
use Rattle.rules.specs.Machine.{decide, says_act, says}
use Rattle.rules.specs.Machine.Tables.{datum_code, apply_t, store_of, vals_of, machine, step_t, step_within, says_within}
use Rattle.moves.specs.declared.Moved.{Moved}
use Rattle.moves.specs.Moves.{lines, parts, Moves, Applies}

-- what is decided and done, where the budget is not used up and nothing was returned
pub acts : (Z N L B S H C W : List ℕ) (i n v k : ℕ) → k ≡ get_or S 0 0 → n < k → (g : Given) → g ≡ datum_code v → false ≡ is_some g
    → (a : Act) → ((R D : List ℕ) → a ≡ decide (lines Z N L B R D) (store_of S H C) (vals_of (length (vars_from Z D)) W) i)
    → (r : Moved) (C' W' : List ℕ) → ((S H : List ℕ) → Applies a (parts S H C W i n v) r C' W') → Moves Z N L B (parts S H C W i n v) r C' W'
unfolding step_within says_within says machine step_t program
acts Z N L B S H C W i n v k b h (Some d) p e a q r C' W' done R D = cc
acts Z N L B S H C W i n v k b h None p e a q r C' W' done R D =
    rw (lt-leb (get_or S 0 0) n (subst (λ (x : ℕ). n < x) b h), sym p) ((done S H).0 ∙ ap says_act (q R D), (done S H).1 ∙ ap (λ (x : Act). apply_t x (parts S H C W i n v)) (q R D))
