-- Expressions: what they are by their depth and head, and operands by the first of them. Assumes nothing.
use native.Mathlib.Numerals.{sub-one}
use native.Mathlib.Omega.{arith}
use borrow.Author.Tests.{eq-eqb}
use Rattle.std.specs.Prelude.{◌+◌, ◌-◌, ◌≡◌, None, Ok, Err}
use Rattle.std.specs.Result.{result_ok}
use Rattle.rules.specs.Prelude.{ℕ, zero, suc, List, refl}
use Rattle.rules.specs.Text.Words.{Head}
use Rattle.rules.specs.Text.Words.{byte_at, head_at}
use Rattle.rules.specs.Text.Fill.{Out, out, onward}
use Rattle.once.specs.Once.{operands_once, node_once, expr_once}

module _ (s : List ℕ) (at free : ℕ) (N : List ℕ) where
  pub by_head : (d : ℕ) → (d ≡ 0 → ⊥) → {h : Head} → h ≡ head_at s at → expr_once s d at free N ≡ node_once s (expr_once s (d - 1)) h free N
  unfolding expr_once
  by_head zero n e = absurd (n refl)
  by_head (suc d) n e = rw (e, sub-one (suc d))

module _ (s : List ℕ) (one : ℕ → ℕ → List ℕ → Out) (at free : ℕ) (N : List ℕ) where
  pub no_head : (h : Head) → None ≡ result_ok h → node_once s one h free N ≡ out None N
  no_head (Err p) e = refl
  no_head (Ok x) e = let z : ◌≡◌ {A = ℕ} 0 1 = cc in absurd (omega arith)

  pub an_operand : (n : ℕ) → (n ≡ 0 → ⊥) → byte_at s at ≡ 32 → {o : Out} → o ≡ one (at + 1) free N → operands_once s one n at free N ≡ onward o (operands_once s one (n - 1))
  unfolding operands_once
  an_operand zero n b e = absurd (n refl)
  an_operand (suc m) n b e = rw (eq-eqb (byte_at s at) 32, e, sub-one (suc m))
