-- An expression ends inside the text, and its nodes inside their table. Assumes nothing.
use native.Mathlib.Omega.{arith}
use borrow.Author.Tests.{ltb-true}
use Rattle.std.specs.Prelude.{◌+◌, ◌≤◌, ◌≡◌, Some, None, Ok, Err}
use Rattle.rules.specs.Prelude.{ℕ, zero, suc, List, refl, ltb, length}
use Rattle.rules.specs.Text.Words.{Head}
use Rattle.rules.specs.Text.Words.{arity, head_at}
use Rattle.rules.specs.Text.Fill.{Out, out, onward, operands, node, expression}
use Rattle.rules.proofs.Laws.Tests.{by_when}
use Rattle.text.proofs.Laws.{head_read}

abbrev pub Ends : ℕ → Out → Type 0
Ends to (out (Some (n, free)) N) = (n ≤ to) × (free ≤ 4096)
Ends to (out None N) = Unit

onward_ends : (to : ℕ) (o : Out) (go : ℕ → ℕ → List ℕ → Out) → Ends to o → ((n free : ℕ) (N : List ℕ) → n ≤ to → free ≤ 4096 → Ends to (go n free N)) → Ends to (onward o go)
onward_ends to (out (Some (n, free)) N) go e g = g n free N e.0 e.1
onward_ends to (out None N) go e g = tt

module _ (to : ℕ) (one : ℕ → ℕ → List ℕ → Out) (g : (at free : ℕ) (N : List ℕ) → Ends to (one at free N)) where
  operands_end : (n at free : ℕ) (N : List ℕ) → at ≤ to → free ≤ 4096 → Ends to (operands one n at free N)
  unfolding operands
  operands_end zero at free N h k = (h, k)
  operands_end (suc n) at free N h k = onward_ends to (one (at + 1) free N) (operands one n) (g (at + 1) free N) (operands_end n)

node_ends : (s : List ℕ) (at free : ℕ) (N : List ℕ) (one : ℕ → ℕ → List ℕ → Out) → ((at free : ℕ) (N : List ℕ) → Ends (length s) (one at free N))
    → (h : Head) → head_at s at ≡ h → Ends (length s) (node one h free N)
node_ends s at free N one g (Err p) e = tt
node_ends s at free N one g (Ok (op, a, n)) e =
    by_when (Ends (length s)) (ltb free 4096) _ _
    (λ q. operands_end (length s) one g (arity op) n (free + 1) _ (head_read s at e).ends (omega (arith, ltb-true free 4096 q)))
    (λ _. tt)

pub expression_ends : (s : List ℕ) (d at free : ℕ) (N : List ℕ) → Ends (length s) (expression s d at free N)
unfolding expression
expression_ends s zero at free N = tt
expression_ends s (suc d) at free N = node_ends s at free N (expression s d) (expression_ends s d) (head_at s at) refl
