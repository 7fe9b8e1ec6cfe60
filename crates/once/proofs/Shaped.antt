-- An expression that is read once has the right shape and is written as the rules say; one that is not has a wrong shape, or passes a limit. Assumes nothing.
use mathlib.Core.Logic.{◌⊎◌, inl, inr, ⊎_elim}
use native.Mathlib.Omega.{arith}
use borrow.Author.Tests.{eqb-true, ne_eqb}
use Rattle.std.specs.Prelude.{◌+◌, ◌-◌, ◌*◌, ◌≤◌, ◌≡◌, Some, None, Ok, Err}
use Rattle.rules.specs.Prelude.{ℕ, zero, suc, Bool, true, false, List, refl, subst, ◌∙◌, ltb, eqb, length, set}
use Rattle.rules.specs.Text.Words.{Head}
use Rattle.rules.specs.Text.Words.{Next}
use Rattle.rules.specs.When.{when}
use Rattle.rules.proofs.Laws.Tests.{by_when}
use Rattle.rules.specs.Text.Words.{byte_at, byte_is, arity, head_at}
use Rattle.rules.specs.Text.Shape.{space, exprs_shape, expr_shape}
use Rattle.rules.specs.Text.Fill.{Out, out, onward, operands, node, expression}
use Rattle.text.proofs.Laws.{head_read}
use Rattle.once.specs.Once.{operands_once, node_once, expr_once}

-- it ended at a limit
abbrev pub Limited : Out → Type 0
Limited (out (Some (n, free)) N) = ⊥
Limited (out None N) = Unit

onward_limited : (e : Out) (go : ℕ → ℕ → List ℕ → Out) → Limited e → Limited (onward e go)
onward_limited (out None N) go h = tt
onward_limited (out (Some (_, _)) N) go h = elim h [ ]

module _ (s : List ℕ) where
  -- the shape from n on, where so many expressions are still to come
  abbrev rest : ℕ → ℕ → ℕ → Next
  rest left need n = when (eqb need 0) (λ _. Ok n) (λ _. space s (exprs_shape s left need) n)

  -- an expression at `at`, and then `need` more: the shape goes on at n, or stops. A word has a byte or more, so that there are words enough left
  abbrev Goes : ℕ → ℕ → Type 0
  Goes at n = (need left : ℕ) → length s ≤ at + left → (l : ℕ) × (length s ≤ n + l) × (exprs_shape s left (need + 1) at ≡ rest l need n)

  abbrev Stops : ℕ → Type 0
  Stops at = (need left : ℕ) → length s ≤ at + left → (p : ℕ) × (exprs_shape s left (need + 1) at ≡ Err p)

  -- the same of k operands, after the word that ends at `at`
  abbrev GoesOn : ℕ → ℕ → ℕ → Type 0
  GoesOn k at n = (need left : ℕ) → length s ≤ at + left → (l : ℕ) × (length s ≤ n + l) × (rest left (need + k) at ≡ rest l need n)

  abbrev StopsOn : ℕ → ℕ → Type 0
  StopsOn k at = (need left : ℕ) → length s ≤ at + left → (p : ℕ) × (rest left (need + k) at ≡ Err p)

  -- what was read once, and what the rules write
  abbrev Tells : ℕ → Out → Out → Type 0
  Tells at (out (Some (n, free)) N) e = (out (Some (n, free)) N ≡ e) × Goes at n
  Tells at (out None N) e = Stops at ⊎ Limited e

  abbrev TellsOn : ℕ → ℕ → Out → Out → Type 0
  TellsOn k at (out (Some (n, free)) N) e = (out (Some (n, free)) N ≡ e) × GoesOn k at n
  TellsOn k at (out None N) e = StopsOn k at ⊎ Limited e

  -- ---- the first word

  module _ (at : ℕ) where
    head_goes : {op a n : ℕ} → head_at s at ≡ Ok (op, a, n) → (need left : ℕ) → length s ≤ at + left → (l : ℕ) × (length s ≤ n + l) × (exprs_shape s left (need + 1) at ≡ rest l (need + arity op) n)
    unfolding exprs_shape
    head_goes h need zero b = absurd (omega (arith, (head_read s at h).starts, (head_read s at h).ends))
    head_goes {op} h need (suc l) b =
        let q : need + 1 + arity op - 1 ≡ need + arity op = omega arith in
        (l, omega (arith, (head_read s at h).starts), rw (h, q))

    with_head : {op a n : ℕ} → head_at s at ≡ Ok (op, a, n) → (o e : Out) → TellsOn (arity op) n o e → Tells at o e
    with_head h (out (Some (m, free)) N) e (q, g) = (
      q,
      λ need left b.
          let w = head_goes h need left b in
          let v = g need w.0 w.1 in
          (v.0, v.1, w.2 ∙ v.2),
    )
    with_head h (out None N) e t =
        ⊎_elim
        (λ g. inl (λ need left b.
        let w = head_goes h need left b in
        let v = g need w.0 w.1 in
        (v.0, w.2 ∙ v.1)))
        inr t

  -- ---- operands

  module _ (k at : ℕ) (z : byte_at s at ≡ 32) where
    after_space : (left need : ℕ) → rest left (need + suc k) at ≡ exprs_shape s left (need + k + 1) (at + 1)
    unfolding byte_is
    after_space left need =
        let q : need + suc k ≡ need + k + 1 = omega arith in
        rw (q, ne_eqb (need + k + 1) 0 (λ e. omega (arith, e)), z)

    one_more_lem : (n : ℕ) → Goes (at + 1) n → (o e : Out) → TellsOn k n o e → TellsOn (suc k) at o e
    one_more_lem n g (out (Some (m, free)) N) e (q, t) = (
      q,
      λ need left b.
          let w = g (need + k) left (omega arith) in
          let v = t need w.0 w.1 in
          (v.0, v.1, after_space left need ∙ w.2 ∙ v.2),
    )
    one_more_lem n g (out None N) e t =
        ⊎_elim
        (λ h. inl (λ need left b.
        let w = g (need + k) left (omega arith) in
        let v = h need w.0 w.1 in
        (v.0, after_space left need ∙ w.2 ∙ v.1)))
        inr t

    no_more : Stops (at + 1) → StopsOn (suc k) at
    no_more g need left b = let w = g (need + k) left (omega arith) in (w.0, after_space left need ∙ w.1)

  no_space : (k at : ℕ) → eqb (byte_at s at) 32 ≡ false → StopsOn (suc k) at
  unfolding byte_is
  no_space k at z need left b =
      let q : need + suc k ≡ need + k + 1 = omega arith in
      (at, rw (q, ne_eqb (need + k + 1) 0 (λ e. omega (arith, e)), z))

  module _ (one ref : ℕ → ℕ → List ℕ → Out) (each : (at free : ℕ) (N : List ℕ) → Tells at (one at free N) (ref at free N)) where
    onward_tells : (k at : ℕ) → byte_at s at ≡ 32 → ((n free : ℕ) (N : List ℕ) → TellsOn k n (operands_once s one k n free N) (operands ref k n free N))
        → (o e : Out) → Tells (at + 1) o e → TellsOn (suc k) at (onward o (operands_once s one k)) (onward e (operands ref k))
    onward_tells k at z others (out (Some (n, free)) N) e (q, g) =
        subst (λ (x : Out). TellsOn (suc k) at (operands_once s one k n free N) (onward x (operands ref k))) q
        (one_more_lem k at z n g (operands_once s one k n free N) (operands ref k n free N) (others n free N))
    onward_tells k at z others (out None N) e t = ⊎_elim (λ g. inl (no_more k at z g)) (λ h. inr (onward_limited e (operands ref k) h)) t

    operands_tell : (k at free : ℕ) (N : List ℕ) → TellsOn k at (operands_once s one k at free N) (operands ref k at free N)
    unfolding operands_once operands
    operands_tell zero at free N = (refl, λ need left b. let q : need + 0 ≡ need = omega arith in (left, b, rw q))
    operands_tell (suc k) at free N =
        by_when (λ (o : Out). TellsOn (suc k) at o (onward (ref (at + 1) free N) (operands ref k))) (eqb (byte_at s at) 32) _ _
        (λ q. onward_tells k at (eqb-true _ 32 q) (operands_tell k) (one (at + 1) free N) (ref (at + 1) free N) (each (at + 1) free N))
        (λ q. inl (no_space k at q))

  -- ---- an expression

  module _ (one ref : ℕ → ℕ → List ℕ → Out) (each : (at free : ℕ) (N : List ℕ) → Tells at (one at free N) (ref at free N)) where
    node_tells : (at free : ℕ) (N : List ℕ) (h : Head) → head_at s at ≡ h → Tells at (node_once s one h free N) (node ref h free N)
    node_tells at free N (Err p) q = inr tt
    node_tells at free N (Ok (op, a, n)) q = by (ltb free 4096)
      where
        by : (b : Bool) → Tells at (when b (λ _. operands_once s one (arity op) n (free + 1) (set N free (op * 4294967296 + a))) (λ _. out None N)) (when b (λ _. operands ref (arity op) n (free + 1) (set N free (op * 4294967296 + a))) (λ _. out None N))
        by true = with_head at q (operands_once s one (arity op) n (free + 1) (set N free (op * 4294967296 + a))) (operands ref (arity op) n (free + 1) (set N free (op * 4294967296 + a))) (operands_tell one ref each (arity op) n (free + 1) (set N free (op * 4294967296 + a)))
        by false = inr tt

  expression_tells : (d at free : ℕ) (N : List ℕ) → Tells at (expr_once s d at free N) (expression s d at free N)
  unfolding expr_once expression
  expression_tells zero at free N = inr tt
  expression_tells (suc d) at free N = node_tells (expr_once s d) (expression s d) (expression_tells d) at free N (head_at s at) refl

  -- the same, of its shape alone
  abbrev pub Read : ℕ → Out → Out → Type 0
  Read at (out (Some (n, free)) M) e = (out (Some (n, free)) M ≡ e) × (expr_shape s at ≡ Ok n)
  Read at (out None M) e = ((p : ℕ) × (expr_shape s at ≡ Err p)) ⊎ Limited e

  reads : (at : ℕ) (o e : Out) → Tells at o e → Read at o e
  unfolding expr_shape
  reads at (out (Some (n, free)) N) e (q, g) = (q, (g 0 (length s) (omega arith)).2)
  reads at (out None N) e t = ⊎_elim (λ g. inl (g 0 (length s) (omega arith))) inr t

  pub expression_read : (d at free : ℕ) (N : List ℕ) → Read at (expr_once s d at free N) (expression s d at free N)
  expression_read d at free N = reads at (expr_once s d at free N) (expression s d at free N) (expression_tells d at free N)

-- where there is no room for a node no expression is written
node_full : (one : ℕ → ℕ → List ℕ → Out) (h : Head) (free : ℕ) (N : List ℕ) → ltb free 4096 ≡ false → Limited (node one h free N)
node_full one (Err p) free N q = tt
node_full one (Ok (op, a, n)) free N q = rw q tt

pub expression_full : (s : List ℕ) (d at free : ℕ) (N : List ℕ) → ltb free 4096 ≡ false → Limited (expression s d at free N)
unfolding expression
expression_full s zero at free N q = tt
expression_full s (suc d) at free N q = node_full (expression s d) (head_at s at) free N q
