-- What it is for a contract to determine what a call gives and leaves, and the lemma that shows it. Assumes nothing.
-- Of each function the kit makes `ended`, its signature, and `Reads.Learnt`, what its `ensures` tells a caller: the theorems of this crate are about these, and repeat no contract.
use Rattle.std.specs.Prelude.{◌≡◌, refl}
use Rattle.std.proofs.Common.{sym, ◌∙◌}
use contract.Lifetimes.{Lfts}
use denote.Triple.Entry.{Args, Res}
use denote.Triple.Clauses.{Ended, Lasts, AtExit, at_exit}

-- what a contract tells of the arguments, the result and the parameters at exit
abbrev pub Claim : Ended → Type 1
Claim T = (κs : Lfts T.signature.lifetimes) → Args T.signature κs → Res T.signature κs → AtExit T κs → Type 0

-- Two results that a contract allows for the same arguments coincide, and so do the two tuples of last values that it allows: what is left behind each `&mut`.
abbrev pub Determined : (T : Ended) → Claim T → Type 0
Determined T claim =
    (κs : Lfts T.signature.lifetimes) (a : Args T.signature κs) (x y : Res T.signature κs) (s t : Lasts T κs a)
    → claim κs a x (at_exit T κs a s) → claim κs a y (at_exit T κs a t) → (x ≡ y) × (s ≡ t)

-- two that are both the same third
pub one : {A : Type 0} {x y z : A} → x ≡ z → y ≡ z → x ≡ y
one h k = h ∙ sym k

-- the common form: the contract says what the result is, and nothing is lent `&mut`
pub result : {A L : Type 0} {x y z : A} {s : L} → x ≡ z → y ≡ z → (x ≡ y) × (s ≡ s)
result h k = (one h k, refl)

-- the contract says what is left behind the first parameter, and nothing else is lent `&mut` or given back
pub lent : {A L : Type 0} {u v z : A} {s : L} → u ≡ z → v ≡ z → (◌≡◌ {A = Unit {0}} tt tt) × (◌≡◌ {A = A × L} (u, s) (v, s))
lent {s = s} h k = (refl, λ i. (one h k i, s))

-- the last values, one by one
pub both : {A L : Type 0} {p q : A × L} → p.0 ≡ q.0 → p.1 ≡ q.1 → p ≡ q
both e f i = (e i, f i)

-- past a parameter that is not lent `&mut`
pub skip : {L : Type 0} {p q : Unit {0} × L} → p.1 ≡ q.1 → p ≡ q
skip f = both refl f
