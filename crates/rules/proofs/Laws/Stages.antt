-- Stages accept exactly if each of their lines has the number 0, and one after another exactly if both do. Assumes nothing.
use Rattle.std.specs.Prelude.{T}
use Rattle.std.proofs.Common.{eqb-true, arith as lin}
use Rattle.std.proofs.lemmas.Bool.{eqb-false}
use Rattle.std.specs.Prelude.{◌+◌, ◌<◌, ◌∷◌, ◌++◌, ◌≡◌, ◌↔◌}
use Rattle.rules.specs.Prelude.{ℕ, Bool, true, false, List, [], map, refl, ap, eqb, Answer}
use Rattle.rules.specs.When.{One, need}
use Rattle.rules.specs.Answers.{answer, accepted, passes, and_then, first}
use Rattle.rules.proofs.Laws.Tests.{by_when}

-- ---- each element of a list

abbrev pub Each : {A : Type 0} → (A → Type 0) → List A → Type 0
Each p [] = Unit
Each p (a ∷ l) = p a × Each p l

pub each_append : {A : Type 0} (p : A → Type 0) (l m : List A) → Each p (l ++ m) ↔ (Each p l × Each p m)
each_append p [] m = ((λ h. (tt, h)), λ h. h.1)
each_append p (a ∷ l) m =
    let (f, g) = each_append p l m in
    ((λ h. ((h.0, (f h.1).0), (f h.1).1)), λ h. (h.0.0, g (h.0.1, h.1)))

pub each_map : {A B : Type 0} (p : B → Type 0) (f : A → B) (l : List A) → Each p (map f l) ↔ Each (λ a. p (f a)) l
each_map p f [] = ((λ h. tt), λ h. tt)
each_map p f (a ∷ l) = ((λ h. (h.0, (each_map p f l).0 h.1)), λ h. (h.0, (each_map p f l).1 h.1))

-- ---- answers

-- a number that refuses nothing
abbrev pub Zero : ℕ → Type 0
Zero a = a ≡ 0

pub need_exactly : (n : ℕ) (b : Bool) (x : ℕ) → 0 < n → Zero (need n b x) ↔ (T b × Zero x)
need_exactly n true x h = ((λ z. (tt, z)), λ z. z.1)
need_exactly n false x h = ((λ z. absurd (omega lin)), λ z. absurd z.0)

-- an answer with the number 0 names line 0
abbrev pub Plain : Answer → Type 0
Plain a = Zero a.number → a ≡ accepted

pub accepted_plain : Plain accepted
accepted_plain h = refl

pub refused_plain : (n line : ℕ) → 0 < n → Plain (answer n line)
refused_plain n line h z = absurd (omega lin)

-- ---- line by line

zeros_of : (line : ℕ) (l : List ℕ) → first line l ≡ accepted → Each Zero l
unfolding first
zeros_of line [] = λ h. tt
zeros_of line (a ∷ l) = by_when (λ x. x ≡ accepted → Each Zero (a ∷ l)) (eqb a 0) _ _ (λ z h. (eqb-true a 0 z, zeros_of (line + 1) l h)) (λ z h. absurd (eqb-false a 0 z (ap (λ (x : Answer). x.number) h)))

of_zeros : (line : ℕ) (l : List ℕ) → Each Zero l → first line l ≡ accepted
unfolding first
of_zeros line [] h = refl
of_zeros line (a ∷ l) h = rw h.0 (of_zeros (line + 1) l h.1)

pub first_exactly : (line : ℕ) (l : List ℕ) → (first line l ≡ accepted) ↔ Each Zero l
first_exactly line l = (zeros_of line l, of_zeros line l)

pub first_plain : (line : ℕ) (l : List ℕ) → Plain (first line l)
unfolding first
first_plain line [] = accepted_plain
first_plain line (a ∷ l) = by_when Plain (eqb a 0) _ _ (λ z. first_plain (line + 1) l) (λ z h. absurd (eqb-false a 0 z h))

-- ---- one stage, then the next

pub then_exactly : (a : Answer) (later : One → Answer) → Plain a → (and_then a later ≡ accepted) ↔ ((a ≡ accepted) × (later tt ≡ accepted))
then_exactly a later p = (by_when (λ x. x ≡ accepted → (a ≡ accepted) × (later tt ≡ accepted)) (passes a) _ _ (λ z h. (p (eqb-true a.number 0 z), h)) (λ z h. absurd (eqb-false a.number 0 z (ap (λ (x : Answer). x.number) h))), λ h. rw h.0 h.1)

pub then_plain : (a : Answer) (later : One → Answer) → Plain a → Plain (later tt) → Plain (and_then a later)
then_plain a later p q = by_when Plain (passes a) _ _ (λ z. q) (λ z. p)

-- what comes after a stage, whatever that stage's line
pub then_later : (a : Answer) (later : One → Answer) → and_then a later ≡ accepted → later tt ≡ accepted
then_later a later = by_when (λ x. x ≡ accepted → later tt ≡ accepted) (passes a) _ _ (λ z h. h) (λ z h. absurd (eqb-false a.number 0 z (ap (λ (x : Answer). x.number) h)))
