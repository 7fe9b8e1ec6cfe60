-- A pass over a list, element by element: what a loop has left, a test of all, and the first number of lines that is not 0. Assumes nothing.
use native.Mathlib.Omega.{arith as lin}
use native.Mathlib.Numerals.{add-one}
use lib.ListN.{drop_of_length-le}
use lib.Seq.{drop-cons}
use borrow.Author.Tests.{ne_eqb, eqb-true, eqb-false}
use Rattle.std.specs.Prelude.{◌+◌, ◌<◌, ◌≤◌, ◌&&◌, ◌∷◌, ◌++◌, ◌≡◌, Ok, Err}
use Rattle.rules.specs.Prelude.{ℕ, Bool, true, false, List, [], map, refl, sym, ap, ◌∙◌, eqb, length, get_or, drop}
use Rattle.rules.specs.declared.Answer.{Answer}
use Rattle.rules.specs.When.{One}
use Rattle.rules.specs.Answers.{answer, accepted, passes, and_then, outcome, first}

-- ---- what a loop over n things has left of their list: one more, or nothing

module _ {A : Type 0} (l : List A) (i n : ℕ) (e : n ≡ length l) where
  pub left_more : (d : A) → i < n → drop i l ≡ get_or l i d ∷ drop (i + 1) l
  left_more d h = rw (add-one i) (drop-cons l i d (omega (lin, e)))

  pub left_none : n ≤ i → drop i l ≡ []
  left_none h = drop_of_length-le l {i = i} (omega (lin, e))

-- ---- a test of all: of one and of what is left after it

pub all_on : {l q m : Bool} → l ≡ (q && m) → q ≡ true → m ≡ l
all_on e h = sym (rw h at e)

pub all_no : {l q : Bool} (m : Bool) → l ≡ (q && m) → q ≡ false → l ≡ false
all_no m e h = rw h at e

-- ---- line by line

-- one part of the file, then the next
pub first_append : (line : ℕ) (a b : List ℕ) → first line (a ++ b) ≡ and_then (first line a) (λ _. first (line + length a) b)
unfolding first
first_append line [] b = ap (λ (n : ℕ). first n b) (omega lin)
first_append line (x ∷ a) b = go (first_append (line + 1) a b) (eqb x 0) refl
  where
    go : first (line + 1) (a ++ b) ≡ and_then (first (line + 1) a) (λ _. first (line + 1 + length a) b) → (t : Bool) → eqb x 0 ≡ t →
        first line (x ∷ (a ++ b)) ≡ and_then (first line (x ∷ a)) (λ _. first (line + length (x ∷ a)) b)
    go r true q = rw q (r ∙ ap (λ (n : ℕ). and_then (first (line + 1) a) (λ _. first n b)) (omega lin))
    go r false q = rw (q, q)

module _ {A : Type 0} (f : A → ℕ) (l : List A) (line i n : ℕ) (en : n ≡ length l) where
  pub lines_done : n ≤ i → accepted ≡ first (line + i) (map f (drop i l))
  unfolding first
  lines_done h = rw (left_none l i n en h)

  module _ (d : A) (a : ℕ) (h : i < n) (e : a ≡ f (get_or l i d)) where
    pub lines_on : a ≡ 0 → first (line + (i + 1)) (map f (drop (i + 1) l)) ≡ first (line + i) (map f (drop i l))
    unfolding first
    lines_on z = rw (left_more l i n en d h, sym e, z) (ap (λ (k : ℕ). first k (map f (drop (i + 1) l))) (omega lin))

    pub lines_no : (a ≡ 0 → ⊥) → answer a (line + i) ≡ first (line + i) (map f (drop i l))
    unfolding first
    lines_no z = rw (left_more l i n en d h, sym e, ne_eqb a 0 z)

pub then_on : (a : Answer) (later : One → Answer) → a.number ≡ 0 → and_then a later ≡ later tt
then_on a later z = rw z

pub then_no : (a : Answer) (later : One → Answer) → (a.number ≡ 0 → ⊥) → a ≡ and_then a later
then_no a later z = rw (ne_eqb a.number 0 z)

-- ---- an answer as code hands it on

-- an answer, by whether the code goes on
pub accepts : (a : Answer) → Ok tt ≡ outcome a → a.number ≡ 0
accepts a e = by (passes a) refl
  where
    by : (t : Bool) → passes a ≡ t → a.number ≡ 0
    by true q = eqb-true a.number 0 q
    by false q = let z = rw q at e in absurd (grind lin)

pub refuses : (a : Answer) {b : Answer} → Err b ≡ outcome a → (a.number ≡ 0 → ⊥) × (outcome a ≡ Err a)
refuses a {b} e = by (passes a) refl
  where
    by : (t : Bool) → passes a ≡ t → (a.number ≡ 0 → ⊥) × (outcome a ≡ Err a)
    by true q = let z = rw q at e in absurd (grind lin)
    by false q = (eqb-false a.number 0 q, rw q)

-- a part that refuses nothing leaves the answer to the next
pub outcome_on : (a : Answer) (later : One → Answer) → Ok tt ≡ outcome a → and_then a later ≡ later tt
outcome_on a later e = then_on a later (accepts a e)

pub outcome_no : (a : Answer) (later : One → Answer) {b : Answer} → Err b ≡ outcome a → Err b ≡ outcome (and_then a later)
outcome_no a later e = e ∙ ap outcome (then_no a later (refuses a e).0)
