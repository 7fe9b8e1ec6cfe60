-- The numbers that the lines of a text may have, and the answers made of them: each has a case, of the table that it belongs to. Assumes nothing.
use Rattle.std.specs.Prelude.{T}
use Rattle.std.proofs.Common.{eqb-true}
use Rattle.std.proofs.lemmas.Bool.{eqb-false}
use Rattle.std.specs.Prelude.{◌+◌, ◌&&◌, ◌||◌, ◌∷◌, ◌++◌, ◌≡◌}
use Rattle.rules.specs.Prelude.{ℕ, Bool, true, false, List, [], map, refl, subst, ltb, leb, eqb, Answer, Verdict}
use Rattle.rules.specs.Prelude.C
use Rattle.rules.specs.When.{One}
use Rattle.rules.specs.Answers.{answer, accepted, passes, and_then, first, answer_of, case_of}
use Rattle.rules.proofs.Laws.Tests.{by_when}
use Rattle.rules.proofs.Laws.Stages.{Each, each_append}

-- ---- the numbers that a line may have

abbrev pub one_of : List ℕ → ℕ → Bool
one_of [] n = false
one_of (m ∷ ms) n = eqb n m || one_of ms n

-- 1 and 21 are of a whole text, and name no line
abbrev glue_nos : List ℕ
glue_nos = 0 ∷ 2 ∷ 3 ∷ 4 ∷ 5 ∷ 6 ∷ 7 ∷ 8 ∷ 9 ∷ 10 ∷ 11 ∷ 12 ∷ 13 ∷ []

abbrev pub GlueNo : ℕ → Type 0
GlueNo n = T (one_of glue_nos n)

abbrev store_nos : List ℕ
store_nos = 0 ∷ 22 ∷ 23 ∷ 24 ∷ 25 ∷ 26 ∷ 27 ∷ []

abbrev pub StoreNo : ℕ → Type 0
StoreNo n = T (one_of store_nos n)

-- what holds of each of some numbers holds of a number that is one of them
one_or_rest : (p : ℕ → Type 0) (n m : ℕ) (b : Bool) (rest : Bool) → eqb n m ≡ b → p m → (T rest → p n) → T (b || rest) → p n
one_or_rest p n m true rest q h f t = rw (eqb-true n m q) h
one_or_rest p n m false rest q h f t = f t

each_of : (p : ℕ → Type 0) (ms : List ℕ) → Each p ms → (n : ℕ) → T (one_of ms n) → p n
each_of p (m ∷ ms) h n t = one_or_rest p n m (eqb n m) (one_of ms n) refl h.0 (each_of p ms h.1 n) t
each_of p [] h n t = elim t [ ]

-- ---- an answer has a case, with a number of its table

abbrev pub Told : (ℕ → Type 0) → Answer → Type 0
Told R a = (answer_of (case_of a) ≡ a) × R a.number

abbrev pub InGlue : ℕ → Type 0
InGlue n = T (ltb n 14)

abbrev pub InStore : ℕ → Type 0
InStore n = T (eqb n 0 || (leb 21 n && ltb n 28))

-- if the number refuses, the answer with it and any line has a case
abbrev Refuses : (ℕ → Type 0) → ℕ → Type 0
Refuses R n = eqb n 0 ≡ false → (line : ℕ) → Told R (answer n line)

none : (R : ℕ → Type 0) → Refuses R 0
none R z = absurd (eqb-false 0 0 z refl)

pub glue_no : (n : ℕ) → GlueNo n → Refuses InGlue n
unfolding case_of
glue_no =
    each_of (Refuses InGlue) glue_nos
    (none InGlue, ((λ z l. (refl, tt)), ((λ z l. (refl, tt)), ((λ z l. (refl, tt)), ((λ z l. (refl, tt)), ((λ z l. (refl, tt)), ((λ z l. (refl, tt)), ((λ z l. (refl, tt)), ((λ z l. (refl, tt)), ((λ z l. (refl, tt)), ((λ z l. (refl, tt)), ((λ z l. (refl, tt)), ((λ z l. (refl, tt)), tt)))))))))))))

pub store_no : (n : ℕ) → StoreNo n → Refuses InStore n
unfolding case_of
store_no =
    each_of (Refuses InStore) store_nos
    (none InStore, ((λ z l. (refl, tt)), ((λ z l. (refl, tt)), ((λ z l. (refl, tt)), ((λ z l. (refl, tt)), ((λ z l. (refl, tt)), ((λ z l. (refl, tt)), tt)))))))

pub accepted_told : (R : ℕ → Type 0) → R 0 → Told R accepted
unfolding case_of
accepted_told R h = (refl, h)

pub first_told : (R p : ℕ → Type 0) → R 0 → ((n : ℕ) → p n → Refuses R n) → (line : ℕ) (l : List ℕ) → Each p l → Told R (first line l)
unfolding first
first_told R p z f line [] h = accepted_told R z
first_told R p z f line (a ∷ l) h = by_when (Told R) (eqb a 0) _ _ (λ q. first_told R p z f (line + 1) l h.1) (λ q. f a h.0 q line)

pub then_told : (R : ℕ → Type 0) (a : Answer) (later : One → Answer) → Told R a → Told R (later tt) → Told R (and_then a later)
then_told R a later p q = by_when (Told R) (passes a) _ _ (λ z. q) (λ z. p)

-- the answers that name no line
abbrev pub NoLine : ℕ → Type 0
NoLine n = T (one_of (0 ∷ 1 ∷ 21 ∷ []) n)

line_of_case : (v : Verdict) → NoLine (answer_of v).number → (answer_of v).line ≡ 0
line_of_case C.Accepted h = refl
line_of_case C.TooLong h = refl
line_of_case C.StoreTooLong h = refl
line_of_case (C.Shape _) h = elim h [ ]
line_of_case (C.Limit _) h = elim h [ ]
line_of_case (C.Absent _) h = elim h [ ]
line_of_case (C.IntEntry _) h = elim h [ ]
line_of_case (C.WrongKind _) h = elim h [ ]
line_of_case (C.NotKnown _) h = elim h [ ]
line_of_case (C.Outside _) h = elim h [ ]
line_of_case (C.NotAllowed _) h = elim h [ ]
line_of_case (C.NotZero _) h = elim h [ ]
line_of_case (C.NotCovered _) h = elim h [ ]
line_of_case (C.NotReached _) h = elim h [ ]
line_of_case (C.NoEnd _) h = elim h [ ]
line_of_case (C.StoreShape _) h = elim h [ ]
line_of_case (C.StoreLimit _) h = elim h [ ]
line_of_case (C.StoreAbsent _) h = elim h [ ]
line_of_case (C.StoreBlock _) h = elim h [ ]
line_of_case (C.StoreCell _) h = elim h [ ]
line_of_case (C.StoreArgument _) h = elim h [ ]

pub no_line : (a : Answer) → answer_of (case_of a) ≡ a → NoLine a.number → a.line ≡ 0
no_line a e = subst (λ (x : Answer). NoLine x.number → x.line ≡ 0) e (line_of_case (case_of a))

-- a number for each element of a list
pub each_all : {A : Type 0} (p : ℕ → Type 0) (f : A → ℕ) → ((a : A) → p (f a)) → (l : List A) → Each p (map f l)
each_all p f h [] = tt
each_all p f h (a ∷ l) = (h a, each_all p f h l)

-- and then others
pub each_then : {A : Type 0} (p : ℕ → Type 0) (f : A → ℕ) → ((a : A) → p (f a)) → (l : List A) (m : List ℕ) → Each p m → Each p (map f l ++ m)
each_then p f h l m k = (each_append p (map f l) m).1 (each_all p f h l, k)
