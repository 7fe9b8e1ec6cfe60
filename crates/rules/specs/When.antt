-- One of two, by a test. Assumes nothing.
use Rattle.rules.specs.Prelude.{Bool, true, false}

abbrev pub One : Type 0
One = Unit

-- the two are functions, so that only the one that is meant is computed
abbrev pub when : {A : Type 0} → Bool → (One → A) → (One → A) → A
when true f g = f tt
when false f g = g tt

-- a refusal, unless the test holds
abbrev pub need : {A : Type 0} → A → Bool → A → A
need refusal true x = x
need refusal false x = refusal
