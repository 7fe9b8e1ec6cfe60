-- Lists that views are made of: their lengths, their elements, and one element written. Assumes nothing.
use Rattle.std.proofs.Common.{ltb-false, arith as lin}
use Rattle.std.specs.Prelude.{◌<◌, ◌≤◌, ◌∷◌, ◌≡◌}
use Rattle.rules.specs.Prelude.{ℕ, zero, suc, Bool, true, false, refl, ap, ap₂, ltb, length, get_or, set}
use Rattle.rules.specs.View.{tab, up_to}

pub tab_length : {A : Type 0} (n : ℕ) (f : ℕ → A) → length (tab n f) ≡ n
unfolding tab
tab_length zero f = refl
tab_length (suc n) f = ap suc (tab_length n (λ i. f (suc i)))

pub tab_in : {A : Type 0} (n : ℕ) (f : ℕ → A) (i : ℕ) (d : A) → i < n → get_or (tab n f) i d ≡ f i
unfolding tab
tab_in zero f i d h = absurd (omega lin)
tab_in (suc n) f zero d h = refl
tab_in (suc n) f (suc i) d h = tab_in n (λ j. f (suc j)) i d (omega lin)

pub up_to_le : (most n : ℕ) → up_to most n ≤ most
unfolding up_to
up_to_le most n = go (ltb most n) refl
  where
    go : (c : Bool) → ltb most n ≡ c → up_to most n ≤ most
    go true q = rw q (omega lin)
    go false q = rw q (ltb-false most n q)

pub tab_ext : {A : Type 0} (n : ℕ) (f g : ℕ → A) → ((i : ℕ) → i < n → f i ≡ g i) → tab n f ≡ tab n g
unfolding tab
tab_ext zero f g h = refl
tab_ext (suc n) f g h = ap₂ ◌∷◌ (h 0 (omega lin)) (tab_ext n (λ i. f (suc i)) (λ i. g (suc i)) (λ i k. h (suc i) (omega lin)))

-- g is f but at i
pub tab_set : {A : Type 0} (n : ℕ) (f g : ℕ → A) (i : ℕ) (x : A) → g i ≡ x → ((j : ℕ) → j < n → (j ≡ i → ⊥) → g j ≡ f j) → tab n g ≡ set (tab n f) i x
unfolding tab
tab_set zero f g i x e h = refl
tab_set (suc n) f g zero x e h = ap₂ ◌∷◌ e (tab_ext n (λ j. g (suc j)) (λ j. f (suc j)) (λ j k. h (suc j) (omega lin) (λ q. omega (lin, q))))
tab_set (suc n) f g (suc i) x e h = ap₂ ◌∷◌ (h 0 (omega lin) (λ q. omega (lin, q))) (tab_set n (λ j. f (suc j)) (λ j. g (suc j)) i x e (λ j k ne. h (suc j) (omega lin) (λ q. ne (omega (lin, q)))))

-- what holds of every f i and of the default holds of every element
pub tab_all : {A : Type 0} (p : A → Type 0) (n : ℕ) (f : ℕ → A) (z : A) → p z → ((i : ℕ) → p (f i)) → (i : ℕ) → p (get_or (tab n f) i z)
unfolding tab
tab_all p zero f z h k i = h
tab_all p (suc n) f z h k zero = k 0
tab_all p (suc n) f z h k (suc i) = tab_all p n (λ j. f (suc j)) z h (λ j. k (suc j)) i
