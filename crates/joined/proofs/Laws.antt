-- Laws of the ways through the joined text: no byte is left, the store begins, or one more byte is glue. Assumes nothing.
use native.Mathlib.Omega.{arith as lin}
use native.Mathlib.Numerals.{add-one}
use lib.ListN.{drop_of_length-le}
use lib.Seq.{drop-cons}
use Rattle.std.specs.Prelude.{◌+◌, ◌<◌, ◌≤◌, ◌&&◌, ◌∷◌, ◌≡◌, Err}
use Rattle.std.specs.Result.{is_ok}
use Rattle.rules.specs.Prelude.{ℕ, suc, Bool, true, false, List, [], refl, sym, ◌∙◌, eqb, length, get_or, drop}
use Rattle.rules.specs.Bytes.{bytes}
use Rattle.rules.specs.Text.Words.{agreed, or_word}
use Rattle.rules.specs.Run.{glue_bytes}

-- the word is read exactly where all of it stands
pub run_there : (s : List ℕ) (at : ℕ) → is_ok (or_word s at (bytes "run=") 1 (Err at)) ≡ eqb (agreed (bytes "run=") (drop at s)) 4
unfolding or_word
run_there s at = go (eqb (agreed (bytes "run=") (drop at s)) 4) refl
  where
    go : (t : Bool) → eqb (agreed (bytes "run=") (drop at s)) 4 ≡ t → is_ok (or_word s at (bytes "run=") 1 (Err at)) ≡ t
    go true q = rw q
    go false q = rw q

-- a line begins here, and with `run=`
abbrev begins : Bool → List ℕ → Bool
begins f l = f && eqb (agreed (bytes "run=") l) 4

none_left : (f : Bool) → glue_bytes f [] ≡ 0
unfolding glue_bytes
none_left f = refl

here : (f : Bool) (c : ℕ) (l : List ℕ) → begins f (c ∷ l) ≡ true → glue_bytes f (c ∷ l) ≡ 0
unfolding glue_bytes
here true c l q = rw q
here false c l q = let z : ◌≡◌ {A = ℕ} 0 1 = cc in absurd (omega lin)

onward : (f : Bool) (c : ℕ) (l : List ℕ) → begins f (c ∷ l) ≡ false → glue_bytes f (c ∷ l) ≡ suc (glue_bytes (eqb c 10) l)
unfolding glue_bytes
onward true c l q = rw q
onward false c l q = refl

module _ (s : List ℕ) (i : ℕ) (f : Bool) where
  pub glue_ends : length s ≤ i → glue_bytes f (drop i s) ≡ 0
  glue_ends h = rw (drop_of_length-le s {i = i} h) (none_left f)

  module _ (h : i < length s) (b : Bool) (e : b ≡ begins f (drop i s)) where
    begins_by : (t : Bool) → b ≡ t → begins f (get_or s i 0 ∷ drop (suc i) s) ≡ t
    begins_by t z = rw (drop-cons s i 0 h) at (sym e ∙ z)

    pub glue_here : b ≡ true → glue_bytes f (drop i s) ≡ 0
    glue_here z = rw (drop-cons s i 0 h) (here f (get_or s i 0) (drop (suc i) s) (begins_by true z))

    pub glue_on : b ≡ false → glue_bytes f (drop i s) ≡ suc (glue_bytes (eqb (get_or s i 0) 10) (drop (i + 1) s))
    glue_on z = rw (add-one i, drop-cons s i 0 h) (onward f (get_or s i 0) (drop (suc i) s) (begins_by false z))
