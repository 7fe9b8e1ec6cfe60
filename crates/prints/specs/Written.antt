-- A table into which a word is written from a place on. Assumes nothing.
use Rattle.std.proofs.lemmas.List.Edits.{sets}
use Rattle.std.proofs.Common.{arith}
use Rattle.std.specs.Prelude.{◌+◌, ◌∷◌, ◌++◌, ◌≡◌}
use Rattle.rules.specs.Prelude.{ℕ, suc, List, [], ap, ◌∙◌, length, set, replicate}

-- a byte at a place, each next one at the next place; past the table nothing is written
unfoldable pub put_all : List ℕ → ℕ → List ℕ → List ℕ
put_all C at w = sets C at w

-- a table of 128 bytes with a word at its start, and 0 after it
unfoldable pub printed : List ℕ → List ℕ
printed w = put_all (replicate 128 0) 0 w

-- D is C with the word w from `at` on, and `next` is the place after it
pub record Puts (C : List ℕ) (at : ℕ) (w D : List ℕ) (next : ℕ) : Type 0 where
  pub table : D ≡ put_all C at w
  pub place : next ≡ at + length w

-- ---- laws

-- two words, one after the other
pub put_append : (v C : List ℕ) (at : ℕ) (w : List ℕ) → put_all C at (v ++ w) ≡ put_all (put_all C at v) (at + length v) w
unfolding put_all
put_append [] C at w = ap (λ (i : ℕ). sets C i w) (omega arith)
put_append (b ∷ v) C at w = put_append v (set C at b) (suc at) w ∙ ap (λ (i : ℕ). sets (sets (set C at b) (suc at) v) i w) (omega arith)
