-- A chain of words at one place: only the words that begin with the byte that stands there count. Assumes nothing.
use native.Mathlib.Decide.{dec_lt}
use native.Mathlib.Omega.{arith}
use borrow.Author.Tests.{eqb-false, ne_eqb}
use Rattle.std.specs.Prelude.{◌+◌, ◌<◌, ◌≤◌, ◌∷◌, ◌≡◌, Ok, Err}
use Rattle.rules.specs.Prelude.{ℕ, max, Bool, true, false, List, [], refl, sym, ap, ◌∙◌, eqb, length, drop}
use Rattle.rules.specs.Text.Words.{Reading}
use Rattle.rules.specs.When.{when}
use Rattle.rules.specs.Bytes.{bytes}
use Rattle.rules.proofs.Laws.Tests.{by_when}
use Rattle.rules.specs.Text.Words.{byte_at, agreed, or_word, operator_at}
use Rattle.text.proofs.Laws.{get_d_any}
use Rattle.text.proofs.Ways.{text_ends, differs, or_miss}

-- a wrong byte is not before the place
abbrev Far : ℕ → Reading → Type 0
Far at (Ok (j, n)) = Unit
Far at (Err p) = at ≤ p

-- whether a word may begin with the byte
abbrev pub begins : ℕ → List ℕ → Bool
begins b [] = true
begins b (x ∷ w) = eqb b x

-- the words, each with its number, that may begin with the byte
abbrev pub only : ℕ → List (List ℕ × ℕ) → List (List ℕ × ℕ)
only b [] = []
only b (w ∷ ws) = when (begins b w.0) (λ _. w ∷ only b ws) (λ _. only b ws)

module _ (s : List ℕ) (at : ℕ) where
  abbrev pub chain : List (List ℕ × ℕ) → Reading → Reading
  chain [] r = r
  chain (w ∷ ws) r = chain ws (or_word s at w.0 w.1 r)

  none_by : (x : ℕ) (w : List ℕ) → (byte_at s at ≡ x → ⊥) → Dec (at < length s) → agreed (x ∷ w) (drop at s) ≡ 0
  none_by x w n (yes h) = differs (x ∷ w) s 0 at (omega arith) h (λ e. n (get_d_any s at 256 0 h ∙ e))
  none_by x w n (no h) = text_ends (x ∷ w) s 0 at (omega arith) (omega arith)

  skip : (x : ℕ) (w : List ℕ) (k : ℕ) (r : Reading) → (byte_at s at ≡ x → ⊥) → Far at r → or_word s at (x ∷ w) k r ≡ r
  unfolding or_word
  skip x w k (Ok (j, n)) d f = refl
  skip x w k (Err p) d f =
      or_miss s at (x ∷ w) k p 0 (sym (none_by x w d (dec_lt at (length s)))) (λ e. omega arith)
      ∙ (let m : max p (at + 0) ≡ p = omega arith in ap Err m)

  far_or : (w : List ℕ) (k : ℕ) (r : Reading) → Far at r → Far at (or_word s at w k r)
  unfolding or_word
  far_or w k (Ok (j, n)) f = tt
  far_or w k (Err p) f = by_when (Far at) (eqb (agreed w (drop at s)) (length w)) _ _ (λ _. tt) (λ _. omega arith)

  chain_only : (ws : List (List ℕ × ℕ)) (r : Reading) → Far at r → chain ws r ≡ chain (only (byte_at s at) ws) r
  chain_only [] r f = refl
  chain_only (([], k) ∷ ws) r f = chain_only ws (or_word s at [] k r) (far_or [] k r f)
  chain_only ((x ∷ w, k) ∷ ws) r f =
      by_when (λ (l : List (List ℕ × ℕ)). chain ws (or_word s at (x ∷ w) k r) ≡ chain l r) (eqb (byte_at s at) x) _ _
      (λ _. chain_only ws (or_word s at (x ∷ w) k r) (far_or (x ∷ w) k r f))
      (λ e. ap (chain ws) (skip x w k r (eqb-false (byte_at s at) x e) f) ∙ chain_only ws r f)

  -- by the byte that was read there
  pub chain_by : {b : ℕ} (ws : List (List ℕ × ℕ)) → b ≡ byte_at s at → chain ws (Err at) ≡ chain (only b ws) (Err at)
  chain_by ws e = rw e (chain_only ws (Err at) (omega arith))

-- no word may begin with the byte
abbrev pub None : ℕ → List (List ℕ × ℕ) → Type 0
None b [] = Unit
None b (w ∷ ws) = (begins b w.0 ≡ false) × None b ws

only_none : (b : ℕ) (ws : List (List ℕ × ℕ)) → None b ws → only b ws ≡ []
only_none b [] h = refl
only_none b (w ∷ ws) (e, h) = rw e (only_none b ws h)

pub chain_none : (s : List ℕ) (at b : ℕ) (ws : List (List ℕ × ℕ)) → None b ws → chain s at (only b ws) (Err at) ≡ Err at
chain_none s at b ws h = rw (only_none b ws h)

-- ---- the operators

abbrev operators : List (List ℕ × ℕ)
operators = (bytes "fetch", 3) ∷ (bytes "int", 4) ∷ (bytes "val", 5) ∷ (bytes "step", 6) ∷ (bytes "add", 7) ∷ (bytes "sub", 8) ∷ (bytes "mul", 9) ∷ (bytes "eq", 10) ∷ (bytes "lt", 11) ∷ []

module _ (s : List ℕ) (at b : ℕ) (e : b ≡ byte_at s at) where
  pub operator_by : operator_at s at ≡ chain s at (only b operators) (Err at)
  unfolding operator_at
  operator_by = chain_by s at operators e

  pub operator_none : (b ≡ 97 → ⊥) → (b ≡ 101 → ⊥) → (b ≡ 102 → ⊥) → (b ≡ 105 → ⊥) → (b ≡ 108 → ⊥) → (b ≡ 109 → ⊥) → (b ≡ 115 → ⊥) → (b ≡ 118 → ⊥)
      → operator_at s at ≡ Err at
  operator_none na ne nf ni nl nm ns nv =
      operator_by
      ∙ chain_none s at b operators (ne_eqb b 102 nf, (ne_eqb b 105 ni, (ne_eqb b 118 nv, (ne_eqb b 115 ns, (ne_eqb b 97 na, (ne_eqb b 115 ns, (ne_eqb b 109 nm, (ne_eqb b 101 ne, (ne_eqb b 108 nl, tt)))))))))
