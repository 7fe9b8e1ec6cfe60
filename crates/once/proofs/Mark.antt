-- A word and the byte after it: one law for each way through the code. Assumes nothing.
use borrow.Author.Tests.{eq-eqb, ne_eqb}
use native.Mathlib.Omega.{arith}
use Rattle.std.specs.Prelude.{◌+◌, ◌≡◌, Result, Ok, Err, Some}
use Rattle.std.specs.Result.{result_ok}
use Rattle.rules.specs.Prelude.{ℕ, List, sym, ap, ◌∙◌}
use Rattle.rules.specs.Text.Words.{Reading}
use Rattle.rules.specs.Text.Words.{byte_at}
use Rattle.once.specs.Once.{after_mark}

-- what `.ok()` hands on was read
pub was_ok : {A E : Type 0} {x : A} {r q : Result A E} → Some x ≡ result_ok r → r ≡ q → Ok x ≡ q
was_ok {x = x} {r = Ok y} h e = let k : x ≡ y = cc in ap Ok k ∙ e
was_ok {r = Err p} h e = let z : ◌≡◌ {A = ℕ} 0 1 = cc in absurd (omega arith)

module _ {A : Type 0} (s : List ℕ) (b : ℕ) (stop : ℕ → A) (go : ℕ → ℕ → A) {r q : Reading} (e : r ≡ q) where
  pub word_bad : {p : ℕ} → r ≡ Err p → stop p ≡ after_mark s b stop go q
  unfolding after_mark
  word_bad h = ap (after_mark s b stop go) (sym h ∙ e)

  module _ {x n : ℕ} (h : r ≡ Ok (x, n)) where
    pub no_mark : (byte_at s n ≡ b → ⊥) → stop n ≡ after_mark s b stop go q
    unfolding after_mark
    no_mark z = rw (ne_eqb (byte_at s n) b) at (ap (after_mark s b stop go) (sym h ∙ e))

    pub mark : byte_at s n ≡ b → {o : A} → o ≡ go x (n + 1) → o ≡ after_mark s b stop go q
    unfolding after_mark
    mark z p = p ∙ (rw (eq-eqb (byte_at s n) b) at (ap (after_mark s b stop go) (sym h ∙ e)))
