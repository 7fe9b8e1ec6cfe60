-- Laws on covering the first n entries, one after the other: a refusal stays, and past both lists nothing is refused. Assumes nothing.
use native.Mathlib.Omega.{arith}
use native.Mathlib.Numerals.{add-one}
use native.Mathlib.Decide.{le_ind}
use lib.ListN.{get_or-eq_default}
use Rattle.std.specs.Prelude.{◌+◌, ◌≤◌, ◌<◌, ◌≡◌}
use Rattle.rules.specs.Prelude.{ℕ, Bool, true, false, List, refl, subst, length, get_or}
use Rattle.rules.specs.declared.Entry.{Entry}
use Rattle.rules.specs.Program.{no_entry}
use Rattle.rules.specs.Environments.{covers_entry, covers_first}
use Rattle.rules.proofs.Laws.Tests.{held}
use Rattle.rules.proofs.Laws.Covering.{entry_refl}

module _ (ls hs : List Entry) where
  pub first_more : (i : ℕ) (t : Bool) → covers_first i ls hs ≡ true → covers_entry (get_or ls i no_entry) (get_or hs i no_entry) ≡ t → covers_first (i + 1) ls hs ≡ t
  unfolding covers_first
  first_more i t p e = rw (add-one i) (simp (p, e))

  pub first_no : (i n : ℕ) → i < n → covers_first i ls hs ≡ true → covers_entry (get_or ls i no_entry) (get_or hs i no_entry) ≡ false → covers_first n ls hs ≡ false
  unfolding covers_first
  first_no i n l p e = le_ind {n = i + 1} (λ k. covers_first k ls hs ≡ false) (first_more i false p e) (λ k q r. rw r refl) n (omega arith)

  pub first_past : (i n : ℕ) → length ls ≤ i → length hs ≤ i → i ≤ n → covers_first i ls hs ≡ true → covers_first n ls hs ≡ true
  unfolding covers_first
  first_past i n a b l p =
      le_ind {n = i} (λ k. covers_first k ls hs ≡ true) p
      (λ k q r. rw (r, get_or-eq_default ls no_entry {n = k} (omega arith), get_or-eq_default hs no_entry {n = k} (omega arith)) (held _ (entry_refl no_entry)))
      n l

  pub first_all : (i n : ℕ) → i ≤ n → n ≤ i → covers_first i ls hs ≡ true → covers_first n ls hs ≡ true
  first_all i n l m p = let e : i ≡ n = omega arith in subst (λ (k : ℕ). covers_first k ls hs ≡ true) e p
