-- The shapes of lines at a place of a text: one law for each way that the code goes. Assumes nothing.
use mathlib.Core.Logic.{⊎_elim}
use Rattle.rules.specs.declared.Key.TheVariants as K
use native.Mathlib.Nat.{eq-zero-or-pos}
use native.Mathlib.Omega.{arith}
use lib.ListN.{get_or-eq_default}
use borrow.Author.Tests.{eq-eqb, ne_eqb, eqb-true}
use Rattle.std.specs.Prelude.{◌+◌, ◌-◌, ◌<◌, ◌≤◌, ◌||◌, ◌∷◌, ◌≡◌, Ok, Err}
use Rattle.rules.specs.Prelude.{ℕ, zero, suc, Bool, true, false, List, [], refl, ◌∙◌, ltb, eqb}
use Rattle.rules.specs.Bytes.{bytes}
use Rattle.rules.proofs.Laws.Tests.{by_when}
use Rattle.text.proofs.Laws.{value_most, plain_reads, number_reads}
use Rattle.rules.specs.Text.Words.{byte_at, value_of, plain_at, number_at, byte_is, arity, head_at}
use Rattle.rules.specs.Text.Shape.{over, needed, expr_on, exprs_shape, fields_on, fields_shape, entry_shape, more_entries, label_shape, key_at, key_of}
use Rattle.text.proofs.Chain.{only, chain, chain_by, chain_none}

-- ---- numbers

-- each fits 32 bits, so that it can be raised
pub plain_small : (s : List ℕ) (at : ℕ) → value_of (plain_at s at) ≤ 4294967295
plain_small s at = omega (arith, value_most (plain_reads s at))

pub number_small : (s : List ℕ) (at : ℕ) → value_of (number_at s at) ≤ 4294967295
number_small s at = value_most (number_reads s at)

-- ---- expressions: turn i of n reads the word at `at`, where `need` expressions are still to come

pub no_words : (s : List ℕ) (need at i n : ℕ) → n ≤ i → exprs_shape s (n - i) need at ≡ Err at
unfolding exprs_shape
no_words s need at i n h = let e : n - i ≡ 0 = omega arith in rw e

module _ (s : List ℕ) (need at i n : ℕ) (p : i < n) where
  word : exprs_shape s (n - i) need at ≡ expr_on s (exprs_shape s (n - (i + 1))) need (head_at s at)
  unfolding exprs_shape
  word = let e : n - i ≡ suc (n - (i + 1)) = omega arith in rw e

  pub word_not : {q : ℕ} → head_at s at ≡ Err q → exprs_shape s (n - i) need at ≡ Err q
  word_not f = word ∙ rw f

  module _ {op a next : ℕ} (f : head_at s at ≡ Ok (op, a, next)) where
    pub word_ends : needed need op ≡ 0 → exprs_shape s (n - i) need at ≡ Ok next
    word_ends z = word ∙ rw (f, eq-eqb (needed need op) 0)

    module _ (z : needed need op ≡ 0 → ⊥) where
      pub word_bad : {q : ℕ} → byte_is s next 32 ≡ Err q → exprs_shape s (n - i) need at ≡ Err q
      word_bad g = word ∙ rw (f, ne_eqb (needed need op) 0, g)

      pub word_on : {m : ℕ} → byte_is s next 32 ≡ Ok m → exprs_shape s (n - i) need at ≡ exprs_shape s (n - (i + 1)) (needed need op) m
      word_on g = word ∙ rw (f, ne_eqb (needed need op) 0, g)

pub arity_most : (op : ℕ) → arity op ≤ 2
unfolding arity
arity_most op =
    by_when (λ (n : ℕ). n ≤ 2) (ltb op 3) _ _ (λ _. omega arith) (λ _. by_when (λ (n : ℕ). n ≤ 2) (ltb op 6) _ _ (λ _. omega arith) (λ _. omega arith))

-- ---- field rows: turn i of n reads the row at `at`

pub no_fields : (s : List ℕ) (at i n : ℕ) → n ≤ i → fields_shape s (n - i) at ≡ Err at
unfolding fields_shape
no_fields s at i n h = let e : n - i ≡ 0 = omega arith in rw e

module _ (s : List ℕ) (at i n : ℕ) (p : i < n) where
  field : fields_shape s (n - i) at ≡ fields_on s (fields_shape s (n - (i + 1))) (plain_at s at)
  unfolding fields_shape
  field = let e : n - i ≡ suc (n - (i + 1)) = omega arith in rw e

  pub field_not : {q : ℕ} → plain_at s at ≡ Err q → fields_shape s (n - i) at ≡ Err q
  field_not f = field ∙ rw f

  module _ {v m : ℕ} (f : plain_at s at ≡ Ok (v, m)) {b : ℕ} (g : b ≡ byte_at s m) {t : Bool} (k : t ≡ (eqb b 44 || eqb b 124)) where
    pub field_ends : t ≡ false → fields_shape s (n - i) at ≡ Ok m
    field_ends h = field ∙ rw (f, ← g, ← k, h)

    pub field_on : t ≡ true → fields_shape s (n - i) at ≡ fields_shape s (n - (i + 1)) (m + 1)
    field_on h = field ∙ rw (f, ← g, ← k, h)

-- what stands between two rows is a byte
pub between_byte : (b : ℕ) → (eqb b 44 || eqb b 124) ≡ true → b < 256
between_byte b = go (eqb b 44) (eqb b 124) refl refl
  where
    go : (x y : Bool) → eqb b 44 ≡ x → eqb b 124 ≡ y → (x || y) ≡ true → b < 256
    go true y p q h = let e : b ≡ 44 = eqb-true b 44 p in omega arith
    go false true p q h = let e : b ≡ 124 = eqb-true b 124 q in omega arith
    go false false p q h = let z : ◌≡◌ {A = ℕ} 0 1 = cc in absurd (omega arith)

-- ---- the entries of a label: the one at `at` is that of variable v of n

pub no_entries : (s : List ℕ) (at v n : ℕ) → n ≤ v → label_shape s (n - v) at ≡ Ok at
unfolding label_shape
no_entries s at v n h = let e : n - v ≡ 0 = omega arith in rw e

module _ (s : List ℕ) (at v n : ℕ) (p : v < n) where
  entry : label_shape s (n - v) at ≡ over (entry_shape s at) (more_entries s (label_shape s (n - (v + 1))) (n - (v + 1)))
  unfolding label_shape
  entry = let e : n - v ≡ suc (n - (v + 1)) = omega arith in rw e

  pub entry_not : {q : ℕ} → entry_shape s at ≡ Err q → label_shape s (n - v) at ≡ Err q
  entry_not f = entry ∙ rw f

  module _ {m : ℕ} (f : entry_shape s at ≡ Ok m) where
    pub entry_last : v + 1 ≡ n → label_shape s (n - v) at ≡ Ok m
    entry_last z = let e : n - (v + 1) ≡ 0 = omega arith in entry ∙ rw (f, e)

    module _ (z : v + 1 ≡ n → ⊥) where
      another : label_shape s (n - v) at ≡ over (byte_is s m 32) (label_shape s (n - (v + 1)))
      another = let e : n - (v + 1) ≡ suc (n - (v + 1) - 1) = omega arith in entry ∙ rw f (rw e)

      pub entry_bad : {q : ℕ} → byte_is s m 32 ≡ Err q → label_shape s (n - v) at ≡ Err q
      entry_bad g = another ∙ rw g

      pub entry_on : {k : ℕ} → byte_is s m 32 ≡ Ok k → label_shape s (n - v) at ≡ label_shape s (n - (v + 1)) k
      entry_on g = another ∙ rw g

-- ---- keys

abbrev keys : List (List ℕ × ℕ)
keys = (bytes "ret=", 1) ∷ (bytes "type=", 2) ∷ (bytes "param=", 3) ∷ (bytes "local=", 4) ∷ (bytes "set=", 5) ∷ (bytes "put=", 6) ∷ (bytes "goto=", 7) ∷ (bytes "if=", 8) ∷ (bytes "ifimm=", 9) ∷ (bytes "iftag=", 10) ∷ (bytes "ifint=", 11) ∷ (bytes "return=", 12) ∷ (bytes "label=", 13) ∷ []

-- only the keys that begin with the byte that stands there
module _ (s : List ℕ) (at b : ℕ) (e : b ≡ byte_at s at) where
  pub key_by : key_at s at ≡ chain s at (only b keys) (Err at)
  unfolding key_at
  key_by = chain_by s at keys e

  pub key_none : (b ≡ 103 → ⊥) → (b ≡ 105 → ⊥) → (b ≡ 108 → ⊥) → (b ≡ 112 → ⊥) → (b ≡ 114 → ⊥) → (b ≡ 115 → ⊥) → (b ≡ 116 → ⊥) → key_at s at ≡ Err at
  key_none ng ni nl np nr ns nt =
      let i = ne_eqb b 105 ni in
      let l = ne_eqb b 108 nl in
      let p = ne_eqb b 112 np in
      let r = ne_eqb b 114 nr in
      key_by ∙ chain_none s at b keys (r, (ne_eqb b 116 nt, (p, (l, (ne_eqb b 115 ns, (p, (ne_eqb b 103 ng, (i, (i, (i, (i, (r, (l, tt)))))))))))))

-- no one of the numbers from 1 to j: what is known in the last arm of a match on k
abbrev pub Others : ℕ → ℕ → Type 0
Others zero k = Unit
Others (suc j) k = Others j k × (k ≡ suc j → ⊥)

above : (j k : ℕ) → 0 < k → Others j k → j < k
above zero k p o = p
above (suc j) k p (o, n) =
    let h : j < k = above j k p o in
    ⊎_elim (λ e. absurd (n (omega arith))) (λ q. omega arith) (eq-zero-or-pos (k - suc j))

pub no_key_lem : (k : ℕ) → Others 13 k → key_of k ≡ K.Absent
unfolding key_of
no_key_lem k o = ⊎_elim (λ e. rw e) (λ p. let h : 13 < k = above 13 k p o in rw get_or-eq_default) (eq-zero-or-pos k)
