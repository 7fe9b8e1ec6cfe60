-- One law for each way through the code of lines: what a definition is where a test held, or where it did not. Assumes nothing.
use native.Mathlib.Numerals.{sub-one}
use native.Mathlib.Omega.{arith}
use borrow.Author.Tests.{lt-ltb, le-ltb, eq-eqb, ne_eqb}
use Rattle.std.specs.Prelude.{◌+◌, ◌-◌, ◌*◌, ◌≤◌, ◌<◌, ◌&&◌, ◌||◌, ◌≡◌, Ok, Err}
use Rattle.rules.specs.Prelude.{ℕ, zero, suc, Bool, true, false, List, refl, sym, ap, ◌∙◌, ltb, eqb, length, set}
use Rattle.rules.specs.declared.Answer.{Answer}
use Rattle.rules.specs.declared.Count.{Count}
use Rattle.rules.specs.Text.Words.{Reading}
use Rattle.rules.specs.Text.Words.{Next}
use Rattle.rules.specs.When.{when}
use Rattle.rules.specs.Answers.{answer}
use Rattle.rules.specs.Text.{TextOut, stopped, Lined, lined, limited, shaped, keyed, line_at, ended, and_line, lines_from}
use Rattle.rules.specs.Text.Words.{byte_at, value_of, next_of, plain_at}
use Rattle.rules.specs.Text.Shape.{psi_at, key_of, in_order, line_shape}
use Rattle.rules.specs.declared.Tables.{Tables}
use Rattle.rules.specs.Text.Layout.{with_labels, nothing}
use Rattle.rules.specs.Text.Fill.{Filled, filled, Fields, fields, put_field, more_fields, fill_fields, fill_products, add_row, fill_type, plain_line, fill_entries, add_label, fill_label, one_more, fill_line}
use Rattle.reader.specs.Read.{settled, Closed, read_over}
use Rattle.reader.proofs.Once.{line_settled}

-- ---- lines before the body

module _ (s : List ℕ) (r total : ℕ) (R : List ℕ) (at : ℕ) where
  pub no_products : byte_at s at ≡ 10 → fill_products s r total R at ≡ fields true total R
  unfolding fill_products
  no_products e = rw (eq-eqb (byte_at s at) 10)

  pub some_products : (byte_at s at ≡ 10 → ⊥) → fill_products s r total R at ≡ fill_fields s r 257 total R 0 0 at
  unfolding fill_products
  some_products n = rw (ne_eqb (byte_at s at) 10)

  module _ (left k o : ℕ) where
    pub fields_over : left ≡ 0 → fill_fields s r left total R k o at ≡ fields false total R
    unfolding fill_fields
    fields_over e = rw e

    pub field_not : 0 < left → (ltb k 16 && (ltb o 16 && ltb total 1024)) ≡ false → fill_fields s r left total R k o at ≡ fields false total R
    unfolding fill_fields
    field_not h e = by left h
      where
        by : (n : ℕ) → 0 < n → fill_fields s r n total R k o at ≡ fields false total R
        by zero p = absurd (omega arith)
        by (suc n) p = rw e

    pub field_put : 0 < left → (ltb k 16 && (ltb o 16 && ltb total 1024)) ≡ true → {q : Reading} → q ≡ plain_at s at
        → fill_fields s r left total R k o at
        ≡ more_fields s (fill_fields s r (left - 1) (total + 1) (put_field R r k o (value_of q))) (next_of q) k o (fields true (total + 1) (put_field R r k o (value_of q)))
    unfolding fill_fields
    field_put h e {q} w = by left h
      where
        by : (n : ℕ) → 0 < n
            → fill_fields s r n total R k o at
            ≡ more_fields s (fill_fields s r (n - 1) (total + 1) (put_field R r k o (value_of q))) (next_of q) k o (fields true (total + 1) (put_field R r k o (value_of q)))
        by zero p = absurd (omega arith)
        by (suc n) p = rw (e, w, sub-one (suc n))

    -- the same of what the code found and wrote
    pub field_turn : 0 < left → (ltb k 16 && (ltb o 16 && ltb total 1024)) ≡ true → {q : Reading} → q ≡ plain_at s at
        → {n v : ℕ} → n ≡ next_of q → v ≡ value_of q → {M : List ℕ} → M ≡ put_field R r k o v
        → more_fields s (fill_fields s r (left - 1) (total + 1) M) n k o (fields true (total + 1) M) ≡ fill_fields s r left total R k o at
    field_turn h e w x y z =
        let f = z ∙ ap (put_field R r k o) y in
        (λ i. more_fields s (fill_fields s r (left - 1) (total + 1) (f i)) (x i) k o (fields true (total + 1) (f i))) ∙ sym (field_put h e w)

module _ (s : List ℕ) (rest : ℕ → ℕ → ℕ → Fields) (n k o : ℕ) (done : Fields) {b : ℕ} (q : b ≡ byte_at s n) where
  pub last_field : (eqb b 44 || eqb b 124) ≡ false → more_fields s rest n k o done ≡ done
  last_field e = rw (← q) (by (eqb b 44) (eqb b 124) e)
    where
      by : (x y : Bool) → (x || y) ≡ false → when x (λ _. rest k (o + 1) (n + 1)) (λ _. when y (λ _. rest (k + 1) 0 (n + 1)) (λ _. done)) ≡ done
      by true y h = let z : ◌≡◌ {A = ℕ} 0 1 = cc in absurd (omega arith)
      by false true h = let z : ◌≡◌ {A = ℕ} 0 1 = cc in absurd (omega arith)
      by false false h = refl

  pub more_fields_lem : (eqb b 44 || eqb b 124) ≡ true
      → more_fields s rest n k o done ≡ rest (when (eqb b 44) (λ _. k) (λ _. k + 1)) (when (eqb b 44) (λ _. o + 1) (λ _. 0)) (n + 1)
  more_fields_lem e = rw (← q) (by (eqb b 44) (eqb b 124) e)
    where
      by : (x y : Bool) → (x || y) ≡ true → when x (λ _. rest k (o + 1) (n + 1)) (λ _. when y (λ _. rest (k + 1) 0 (n + 1)) (λ _. done))
          ≡ rest (when x (λ _. k) (λ _. k + 1)) (when x (λ _. o + 1) (λ _. 0)) (n + 1)
      by true y h = refl
      by false true h = refl
      by false false h = let z : ◌≡◌ {A = ℕ} 0 1 = cc in absurd (omega arith)

module _ (s : List ℕ) (at : ℕ) (c : Count) (t : Tables) where
  pub type_room : c.rows < 64
      → fill_type s at c t ≡ add_row c t (fill_products s c.rows c.fields (set t.rows (c.rows * 274) (value_of (psi_at s at))) (next_of (psi_at s at) + 1))
  unfolding fill_type
  type_room h = rw (lt-ltb c.rows 64)

  pub type_full : 64 ≤ c.rows → fill_type s at c t ≡ filled false c t
  unfolding fill_type
  type_full h = rw (le-ltb c.rows 64)

  -- ---- lines of the body

  pub label_room : c.labels < 64
      → fill_label s at c t
      ≡ add_label (plain_line c (with_labels t (fill_entries s c.labels c.vars 0 (set t.labels (c.labels * 97) (c.lines + 1)) at)) 9 c.labels 0 0)
  unfolding fill_label
  label_room h = rw (lt-ltb c.labels 64)

  pub label_full : 64 ≤ c.labels → fill_label s at c t ≡ filled false c t
  unfolding fill_label
  label_full h = rw (le-ltb c.labels 64)

  pub in_room : (x : Filled) → c.lines < 512 → one_more c t x ≡ x
  in_room x h = rw (lt-ltb c.lines 512)

  pub no_room : (x : Filled) → 512 ≤ c.lines → one_more c t x ≡ filled false c t
  no_room x h = rw (le-ltb c.lines 512)

  -- ---- a line, whole

  module _ (k : ℕ) where
    pub no_feed : (n : ℕ) → (byte_at s n ≡ 10 → ⊥) → shaped s k at c t (Ok n) ≡ lined 2 n c t
    no_feed n h = rw (ne_eqb (byte_at s n) 10)

    pub feed : (n : ℕ) {x : Filled} → byte_at s n ≡ 10 → x ≡ fill_line s (key_of k) at c t → shaped s k at c t (Ok n) ≡ limited k (n + 1) x
    feed n h e = rw (eq-eqb (byte_at s n) 10, e)

    pub not_ordered : (start : ℕ) → in_order c.part k ≡ false → keyed s start c t (Ok (k, at)) ≡ lined 2 start c t
    not_ordered start e = rw e

    pub ordered : (start : ℕ) {x : Next} → in_order c.part k ≡ true → x ≡ line_shape s c.vars (key_of k) at → keyed s start c t (Ok (k, at)) ≡ shaped s k at c t x
    ordered start e q = rw (e, q)

-- ---- the text, whole

module _ (c : Count) (t : Tables) where
  module _ (s : List ℕ) (line at : ℕ) where
    pub lines_over : (left : ℕ) → left ≡ 0 → lines_from s left line at c t ≡ stopped (answer 3 line)
    unfolding lines_from
    lines_over left e = rw e

    pub lines_end : (left : ℕ) → 0 < left → length s ≤ at → lines_from s left line at c t ≡ ended c t
    unfolding lines_from
    lines_end zero p h = absurd (omega arith)
    lines_end (suc left) p h = rw (le-ltb at (length s))

    -- of the line no more counts than what is settled
    pub lines_line : (left : ℕ) (x : Lined) → 0 < left → at < length s → settled x ≡ settled (line_at s at c t)
        → lines_from s left line at c t ≡ and_line (lines_from s (left - 1) (line + 1)) line x
    unfolding lines_from
    lines_line zero x p h e = absurd (omega arith)
    lines_line (suc left) x p h e =
        rw (lt-ltb at (length s), line_settled (lines_from s left (line + 1)) line (line_at s at c t), sym e, sub-one (suc left))
        (sym (line_settled (lines_from s left (line + 1)) line x))

  module _ (rest : ℕ → Count → Tables → TextOut) (line n : ℕ) where
    pub refused : (a : ℕ) → (a ≡ 0 → ⊥) → stopped (answer a line) ≡ and_line rest line (lined a n c t)
    refused a e = rw (ne_eqb a 0)

module _ (s : List ℕ) (t : Tables) where
  pub too_long : 32768 < length s → read_over s t ≡ stopped (answer 1 0)
  unfolding read_over
  too_long h = rw (lt-ltb 32768 (length s))

  pub not_long : length s ≤ 32768 → read_over s t ≡ lines_from s 610 1 0 nothing t
  unfolding read_over
  not_long h = rw (le-ltb 32768 (length s))

pub closed_refused : (a : Answer) (t : Tables) → (a.number ≡ 0 → ⊥) → Closed (Err a) t (stopped a)
closed_refused a t n = record { answer = rw (ne_eqb a.number 0) refl; tables = refl }
