-- A label that is read once: its shape ends where it says, or is wrong where it says, and its entries are written as the rules write them. Assumes nothing.
use native.Mathlib.Numerals.{sub-one}
use Rattle.rules.specs.declared.Key.TheVariants as K
use native.Mathlib.Omega.{arith}
use borrow.Author.Tests.{lt-ltb, le-ltb, eq-eqb, ne_eqb}
use Rattle.std.specs.Prelude.{◌+◌, ◌-◌, ◌*◌, ◌≤◌, ◌<◌, ◌≡◌, Ok, Err}
use Rattle.rules.specs.Prelude.{ℕ, zero, suc, Bool, true, false, List, refl, sym, ap, subst, ◌∙◌, ltb, eqb, set}
use Rattle.rules.specs.declared.Count.{Count}
use Rattle.rules.specs.Text.Words.{Reading}
use Rattle.rules.specs.Text.Words.{Next}
use Rattle.rules.specs.When.{when}
use Rattle.rules.specs.Text.{lined, shaped}
use Rattle.rules.specs.Text.Words.{byte_at, value_of, next_of, byte_is}
use Rattle.rules.specs.Text.Shape.{after, over, end, boxed_at, offset_at, tag_at, entry_shape, more_entries, label_shape, key_of, part_of, line_shape}
use Rattle.rules.specs.declared.Tables.{Tables}
use Rattle.rules.specs.Text.Layout.{with_labels, with_body, one_label, one_line, in_part}
use Rattle.rules.specs.Text.Fill.{filled, put_line, plain_line, put_entry, fill_entries, fill_label, fill_line}
use Rattle.once.specs.Once.{after_mark}
use Rattle.once.proofs.Right.{Refuses}
use Rattle.reader.specs.Read.{Late, settled}
use Rattle.reader.proofs.Once.{late_bad, late_no_feed}
use Rattle.reader.proofs.Ways.{label_room, label_full}
use Rattle.reader.specs.Labels.{Entered, entered, put_once, tag_once, offset_once, entry_once, more_once, entries_once}

-- the shape of all entries, and what the rules fill
abbrev All : Next → List ℕ → Entered → Type 0
All x F (entered (Ok n) M) = (x ≡ Ok n) × (M ≡ F)
All x F (entered (Err p) M) = x ≡ Err p

module _ (s : List ℕ) (l : ℕ) where
  -- ---- one entry: those after it are filled from where it ends

  module _ (v : ℕ) (L : List ℕ) where
    abbrev One : Next → (ℕ → List ℕ) → Entered → Type 0
    One x fill (entered (Ok n) M) = (x ≡ Ok n) × ((more : ℕ) → fill more ≡ fill_entries s l more (v + 1) M (n + 1))
    One x fill (entered (Err p) M) = x ≡ Err p

    put_one : (b i : ℕ) (r : Reading) → One (end r) (λ more. fill_entries s l more (v + 1) (put_entry L l v b i (value_of r)) (next_of r + 1)) (put_once l v b i L r)
    put_one b i (Err p) = refl
    put_one b i (Ok (t, n)) = (refl, λ more. refl)

    -- a word, a comma, and on
    after_one : (go : ℕ → ℕ → Entered) (shape : ℕ → Next) (fill : ℕ → ℕ → ℕ → List ℕ) → ((x n : ℕ) → One (shape n) (fill x n) (go x n))
        → (r : Reading) → One (after r (λ n. over (byte_is s n 44) shape)) (fill (value_of r) (next_of r + 1)) (after_mark s 44 (λ p. entered (Err p) L) go r)
    unfolding after_mark byte_is
    after_one go shape fill one (Err p) = refl
    after_one go shape fill one (Ok (x, n)) = by (eqb (byte_at s n) 44)
      where
        by : (b : Bool) → One (over (when b (λ _. Ok (n + 1)) (λ _. Err n)) shape) (fill x (n + 1)) (when b (λ _. go x (n + 1)) (λ _. entered (Err n) L))
        by true = one x (n + 1)
        by false = refl

    abbrev filled_from : ℕ → ℕ → ℕ → ℕ → List ℕ
    filled_from b i at more = fill_entries s l more (v + 1) (put_entry L l v b i (value_of (tag_at s at))) (next_of (tag_at s at) + 1)

    entry_one : (at : ℕ) → One (entry_shape s at) (λ more. fill_entries s l (suc more) v L at) (entry_once s l v at L)
    unfolding entry_shape fill_entries entry_once offset_once tag_once
    entry_one at =
        after_one _ _ (λ b n more. filled_from b (value_of (offset_at s n)) (next_of (offset_at s n) + 1) more)
        (λ b n. after_one _ _ (filled_from b) (λ i m. put_one b i (tag_at s m)) (offset_at s n))
        (boxed_at s at)

  -- ---- all of them

  more_all : (more v : ℕ) (L : List ℕ) (x : Next) (F : ℕ → List ℕ)
      → ((n : ℕ) (M : List ℕ) → All (label_shape s more n) (fill_entries s l more (v + 1) M n) (entries_once s l more (v + 1) n M))
      → (e : Entered) → One v L x F e
      → All (over x (more_entries s (label_shape s more) more)) (F more) (more_once s (entries_once s l more (v + 1)) more e)
  unfolding byte_is fill_entries
  more_all more v L x F rest (entered (Err p) M) h = rw h refl
  more_all zero v L x F rest (entered (Ok n) M) (h, f) = rw h (refl, sym (f 0))
  more_all (suc more) v L x F rest (entered (Ok n) M) (h, f) = rw (h, f (suc more)) (by (eqb (byte_at s n) 32))
    where
      by : (b : Bool) → All (over (when b (λ _. Ok (n + 1)) (λ _. Err n)) (label_shape s (suc more))) (fill_entries s l (suc more) (v + 1) M (n + 1))
          (when b (λ _. entries_once s l (suc more) (v + 1) (n + 1) M) (λ _. entered (Err n) M))
      by true = rest (n + 1) M
      by false = refl

  entries_all : (more v at : ℕ) (L : List ℕ) → All (label_shape s more at) (fill_entries s l more v L at) (entries_once s l more v at L)
  unfolding label_shape fill_entries entries_once
  entries_all zero v at L = (refl, refl)
  entries_all (suc more) v at L =
      more_all more v L (entry_shape s at) (λ m. fill_entries s l (suc m) v L at) (λ n M. entries_all more (v + 1) n M) (entry_once s l v at L) (entry_one v L at)

-- ---- one law for each way through the code: an entry, after which `more` less one are still to come

pub no_entries : (s : List ℕ) (l v at more : ℕ) (L : List ℕ) → more ≡ 0 → entered (Ok at) L ≡ entries_once s l more v at L
unfolding entries_once
no_entries s l v at more L e = rw e

module _ (s : List ℕ) (l v at more : ℕ) (L : List ℕ) (p : 0 < more) {x : Next} {M : List ℕ} (e : entered x M ≡ entry_once s l v at L) where
  one_read : {y : Next} → x ≡ y → more_once s (entries_once s l (more - 1) (v + 1)) (more - 1) (entered y M) ≡ entries_once s l more v at L
  unfolding entries_once
  one_read {y} h = by more p
    where
      by : (m : ℕ) → 0 < m → more_once s (entries_once s l (m - 1) (v + 1)) (m - 1) (entered y M) ≡ entries_once s l m v at L
      by zero z = absurd (omega arith)
      by (suc m) z =
          subst (λ (n : ℕ). more_once s (entries_once s l n (v + 1)) n (entered y M) ≡ entries_once s l (suc m) v at L)
          (sym (sub-one (suc m)))
          (ap (more_once s (entries_once s l m (v + 1)) m) (ap (λ (n : Next). entered n M) (sym h) ∙ e))

  pub entry_not : {q : ℕ} → x ≡ Err q → entered (Err q) M ≡ entries_once s l more v at L
  entry_not h = one_read h

  module _ {n : ℕ} (h : x ≡ Ok n) where
    pub entry_last : more - 1 ≡ 0 → entered (Ok n) M ≡ entries_once s l more v at L
    entry_last z = rw z at (one_read h)

    module _ (z : more - 1 ≡ 0 → ⊥) where
      another : when (eqb (byte_at s n) 32) (λ _. entries_once s l (more - 1) (v + 1) (n + 1) M) (λ _. entered (Err n) M) ≡ entries_once s l more v at L
      another = by (more - 1) z ∙ one_read h
        where
          by : (m : ℕ) → (m ≡ 0 → ⊥) → when (eqb (byte_at s n) 32) (λ _. entries_once s l m (v + 1) (n + 1) M) (λ _. entered (Err n) M) ≡ more_once s (entries_once s l m (v + 1)) m (entered (Ok n) M)
          by zero k = absurd (k refl)
          by (suc m) k = refl

      pub entry_bad : (byte_at s n ≡ 32 → ⊥) → entered (Err n) M ≡ entries_once s l more v at L
      entry_bad k = rw (ne_eqb (byte_at s n) 32) at another

      pub entry_on : byte_at s n ≡ 32 → entries_once s l (more - 1) (v + 1) (n + 1) M ≡ entries_once s l more v at L
      entry_on k = rw (eq-eqb (byte_at s n) 32) at another

-- ---- the line, whole

module _ (s : List ℕ) (at : ℕ) (c : Count) (t : Tables) (k : ℕ) (e : key_of k ≡ K.Label) where
  pub lines_full : 512 ≤ c.lines → Late s k at c t
  unfolding fill_line
  lines_full h n q b = rw (e, le-ltb c.lines 512) tt

  pub labels_full : 64 ≤ c.labels → Late s k at c t
  unfolding fill_line
  labels_full h n q b = rw e (by (ltb c.lines 512))
    where
      by : (room : Bool) → Refuses (when room (λ _. fill_label s at c t) (λ _. filled false c t))
      by true = subst Refuses (sym (label_full s at c t h)) tt
      by false = tt

  module _ {x : Next} {M : List ℕ} (q : entered x M ≡ entries_once s c.labels c.vars 0 at (set t.labels (c.labels * 97) (c.lines + 1))) where
    told_as : (y : Next) → x ≡ y
        → All (label_shape s c.vars at) (fill_entries s c.labels c.vars 0 (set t.labels (c.labels * 97) (c.lines + 1)) at) (entered y M)
    told_as y h =
        subst (All (label_shape s c.vars at) (fill_entries s c.labels c.vars 0 (set t.labels (c.labels * 97) (c.lines + 1)) at))
        (sym q ∙ ap (λ (z : Next). entered z M) h) (entries_all s c.labels c.vars 0 at _)

    pub label_bad : {p : ℕ} → x ≡ Err p → (u : Tables) (m : ℕ) (d : Count) → settled (lined 2 m d u) ≡ settled (shaped s k at c t (line_shape s c.vars (key_of k) at))
    unfolding line_shape
    label_bad {p} h u m d = late_bad s k at c t u {x = Err p} (rw e (sym (told_as (Err p) h))) m d refl

    module _ {n : ℕ} (h : x ≡ Ok n) where
      shape_ends : line_shape s c.vars (key_of k) at ≡ Ok n
      unfolding line_shape
      shape_ends = rw e ((told_as (Ok n) h).0)

      pub label_no_feed : (byte_at s n ≡ 10 → ⊥) → (u : Tables) (m : ℕ) (d : Count) → settled (lined 2 m d u) ≡ settled (shaped s k at c t (line_shape s c.vars (key_of k) at))
      label_no_feed z u m d = late_no_feed s k at c t u {x = Ok n} (sym shape_ends) refl m d z

      module _ (few : c.lines < 512) (room : c.labels < 64) {B : List ℕ} (p : B ≡ put_line t.body c.lines 9 c.labels 0 0 0) where
        filled_whole : fill_line s (key_of k) at c t ≡ filled true (one_label (one_line c c.nodes)) (with_body (with_labels t M) B)
        unfolding fill_line plain_line
        filled_whole = rw (e, lt-ltb c.lines 512, label_room s at c t room, (told_as (Ok n) h).1, p) refl

        pub label_whole : byte_at s n ≡ 10 → {d : Count} → d ≡ in_part (one_label (one_line c c.nodes)) (part_of k)
            → settled (lined 0 (n + 1) d (with_body (with_labels t M) B)) ≡ settled (shaped s k at c t (line_shape s c.vars (key_of k) at))
        label_whole z g = rw (g, shape_ends, eq-eqb (byte_at s n) 10 z, filled_whole) refl
