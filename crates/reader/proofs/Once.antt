-- Lines with expressions: read at once, or refused by their shape or a limit; and what of a line counts for those after it. Assumes nothing.
use native.Mathlib.Omega.{arith}
use borrow.Author.Tests.{eq-eqb, ne_eqb}
use Rattle.std.specs.Prelude.{◌+◌, ◌<◌, ◌≡◌, Some, None, Ok, Err}
use Rattle.rules.specs.Prelude.{ℕ, Bool, true, false, List, refl, sym, ap, subst, ◌∙◌, eqb, ltb, length}
use Rattle.rules.specs.declared.Count.{Count}
use Rattle.rules.specs.Text.Words.{Next, Reading}
use Rattle.rules.specs.Text.Fill.{Filling}
use Rattle.rules.proofs.Laws.Tests.{by_when}
use Rattle.rules.specs.Text.{TextOut, Lined, lined, limited, shaped, keyed, line_at, and_line}
use Rattle.rules.specs.Text.Words.{byte_at}
use Rattle.rules.specs.Text.Shape.{key_at, key_of, in_order, part_of, line_shape}
use Rattle.rules.specs.declared.Tables.{Tables}
use Rattle.rules.specs.Text.Layout.{with_nodes, with_body, one_line, in_part, nothing, zeros}
use Rattle.rules.specs.Text.Fill.{Filled, filled, fill_line}
use Rattle.text.proofs.Laws.{inside}
use Rattle.once.specs.Once.{Onced, once, line_once, has_expr}
use Rattle.once.proofs.Keys.{none}
use Rattle.once.proofs.Right.{Refuses, Told, line_told, line_room}
use Rattle.reader.specs.Read.{Within, Late, given, handed, kept, settled}
use Rattle.reader.proofs.Laws.{FitsLined}

-- ---- a line for those after it

module _ (a n : ℕ) (c : Count) (t : Tables) where
  settled_on : a ≡ 0 → settled (lined a n c t) ≡ lined a n c t
  unfolding settled
  settled_on e = rw (eq-eqb a 0)

  settled_off : (a ≡ 0 → ⊥) → settled (lined a n c t) ≡ lined a 0 nothing zeros
  unfolding settled
  settled_off e = rw (ne_eqb a 0)

  pub fits_on : a ≡ 0 → FitsLined (settled (lined a n c t)) → Within c
  fits_on e h = subst FitsLined (settled_on e) h

-- a refusal is its number alone
pub same_number : (a n m : ℕ) (c d : Count) (t u : Tables) → (a ≡ 0 → ⊥) → settled (lined a n c t) ≡ settled (lined a m d u)
same_number a n m c d t u z = settled_off a n c t z ∙ sym (settled_off a m d u z)

-- an answer that is handed on is not 0: a line with the answer 0 is in a part
abbrev Parted : Lined → Type 0
Parted (lined a n c t) = a ≡ 0 → 0 < c.part

limited_parted : (k n : ℕ) (x : Filled) → Parted (limited k n x)
unfolding part_of
limited_parted k n (filled true d u) = λ _. by_when (λ (m : ℕ). 0 < m) (ltb k 3) _ _ (λ _. omega arith) (λ _. by_when (λ (m : ℕ). 0 < m) (ltb k 5) _ _ (λ _. omega arith) (λ _. omega arith))
limited_parted k n (filled false d u) = λ e. absurd (omega (arith, e))

module _ (s : List ℕ) (c : Count) (t : Tables) where
  shaped_parted : (k at : ℕ) (x : Next) → Parted (shaped s k at c t x)
  shaped_parted k at (Err p) = λ e. absurd (omega (arith, e))
  shaped_parted k at (Ok n) = by_when Parted (eqb (byte_at s n) 10) _ _ (λ _. limited_parted k (n + 1) (fill_line s (key_of k) at c t)) (λ _ e. absurd (omega (arith, e)))

  keyed_parted : (start : ℕ) (r : Reading) → Parted (keyed s start c t r)
  keyed_parted start (Err p) = λ e. absurd (omega (arith, e))
  keyed_parted start (Ok (k, n)) = by_when Parted (in_order c.part k) _ _ (λ _. shaped_parted k n (line_shape s c.vars (key_of k) n)) (λ _ e. absurd (omega (arith, e)))

settled_parted : (x : Lined) → Parted x → Parted (settled x)
unfolding settled
settled_parted (lined a n c t) h =
    by_when Parted (eqb a 0) _ _ (λ _. h) (λ z e. no_number a e z)
  where
    no_number : (m : ℕ) → m ≡ 0 → eqb m 0 ≡ false → 0 < 0
    no_number m e z = none (sym (eq-eqb m 0 e) ∙ z)

pub refusal : (s : List ℕ) (at : ℕ) (c : Count) (t u : Tables) (a : ℕ) → settled (handed (Err a) u) ≡ settled (line_at s at c t) → a ≡ 0 → ⊥
unfolding line_at
refusal s at c t u a q e =
    let h : Parted (settled (lined a 0 nothing u)) = subst Parted (sym q) (settled_parted _ (keyed_parted s c t at (key_at s at))) in
    omega (arith, subst Parted (settled_on a 0 nothing u e) h e)

pub settled_fits : (x : Lined) → FitsLined x → FitsLined (settled x)
unfolding settled
settled_fits (lined a n c t) h =
    by_when FitsLined (eqb a 0) _ _ (λ _. h)
    (λ _. record { few_rows = omega arith; few_vars = omega arith; few_labels = omega arith; few_lines = omega arith; few_nodes = omega arith })

pub line_settled : (rest : ℕ → Count → Tables → TextOut) (line : ℕ) (x : Lined) → and_line rest line x ≡ and_line rest line (settled x)
unfolding settled
line_settled rest line (lined a n c t) = by (eqb a 0) refl
  where
    by : (b : Bool) → eqb a 0 ≡ b → and_line rest line (lined a n c t) ≡ and_line rest line (settled (lined a n c t))
    by true e = rw e (rw e refl)
    by false e = rw e (rw e refl)

-- ---- read at once

module _ (s : List ℕ) (k at : ℕ) (c : Count) (t : Tables) (e : has_expr (key_of k) ≡ true) {r : Filling} {M B : List ℕ}
    (q : once r M B ≡ line_once s k at c.lines c.nodes t.nodes t.body) where
  told_as : (x : Filling) → r ≡ x → Told s c t (once x M B) (line_shape s c.vars (key_of k) at) (fill_line s (key_of k) at c t)
  told_as x h =
      subst (λ (y : Onced). Told s c t y (line_shape s c.vars (key_of k) at) (fill_line s (key_of k) at c t))
      (sym q ∙ ap (λ (z : Filling). once z M B) h) (line_told s c t c.vars k at e)

  module _ {n f : ℕ} (h : r ≡ Some (n, f)) where
    pub once_room : c.lines < 512
    once_room = line_room s k at c.lines c.nodes t.nodes t.body M B n f (ap (λ (z : Filling). once z M B) (sym h) ∙ q)

    pub once_inside : n < length s
    once_inside = inside s n (omega (arith, (told_as _ h).1))

    pub once_line : {d : Count} → d ≡ in_part (one_line c f) (part_of k)
        → settled (lined 0 (n + 1) d (with_body (with_nodes t M) B)) ≡ settled (shaped s k at c t (line_shape s c.vars (key_of k) at))
    once_line g = let w = told_as _ h in rw (g, w.0, eq-eqb (byte_at s n) 10 w.1, w.2) refl

  pub once_late : r ≡ None → Late s k at c t
  once_late h = told_as None h

-- ---- past a limit

abbrev within_limits : Filled → Bool
within_limits (filled ok c t) = ok

pub passed : (k m n : ℕ) (d : Count) (u : Tables) (f : Filled) → Refuses f → settled (lined 3 m d u) ≡ settled (limited k n f)
passed k m n d u (filled false b v) z = same_number 3 m n d b u v (λ e. omega (arith, e))
passed k m n d u (filled true b v) z = elim z [ ]

pub kept_none : (f : Filled) → given None zeros ≡ kept f → Refuses f
kept_none (filled false b v) e = tt
kept_none (filled true b v) e = let y : true ≡ false = ap (λ (x : Filled). within_limits x) (sym e) in none y

-- ---- not read at once

module _ (s : List ℕ) (k at : ℕ) (c : Count) (t u : Tables) {x : Next} (q : x ≡ line_shape s c.vars (key_of k) at) where
  pub late_bad : {p : ℕ} (m : ℕ) (d : Count) → x ≡ Err p → settled (lined 2 m d u) ≡ settled (shaped s k at c t (line_shape s c.vars (key_of k) at))
  late_bad {p} m d h = rw (sym q ∙ h) (same_number 2 m p d c u t (λ e. omega (arith, e)))

  module _ {n : ℕ} (h : x ≡ Ok n) (m : ℕ) (d : Count) where
    pub late_no_feed : (byte_at s n ≡ 10 → ⊥) → settled (lined 2 m d u) ≡ settled (shaped s k at c t (line_shape s c.vars (key_of k) at))
    late_no_feed z = rw (sym q ∙ h, ne_eqb (byte_at s n) 10 z) (same_number 2 m n d c u t (λ e. omega (arith, e)))

    pub late_limit : byte_at s n ≡ 10 → Late s k at c t → settled (lined 3 m d u) ≡ settled (shaped s k at c t (line_shape s c.vars (key_of k) at))
    late_limit z l = rw (sym q ∙ h, eq-eqb (byte_at s n) 10 z) (passed k m (n + 1) d u (fill_line s (key_of k) at c t) (l n (sym q ∙ h) z))
