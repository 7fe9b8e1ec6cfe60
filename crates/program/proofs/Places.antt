-- What is written past a table, and a list whose places are written one after another. Assumes nothing.
use native.Mathlib.Omega.{arith as lin}
use mathlib.Core.Path.{◌≡◌, refl}
use mathlib.Core.List.{List}
use Prim.Native.Nat.{ℕ, zero, suc, ◌+◌, ◌-◌, ◌*◌, ◌<◌, ◌≤◌}
use lib.ListN.{length, set, replicate, get_or-eq_default}
use lib.Seq.{set_out}
use Rattle.rules.specs.Text.Layout.{cell, row_width, var_width, label_width, line_width}
use Rattle.rules.specs.Text.Fill.{put_var, put_line, put_entry, put_field}
use Rattle.rules.specs.View.{tab}
use Rattle.program.specs.Lines.{stored_at}

-- ---- a place past the table

pub line_out : (B : List ℕ) (i : ℕ) → length B ≤ i * line_width → stored_at B i ≡ record { kind = 0; label = 0; variable = 0; word = 0; node = 0 }
unfolding stored_at
line_out B i h = rw (past 0, past 1, past 2, past 3, past 4)
  where
    past : (k : ℕ) → cell B line_width i k ≡ 0
    past k = get_or-eq_default B 0 (omega (lin, h))

pub var_past : (D : List ℕ) (v a b c : ℕ) → length D ≤ v * var_width → put_var D v a b c ≡ D
var_past D v a b c h = rw (set_out D (v * 3) a h, set_out D (v * 3 + 1) b (omega (lin, h)), set_out D (v * 3 + 2) c (omega (lin, h)))

pub body_past : (B : List ℕ) (i a b c d e : ℕ) → length B ≤ i * line_width → put_line B i a b c d e ≡ B
unfolding put_line
body_past B i a b c d e h =
    rw (set_out B (i * 5) a h, set_out B (i * 5 + 1) b (omega (lin, h)), set_out B (i * 5 + 2) c (omega (lin, h)), set_out B (i * 5 + 3) d (omega (lin, h)), set_out B (i * 5 + 4) e (omega (lin, h)))

pub entries_past : (L : List ℕ) (l v a b c : ℕ) → length L ≤ l * label_width + v * 3 → put_entry L l v a b c ≡ L
entries_past L l v a b c h =
    rw (set_out L (l * 97 + v * 3 + 1) a (omega (lin, h)), set_out L (l * 97 + v * 3 + 2) b (omega (lin, h)), set_out L (l * 97 + v * 3 + 3) c (omega (lin, h)))

pub fields_past : (R : List ℕ) (r k o q : ℕ) → length R ≤ r * row_width → put_field R r k o q ≡ R
unfolding put_field
fields_past R r k o q h =
    rw (set_out R (r * 274 + 18 + k * 16 + o) q (omega (lin, h)), set_out R (r * 274 + 2 + k) (o + 1) (omega (lin, h)), set_out R (r * 274 + 1) (k + 1) (omega (lin, h)))

-- ---- a list entered from its first place on

-- m more of them, from v on
unfoldable pub entered : {A : Type 0} → ℕ → ℕ → (ℕ → A) → List A → List A
entered zero v f xs = xs
entered (suc m) v f xs = entered m (v + 1) f (set xs v (f v))

module _ {A : Type 0} (n v : ℕ) (f : ℕ → A) (xs : List A) where
  pub entered_step : (x : A) → v < n → x ≡ f v → entered (n - (v + 1)) (v + 1) f (set xs v x) ≡ entered (n - v) v f xs
  unfolding entered
  entered_step x h q =
      let s : n - v ≡ suc (n - (v + 1)) = omega lin in
      rw (s, q)

  pub entered_end : n ≤ v → entered (n - v) v f xs ≡ xs
  unfolding entered
  entered_end h = let s : n - v ≡ 0 = omega lin in rw s

-- whatever stood there: of 32 entries, and of their 96 numbers
pub entered_all : {A : Type 0} (f : ℕ → A) (b : A) → entered 32 0 f (replicate 32 b) ≡ tab 32 f
unfolding entered tab
entered_all f b = refl

pub numbers_all : (f : ℕ → ℕ) → entered 96 0 f (replicate 96 0) ≡ tab 96 f
unfolding entered tab
numbers_all f = refl
