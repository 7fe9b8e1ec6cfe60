-- A cell that is written keeps each block's row, tag and length, and a sound store sound. Assumes nothing.
use Rattle.std.proofs.Math.ListN.{length-set}
use Rattle.std.proofs.Common.{get_or-set_same, get_or-set_other}
use Rattle.std.proofs.Math.Decide.{ℕ_discrete}
use Rattle.std.specs.Prelude.{◌<◌, ◌∷◌, ◌≡◌}
use Rattle.rules.specs.Machine.{Given}
use Rattle.rules.specs.Prelude.{ℕ, zero, suc, List, [], refl, ◌∙◌, length, get_or, set, Entry, Kind, Cint, Value, Datum, Int, Imm, Place, None, Some}
use Rattle.rules.specs.Program.{Rows, loosest, field_of}
use Rattle.rules.specs.Machine.{Store, Block, block_at, row_in, tag_in, cells_in, cell_at, set_cell}
use Rattle.rules.proofs.Sound.Facts.{Sound, Fits}

-- a part of an element that a write to the list keeps
set_keeps : {A B : Type 0} (f : A → B) (l : List A) (i j : ℕ) (x z : A) → f x ≡ f (get_or l i z) → f (get_or (set l i x) j z) ≡ f (get_or l j z)
set_keeps f [] i j x z h = refl
set_keeps f (y ∷ l) zero zero x z h = h
set_keeps f (y ∷ l) zero (suc j) x z h = refl
set_keeps f (y ∷ l) (suc i) zero x z h = refl
set_keeps f (y ∷ l) (suc i) (suc j) x z h = set_keeps f l i j x z h

module _ (s : Store) (b o : ℕ) (d : Datum) where
  pub row_keeps : (c : ℕ) → row_in (set_cell s b o d) c ≡ row_in s c
  unfolding row_in set_cell
  row_keeps c = set_keeps (λ (x : Block). x.row) s b c _ _ refl

  pub tag_keeps : (c : ℕ) → tag_in (set_cell s b o d) c ≡ tag_in s c
  unfolding tag_in set_cell
  tag_keeps c = set_keeps (λ (x : Block). x.tag) s b c _ _ refl

  pub len_keeps : (c : ℕ) → cells_in (set_cell s b o d) c ≡ cells_in s c
  unfolding cells_in set_cell
  len_keeps c = set_keeps (λ (x : Block). length x.cells) s b c _ _ (length-set (block_at s b).cells o (Some d))

  pub count_keeps : length (set_cell s b o d) ≡ length s
  unfolding set_cell
  count_keeps = length-set s b _

  pub fits_keeps : (ρ : Rows) (k : Kind) (e : Entry) (g : Given) → Fits ρ s k e g → Fits ρ (set_cell s b o d) k e g
  fits_keeps ρ Cint e (Some (Int n)) p = p
  fits_keeps ρ (Value r) e (Some (Imm n)) p = p
  fits_keeps ρ (Value r) e (Some (Place c i)) p =
      record { loose = p.loose; there = rw count_keeps p.there; row = row_keeps c ∙ p.row; offset = p.offset; tag = rw (tag_keeps c) p.tag; inside = rw (len_keeps c) p.inside }
  fits_keeps ρ Cint e None p = elim p [ ]
  fits_keeps ρ Cint e (Some (Imm n)) p = elim p [ ]
  fits_keeps ρ Cint e (Some (Place c i)) p = elim p [ ]
  fits_keeps ρ (Value r) e None p = elim p [ ]
  fits_keeps ρ (Value r) e (Some (Int n)) p = elim p [ ]

  cell_here : b < length s → o < cells_in s b → cell_at (set_cell s b o d) b o ≡ Some d
  unfolding cell_at set_cell cells_in
  cell_here h k = rw (get_or-set_same s b) (get_or-set_same (block_at s b).cells o (Some d) None k)

  cell_off : (c i : ℕ) → (i ≡ o → ⊥) → cell_at (set_cell s b o d) c i ≡ cell_at s c i
  unfolding cell_at set_cell
  cell_off c i h = set_keeps (λ (x : Block). get_or x.cells i None) s b c _ _ (get_or-set_other (block_at s b).cells o i (Some d) None h)

  cell_far : (c i : ℕ) → (c ≡ b → ⊥) → cell_at (set_cell s b o d) c i ≡ cell_at s c i
  unfolding cell_at set_cell
  cell_far c i h = rw (get_or-set_other s b c)

  module _ (ρ : Rows) (W : Sound ρ s) (h : b < length s) (k : o < cells_in s b) (p : Fits ρ s (Value (field_of ρ (row_in s b) (tag_in s b) o)) loosest (Some d)) where
    cell_fits : (c i : ℕ) → Dec (c ≡ b) → Dec (i ≡ o) → c < length s → i < cells_in s c → Fits ρ s (Value (field_of ρ (row_in s c) (tag_in s c) i)) loosest (cell_at (set_cell s b o d) c i)
    cell_fits c i (yes u) (yes v) x y = rw (u, v, cell_here h k) p
    cell_fits c i (yes u) (no v) x y = rw (cell_off c i v) (W.cells c i x y)
    cell_fits c i (no u) q x y = rw (cell_far c i u) (W.cells c i x y)

    pub put_sound : Sound ρ (set_cell s b o d)
    put_sound =
        record {
          tags = λ c x. rw (tag_keeps c, row_keeps c) (W.tags c (rw count_keeps at x));
          lens = λ c x. rw (len_keeps c, tag_keeps c, row_keeps c) (W.lens c (rw count_keeps at x));
          cells = λ c i x y. rw (tag_keeps c, row_keeps c) (fits_keeps ρ (Value (field_of ρ (row_in s c) (tag_in s c) i)) loosest (cell_at (set_cell s b o d) c i) (cell_fits c i (ℕ_discrete c b) (ℕ_discrete i o) (rw count_keeps at x) (rw (len_keeps c) at y)));
        }
