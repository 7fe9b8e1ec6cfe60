-- What the parts of a viewed store are, as numbers of its tables; what is written past them; and what cleared tables mean. Assumes nothing.
use Rattle.std.specs.Prelude.{None}
use native.Mathlib.Omega.{arith as lin}
use native.Mathlib.Decide.{dec_lt}
use mathlib.Core.Path.{◌≡◌, refl, ap, ◌∙◌}
use mathlib.Core.List.{List, []}
use Prim.Native.Nat.{ℕ, ◌+◌, ◌-◌, ◌*◌, ◌<◌, ◌≤◌}
use lib.ListN.{length, get_or, replicate, get_or-eq_default}
use lib.Seq.{set_out}
use Rattle.rules.specs.declared.StoreTables.{StoreTables}
use Rattle.rules.specs.Limits.{limits}
use Rattle.rules.specs.Text.Layout.{cell}
use Rattle.rules.proofs.Laws.Lists.{tab_length, tab_in, up_to_le}
use Rattle.rules.specs.View.{tab, up_to}
use Rattle.rules.specs.Machine.{Block, Store, no_block, block_at, row_in, tag_in, cells_in, cell_at, ev_var}
use Rattle.rules.specs.Machine.Tables.{datum_code, head_width, block_width, block_from, store_of, vals_of}
use Rattle.rules.specs.Store.Fill.{no_store_tables, put_head}
use Rattle.table.proofs.Laws.{below, tab_out}
use Rattle.storage.specs.Heads.{head_put}

-- ---- what is absent has nothing in it, whatever the store is

module _ (s : Store) (b : ℕ) where
  block_out : length s ≤ b → block_at s b ≡ no_block
  block_out h = get_or-eq_default s no_block h

  pub row_out : length s ≤ b → row_in s b ≡ 0
  unfolding row_in
  row_out h = ap (λ (x : Block). x.row) (block_out h)

  pub tag_out : length s ≤ b → tag_in s b ≡ 0
  unfolding tag_in
  tag_out h = ap (λ (x : Block). x.tag) (block_out h)

  pub cells_out : length s ≤ b → cells_in s b ≡ 0
  unfolding cells_in
  cells_out h = ap (λ (x : Block). length x.cells) (block_out h)

  pub cell_out : (o : ℕ) → cells_in s b ≤ o → cell_at s b o ≡ None
  unfolding cells_in cell_at
  cell_out o h = get_or-eq_default (block_at s b).cells None h

  -- so a block with cells is there
  block_by : (o : ℕ) → Dec (b < length s) → o < cells_in s b → b < length s
  block_by o (yes h) k = h
  block_by o (no h) k = let g : length s ≤ b = omega (lin, h) in absurd (omega (lin, cells_out g))

  pub block_with : (o : ℕ) → o < cells_in s b → b < length s
  block_with o k = block_by o (dec_lt b (length s)) k

-- ---- what is there

module _ (Z H C : List ℕ) where
  pub block_count : length (store_of Z H C) ≡ up_to limits.blocks (get_or Z 1 0)
  unfolding store_of
  block_count = tab_length _ _

  pub blocks_small : length (store_of Z H C) ≤ 256
  blocks_small = rw block_count (up_to_le 256 _)

  module _ (b : ℕ) where
    pub block_in : b < length (store_of Z H C) → block_at (store_of Z H C) b ≡ block_from H C b
    unfolding store_of
    block_in h = tab_in _ (block_from H C) b _ (below block_count h)

    pub row_in_lem : b < length (store_of Z H C) → row_in (store_of Z H C) b ≡ cell H head_width b 0 - 1
    unfolding row_in block_from
    row_in_lem h = ap (λ (x : Block). x.row) (block_in h)

    pub tag_in_lem : b < length (store_of Z H C) → tag_in (store_of Z H C) b ≡ cell H head_width b 1
    unfolding tag_in block_from
    tag_in_lem h = ap (λ (x : Block). x.tag) (block_in h)

    pub cells_in_lem : b < length (store_of Z H C) → cells_in (store_of Z H C) b ≡ up_to block_width (cell H head_width b 2)
    unfolding cells_in block_from
    cells_in_lem h = ap (λ (x : Block). length x.cells) (block_in h) ∙ tab_length _ _

    small_by : Dec (b < length (store_of Z H C)) → cells_in (store_of Z H C) b ≤ 17
    small_by (yes h) = rw (cells_in_lem h) (up_to_le 17 _)
    small_by (no h) = let g : length (store_of Z H C) ≤ b = omega (lin, h) in rw (cells_out (store_of Z H C) b g) (omega lin)

    pub cells_small : cells_in (store_of Z H C) b ≤ 17
    cells_small = small_by (dec_lt b (length (store_of Z H C)))

    pub cell_in : (o : ℕ) → o < cells_in (store_of Z H C) b → cell_at (store_of Z H C) b o ≡ datum_code (cell C block_width b o)
    unfolding cell_at block_from
    cell_in o h =
        let q : b < length (store_of Z H C) = block_with (store_of Z H C) b o h in
        ap (λ (x : Block). get_or x.cells o None) (block_in q) ∙ tab_in _ (λ i. datum_code (cell C block_width b i)) o None (below (cells_in_lem q) h)

module _ (n : ℕ) (W : List ℕ) (v : ℕ) where
  pub val_in : v < n → ev_var (vals_of n W) v ≡ datum_code (get_or W v 0)
  unfolding ev_var vals_of
  val_in h = tab_in n _ v None h

  pub val_out : n ≤ v → ev_var (vals_of n W) v ≡ None
  unfolding ev_var vals_of
  val_out h = tab_out n _ v None h

-- ---- writing

pub head_put_lem : (H : List ℕ) (k r t n : ℕ) → put_head H k r t n ≡ head_put H k (r + 1) t n
unfolding put_head head_put
head_put_lem H k r t n = refl

pub head_past : (H : List ℕ) (b r t n : ℕ) → length H ≤ b * head_width → head_put H b r t n ≡ H
unfolding head_put
head_past H b r t n h = rw (set_out H (b * 3) r h, set_out H (b * 3 + 1) t (omega (lin, h)), set_out H (b * 3 + 2) n (omega (lin, h)))

-- ---- cleared tables

pub nothing_is : no_store_tables ≡ record { size = replicate 2 0; heads = replicate 768 0; cells = replicate 4352 0; vals = replicate 32 0 }
unfolding no_store_tables
nothing_is = refl

-- tables that are the same, one by one
pub tables_same : {Z Z' H H' C C' W W' : List ℕ} → Z ≡ Z' → H ≡ H' → C ≡ C' → W ≡ W' → ◌≡◌ {A = StoreTables} (record { size = Z; heads = H; cells = C; vals = W }) (record { size = Z'; heads = H'; cells = C'; vals = W' })
tables_same z h c w = λ i. record { size = z i; heads = h i; cells = c i; vals = w i }

pub cleared : (H C : List ℕ) → store_of (replicate 2 0) H C ≡ []
unfolding store_of up_to tab
cleared H C = refl
