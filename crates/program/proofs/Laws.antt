-- What the parts of a viewed program are, as numbers of its tables; and what cleared tables mean. Assumes nothing.
use native.Mathlib.Omega.{arith as lin}
use native.Mathlib.Decide.{dec_lt}
use mathlib.Core.Path.{◌≡◌, refl, sym, ap, ◌∙◌}
use mathlib.Core.List.{List, [], ◌∷◌}
use Prim.Native.Nat.{ℕ, ◌+◌, ◌-◌, ◌*◌, ◌<◌, ◌≤◌}
use lib.ListN.{length, get_or, drop, replicate, get_or-eq_default}
use Rattle.rules.specs.declared.Kind.TheVariants.{Cint}
use Rattle.rules.specs.Limits.{limits}
use Rattle.rules.specs.Program.{Row, Var, Label, Rows, bad_s, no_entry, row_at, psi_of, prods_of, fields_of, field_of, kind_at, label_at}
use Rattle.rules.specs.Environments.{no_var, label_env}
use Rattle.rules.specs.declared.Tables.{Tables}
use Rattle.rules.specs.Text.Layout.{cell, row_width, var_width, label_width, zeros}
use Rattle.rules.specs.View.{tab, up_to, psi_code, product_from, row_from, rows_from, kind_code, var_from, vars_from, entry_from, label_from, labels_from, body_from, stmt_from, stmt_of, way_of, program}
use Rattle.rules.proofs.Laws.Lists.{tab_length, tab_in, up_to_le}
use Rattle.table.proofs.Laws.{below, tab_drop, tab_out}
use Rattle.program.specs.Labels.{env_from}
use Rattle.program.specs.Lines.{stored_at}

-- ---- how many

module _ (Z : List ℕ) where
  pub row_count : (R : List ℕ) → length (rows_from Z R) ≡ up_to limits.rows (get_or Z 1 0)
  unfolding rows_from
  row_count R = tab_length _ _

  pub var_count : (D : List ℕ) → length (vars_from Z D) ≡ up_to limits.variables (get_or Z 2 0)
  unfolding vars_from
  var_count D = tab_length _ _

  pub label_count : (L : List ℕ) → length (labels_from Z L) ≡ up_to limits.labels (get_or Z 3 0)
  unfolding labels_from
  label_count L = tab_length _ _

  pub line_count : (N B : List ℕ) → length (body_from Z N B) ≡ up_to limits.lines (get_or Z 4 0)
  unfolding body_from
  line_count N B = tab_length _ _

  pub rows_small : (R : List ℕ) → length (rows_from Z R) ≤ 64
  rows_small R = rw (row_count R) (up_to_le 64 _)

  pub vars_small : (D : List ℕ) → length (vars_from Z D) ≤ 32
  vars_small D = rw (var_count D) (up_to_le 32 _)

  pub labels_small : (L : List ℕ) → length (labels_from Z L) ≤ 64
  labels_small L = rw (label_count L) (up_to_le 64 _)

  pub lines_small : (N B : List ℕ) → length (body_from Z N B) ≤ 512
  lines_small N B = rw (line_count N B) (up_to_le 512 _)

-- ---- rows

pub prods_out : (ρ : Rows) (r : ℕ) → length ρ ≤ r → prods_of ρ r ≡ 0
unfolding prods_of row_at
prods_out ρ r h = ap (λ (x : Row). length x.products) (get_or-eq_default ρ _ h)

pub fields_out : (ρ : Rows) (r t : ℕ) → prods_of ρ r ≤ t → fields_of ρ r t ≡ 0
unfolding fields_of prods_of
fields_out ρ r t h = ap length (get_or-eq_default (row_at ρ r).products [] h)

pub field_out : (ρ : Rows) (r t o : ℕ) → fields_of ρ r t ≤ o → field_of ρ r t o ≡ 0
unfolding fields_of field_of
field_out ρ r t o h = get_or-eq_default (get_or (row_at ρ r).products t []) 0 h

-- so a row with products is there, and a product with fields
row_by : (ρ : Rows) (r t : ℕ) → Dec (r < length ρ) → t < prods_of ρ r → r < length ρ
row_by ρ r t (yes h) k = h
row_by ρ r t (no h) k = let g : length ρ ≤ r = omega (lin, h) in absurd (omega (lin, prods_out ρ r g))

pub row_with : (ρ : Rows) (r t : ℕ) → t < prods_of ρ r → r < length ρ
row_with ρ r t k = row_by ρ r t (dec_lt r (length ρ)) k

product_by : (ρ : Rows) (r t o : ℕ) → Dec (t < prods_of ρ r) → o < fields_of ρ r t → t < prods_of ρ r
product_by ρ r t o (yes h) k = h
product_by ρ r t o (no h) k = let g : prods_of ρ r ≤ t = omega (lin, h) in absurd (omega (lin, fields_out ρ r t g))

pub product_with : (ρ : Rows) (r t o : ℕ) → o < fields_of ρ r t → t < prods_of ρ r
product_with ρ r t o k = product_by ρ r t o (dec_lt t (prods_of ρ r)) k

module _ (Z R : List ℕ) (r : ℕ) where
  pub row_in_lem : r < length (rows_from Z R) → row_at (rows_from Z R) r ≡ row_from R r
  unfolding row_at rows_from
  row_in_lem h = tab_in _ (row_from R) r _ (below (row_count Z R) h)

  pub psi_in : r < length (rows_from Z R) → psi_of (rows_from Z R) r ≡ psi_code (cell R row_width r 0)
  unfolding psi_of row_from
  psi_in h = ap (λ (x : Row). x.psi) (row_in_lem h)

  pub products_in : r < length (rows_from Z R) → (row_at (rows_from Z R) r).products ≡ tab (up_to limits.products (cell R row_width r 1)) (product_from R r)
  unfolding row_from
  products_in h = ap (λ (x : Row). x.products) (row_in_lem h)

  pub prods_in : r < length (rows_from Z R) → prods_of (rows_from Z R) r ≡ up_to limits.products (cell R row_width r 1)
  unfolding prods_of
  prods_in h = ap length (products_in h) ∙ tab_length _ (product_from R r)

  small_by : Dec (r < length (rows_from Z R)) → prods_of (rows_from Z R) r ≤ 16
  small_by (yes h) = rw (prods_in h) (up_to_le 16 _)
  small_by (no h) = let g : length (rows_from Z R) ≤ r = omega (lin, h) in rw (prods_out (rows_from Z R) r g) (omega lin)

  pub prods_small : prods_of (rows_from Z R) r ≤ 16
  prods_small = small_by (dec_lt r (length (rows_from Z R)))

  -- no row past the limit has products
  pub prods_beyond : limits.rows ≤ r → prods_of (rows_from Z R) r ≡ 0
  prods_beyond h = prods_out (rows_from Z R) r (omega (lin, h, rows_small Z R))

  module _ (t : ℕ) where
    pub product_in : t < prods_of (rows_from Z R) r → get_or (row_at (rows_from Z R) r).products t [] ≡ product_from R r t
    product_in h =
        let q : r < length (rows_from Z R) = row_with (rows_from Z R) r t h in
        ap (λ (l : List (List ℕ)). get_or l t []) (products_in q) ∙ tab_in _ (product_from R r) t [] (below (prods_in q) h)

    pub fields_in : t < prods_of (rows_from Z R) r → fields_of (rows_from Z R) r t ≡ up_to limits.width (cell R row_width r (2 + t))
    unfolding fields_of product_from
    fields_in h = ap length (product_in h) ∙ tab_length _ _

    fields_by : Dec (t < prods_of (rows_from Z R) r) → fields_of (rows_from Z R) r t ≤ 16
    fields_by (yes h) = rw (fields_in h) (up_to_le 16 _)
    fields_by (no h) = let g : prods_of (rows_from Z R) r ≤ t = omega (lin, h) in rw (fields_out (rows_from Z R) r t g) (omega lin)

    pub fields_small : fields_of (rows_from Z R) r t ≤ 16
    fields_small = fields_by (dec_lt t (prods_of (rows_from Z R) r))

    pub fields_beyond : limits.rows ≤ r → fields_of (rows_from Z R) r t ≡ 0
    fields_beyond h = let z = prods_beyond h in fields_out (rows_from Z R) r t (omega (lin, z))

    pub field_in : (o : ℕ) → o < fields_of (rows_from Z R) r t → field_of (rows_from Z R) r t o ≡ cell R row_width r (18 + t * 16 + o)
    unfolding field_of product_from
    field_in o h =
        let q : t < prods_of (rows_from Z R) r = product_with (rows_from Z R) r t o h in
        ap (λ (l : List ℕ). get_or l o 0) (product_in q) ∙ tab_in _ (λ i. cell R row_width r (18 + t * 16 + i)) o 0 (below (fields_in q) h)

    pub field_small : (o : ℕ) → o < fields_of (rows_from Z R) r t → (t < 16) × (o < 16)
    field_small o h = (omega (lin, product_with (rows_from Z R) r t o h, prods_small), omega (lin, h, fields_small))

-- ---- variables

module _ (Z D : List ℕ) (v : ℕ) where
  pub var_in : v < length (vars_from Z D) → get_or (vars_from Z D) v no_var ≡ var_from D v
  unfolding vars_from
  var_in h = tab_in _ (var_from D) v _ (below (var_count Z D) h)

  pub var_out : length (vars_from Z D) ≤ v → get_or (vars_from Z D) v no_var ≡ no_var
  var_out h = get_or-eq_default (vars_from Z D) no_var h

  pub kind_in : v < length (vars_from Z D) → kind_at (vars_from Z D) v ≡ kind_code (cell D var_width v 0)
  unfolding kind_at var_from
  kind_in h = ap (λ (x : Var). x.kind) (var_in h)

  pub kind_out : length (vars_from Z D) ≤ v → kind_at (vars_from Z D) v ≡ Cint
  unfolding kind_at
  kind_out h = ap (λ (x : Var). x.kind) (var_out h)

-- ---- labels

module _ (Z L : List ℕ) (l : ℕ) where
  pub label_in : l < length (labels_from Z L) → label_at (labels_from Z L) l ≡ label_from L l
  unfolding label_at labels_from
  label_in h = tab_in _ (label_from L) l _ (below (label_count Z L) h)

  pub label_out : length (labels_from Z L) ≤ l → label_at (labels_from Z L) l ≡ record { line = 0; entries = [] }
  unfolding label_at
  label_out h = get_or-eq_default (labels_from Z L) _ h

  pub label_line_in : l < length (labels_from Z L) → (label_at (labels_from Z L) l).line ≡ cell L label_width l 0 - 1
  unfolding label_from
  label_line_in h = ap (λ (x : Label). x.line) (label_in h)

  entries_in : l < length (labels_from Z L) → (label_at (labels_from Z L) l).entries ≡ tab 32 (entry_from L l)
  unfolding label_from
  entries_in h = ap (λ (x : Label). x.entries) (label_in h)

  pub entry_in_lem : (v : ℕ) → l < length (labels_from Z L) → v < 32 → get_or (label_at (labels_from Z L) l).entries v no_entry ≡ entry_from L l v
  entry_in_lem v h k = rw (entries_in h) (tab_in 32 (entry_from L l) v no_entry k)

  pub entry_past : (v : ℕ) → l < length (labels_from Z L) → 32 ≤ v → get_or (label_at (labels_from Z L) l).entries v no_entry ≡ no_entry
  entry_past v h k = rw (entries_in h) (tab_out 32 (entry_from L l) v no_entry k)

  pub entry_out : (v : ℕ) → length (labels_from Z L) ≤ l → get_or (label_at (labels_from Z L) l).entries v no_entry ≡ no_entry
  entry_out v h = rw (label_out h)

  -- what stands in the place of a label that is there is its environment
  pub env_in : (n : ℕ) → l < length (labels_from Z L) → env_from L l n ≡ record { entries = (label_at (labels_from Z L) l).entries; count = n }
  unfolding env_from
  env_in n h = ap (λ (x : Label). record { entries = x.entries; count = n }) (sym (label_in h))

pub label_env_lem : (t : Tables) (l : ℕ) → l < length (program t).labels → env_from t.labels l (length (program t).vars) ≡ label_env (program t) l
unfolding program label_env
label_env_lem t l h = env_in t.size t.labels l (length (vars_from t.size t.vars)) h

-- ---- nodes: a tree with d levels left

-- ---- lines

module _ (Z N B : List ℕ) (i : ℕ) where
  pub line_in_lem : i < length (body_from Z N B) → get_or (body_from Z N B) i bad_s ≡ stmt_from N B i
  unfolding body_from
  line_in_lem h = tab_in _ (stmt_from N B) i bad_s (below (line_count Z N B) h)

  pub line_drop : i < length (body_from Z N B) → drop i (body_from Z N B) ≡ stmt_from N B i ∷ drop (i + 1) (body_from Z N B)
  unfolding body_from
  line_drop h = tab_drop _ (stmt_from N B) i bad_s (below (line_count Z N B) h)

-- the numbers are those that the line's statement is made of
pub line_view : (N B : List ℕ) (i : ℕ) →
    stmt_from N B i ≡ stmt_of N (way_of (stored_at B i).kind) (stored_at B i).label (stored_at B i).variable (stored_at B i).word (stored_at B i).node
unfolding stored_at stmt_from
line_view N B i = refl

-- ---- cleared tables

pub zeros_are : zeros ≡ record { size = replicate 6 0; nodes = replicate 4096 0; rows = replicate 17536 0; vars = replicate 96 0; labels = replicate 6208 0; body = replicate 2560 0 }
unfolding zeros
zeros_are = refl

pub cleared : program zeros ≡ record { ret = Cint; rows = []; vars = []; labels = []; body = [] }
unfolding program zeros rows_from vars_from labels_from body_from up_to kind_code tab
cleared = refl
