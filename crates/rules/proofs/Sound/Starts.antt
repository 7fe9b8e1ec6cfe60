-- A store text that passes its check gives a machine that fits the start of its program. Assumes nothing.
use Rattle.std.proofs.Math.Dec.{T}
use Rattle.std.proofs.Common.{lt-ltb}
use Rattle.std.proofs.Math.ListN.{length-set, length-replicate}
use Rattle.std.proofs.Math.Seq.{get_or-set_same, get_or-set_other}
use native.Mathlib.Omega.{arith as lin}
use Rattle.std.specs.Prelude.{◌+◌, ◌*◌, ◌<◌, ◌≤◌, ◌∷◌, ◌++◌, ◌≡◌}
use Rattle.rules.specs.Machine.{Given}
use Rattle.rules.specs.Prelude.{ℕ, zero, suc, Bool, true, false, List, [], map, refl, ap, ◌∙◌, ltb, length, get_or, set, Num, Kind, Cint, Value, Answer, StoreCount, None, Some}
use Rattle.rules.specs.When.{when, need}
use Rattle.rules.specs.Numbers.{suits}
use Rattle.rules.specs.Limits.{limits}
use Rattle.rules.specs.Answers.{accepted}
use Rattle.rules.specs.Text.Words.{value_of}
use Rattle.rules.specs.declared.Tables.{Tables}
use Rattle.rules.specs.Program.{label_at, Prog, Var, Rows, psi_of, kind_at, loosest, no_entry}
use Rattle.rules.specs.View.{vars_from, labels_from, up_to, label_from, program, var_from}
use Rattle.rules.specs.Environments.{local_entry, start_entry, no_var, start_at, start_env}
use Rattle.rules.specs.Body.{local_ok, local_line}
use Rattle.rules.specs.Check.{check}
use Rattle.rules.specs.Machine.Tables.{code_of, datum_code, store_of, vals_of, block_width}
use Rattle.rules.specs.Machine.{Store}
use Rattle.rules.specs.Fits.{fits, block_number, arg_numbers}
use Rattle.rules.specs.Store.Text.{arg_word, Counted, counted_out, store_lines, most_store_lines, no_store}
use Rattle.rules.specs.declared.StoreTables.{StoreTables}
use Rattle.rules.specs.Store.Fill.{after_arg, no_store_tables, local_datum, fill_cells, fill_vals, fill_blocks, fill_store, next_line, store_names}
use Rattle.rules.specs.Store.{store_fits, judged, read_store, params_of, StoreOut}
use Rattle.rules.specs.Run.{start}
use Rattle.rules.proofs.Laws.Tests.{by_when}
use Rattle.rules.proofs.Laws.Stages.{Each, Zero, each_append, each_map, first_exactly, need_exactly, then_later}
use Rattle.rules.proofs.Laws.Lists.{tab_in, tab_all, tab_length}
use Rattle.rules.proofs.Laws.Small.{Small, SmallN, word_is_small, datum_again}
use Rattle.rules.proofs.Sound.Facts.{Fits, fits→, store_sound, each_at}
use Rattle.rules.proofs.Sound.Line.{Sized, Good}
use Rattle.rules.proofs.Sound.Run.{locals_zero}
use Rattle.rules.proofs.Sound.StepTables.{Roomy, vals_length, vars_most}

vals_room : length no_store_tables.vals ≡ limits.variables
unfolding no_store_tables
vals_room = length-replicate {A = ℕ} limits.variables 0

-- ---- what is written for the variables

module _ (s : List ℕ) where
  pub fill_length : (D : List Var) (v at : ℕ) (W : List ℕ) → length (fill_vals s D v at W) ≡ length W
  unfolding fill_vals
  fill_length [] v at W = refl
  fill_length (d ∷ D) v at W =
      by_when (λ (L : List ℕ). length L ≡ length W) d.is_local _ _
      (λ z. fill_length D (v + 1) at (set W v (code_of (local_datum d.kind d.number))) ∙ length-set W v (code_of (local_datum d.kind d.number)))
      (λ z. fill_length D (v + 1) (next_line s at) (set W v (value_of (arg_word s (after_arg at)))) ∙ length-set W v (value_of (arg_word s (after_arg at))))

  -- variables before v are left alone
  fill_before : (D : List Var) (v at : ℕ) (W : List ℕ) (i : ℕ) → i < v → get_or (fill_vals s D v at W) i 0 ≡ get_or W i 0
  unfolding fill_vals
  fill_before [] v at W i h = refl
  fill_before (d ∷ D) v at W i h =
      by_when (λ (L : List ℕ). get_or L i 0 ≡ get_or W i 0) d.is_local _ _
      (λ z. fill_before D (v + 1) at _ i (omega lin) ∙ get_or-set_other W v i _ 0 (λ q. omega (lin, q)))
      (λ z. fill_before D (v + 1) (next_line s at) _ i (omega lin) ∙ get_or-set_other W v i _ 0 (λ q. omega (lin, q)))

  -- a local has its own datum
  fill_local_lem : (D : List Var) (v at : ℕ) (W : List ℕ) → v + length D ≤ length W → (i : ℕ) → i < length D → (get_or D i no_var).is_local ≡ true
      → get_or (fill_vals s D v at W) (v + i) 0 ≡ code_of (local_datum (get_or D i no_var).kind (get_or D i no_var).number)
  unfolding fill_vals
  fill_local_lem [] v at W room i h l = absurd (omega lin)
  fill_local_lem (d ∷ D) v at W room zero h l =
      let z : v + 0 ≡ v = omega lin in
      rw (l, z) (fill_before D (v + 1) at _ v (omega lin) ∙ get_or-set_same W v _ 0 (omega lin))
  fill_local_lem (d ∷ D) v at W room (suc i) h l =
      let z : v + suc i ≡ v + 1 + i = omega lin in
      rw z
      (by_when (λ (L : List ℕ). get_or L (v + 1 + i) 0 ≡ code_of (local_datum (get_or D i no_var).kind (get_or D i no_var).number)) d.is_local _ _
      (λ q. fill_local_lem D (v + 1) at _ (rw (length-set W v _) (omega lin)) i (omega lin) l)
      (λ q. fill_local_lem D (v + 1) (next_line s at) _ (rw (length-set W v _) (omega lin)) i (omega lin) l))

  -- ---- the blocks

  cells_length : (k n o at : ℕ) (C : List ℕ) → length (fill_cells s k n o at C) ≡ length C
  unfolding fill_cells
  cells_length k zero o at C = refl
  cells_length k (suc n) o at C = cells_length k n (o + 1) _ _ ∙ length-set C (k * block_width + o) _

  module _ (D : List Var) (c : StoreCount) where
    blocks_length : (n k at : ℕ) (H C : List ℕ) → length (fill_blocks s D c n k at H C).cells ≡ length C
    unfolding fill_blocks
    blocks_length zero k at H C = refl
    blocks_length (suc n) k at H C = blocks_length n (k + 1) _ _ _ ∙ cells_length k _ 0 _ C

    -- the variables are written from some place of the text on
    blocks_vals : (Q : List ℕ → Type 0) → ((at : ℕ) → Q (fill_vals s D 0 at no_store_tables.vals)) → (n k at : ℕ) (H C : List ℕ) → Q (fill_blocks s D c n k at H C).vals
    unfolding fill_blocks
    blocks_vals Q h zero k at H C = h at
    blocks_vals Q h (suc n) k at H C = blocks_vals Q h n (k + 1) _ _ _

    pub fill_roomy : Roomy (start (fill_store s D c))
    unfolding fill_store no_store_tables
    fill_roomy =
        record {
          vals = blocks_vals (λ L. length L ≡ limits.variables) (λ at. fill_length D 0 at _ ∙ length-replicate {A = ℕ} limits.variables 0) c.blocks 0 _ _ _;
          cells = blocks_length c.blocks 0 _ _ _ ∙ length-replicate {A = ℕ} (limits.blocks * block_width) 0;
        }

    pub local_written : length D ≤ limits.variables → (i : ℕ) → i < length D → (get_or D i no_var).is_local ≡ true → get_or (fill_store s D c).vals i 0 ≡ code_of (local_datum (get_or D i no_var).kind (get_or D i no_var).number)
    unfolding fill_store
    local_written most i h l =
        blocks_vals (λ L. get_or L i 0 ≡ code_of (local_datum (get_or D i no_var).kind (get_or D i no_var).number))
        (λ at. let e : length no_store_tables.vals ≡ limits.variables = vals_room in let z : 0 + i ≡ i = omega lin in rw z at (fill_local_lem D 0 at no_store_tables.vals (omega lin) i h l))
        c.blocks 0 _ _ _

-- ---- the arguments

pub args_fit : (ρ : Rows) (s : Store) (D : List Var) (δ : List Given) → Each Zero (arg_numbers ρ s D δ) → length δ ≡ length D
    → (v : ℕ) → v < length D → (get_or D v no_var).is_local ≡ false → T (fits ρ s (get_or D v no_var).kind loosest (get_or δ v None))
unfolding arg_numbers
args_fit ρ s [] δ h e v k l = absurd (omega lin)
args_fit ρ s (d ∷ D) [] h e v k l = absurd (omega (lin, e))
args_fit ρ s (d ∷ D) (g ∷ δ) h e zero k l = ((need_exactly 27 (fits ρ s d.kind loosest g) 0 (omega lin)).0 (rw l at h).0).0
args_fit ρ s (d ∷ D) (g ∷ δ) h e (suc v) k l = args_fit ρ s D δ (go d.is_local h) (omega (lin, e)) v (omega lin) l
  where
    go : (c : Bool) → Each Zero (when c (λ _. arg_numbers ρ s D δ) (λ _. need 27 (fits ρ s d.kind loosest g) 0 ∷ arg_numbers ρ s D δ)) → Each Zero (arg_numbers ρ s D δ)
    go true h = h
    go false h = h.1

-- ---- the start

-- a local's datum fits its entry, where its N suits
local_fits : (ρ : Rows) (s : Store) (k : Kind) (n : Num) → Zero (local_ok ρ k n) → Fits ρ s k (local_entry k n) (Some (local_datum k n))
local_fits ρ s Cint n h = refl
local_fits ρ s (Value r) n h = record { loose = tt; still = refl; named = refl; suited = ((need_exactly 9 (suits (psi_of ρ r) n) 0 (omega lin)).0 h).0 }

local_small : (k : Kind) (n : Num) → SmallN n → Small (Some (local_datum k n))
local_small Cint n h = h
local_small (Value r) n h = h

numbers_small : (T : Tables) (v : ℕ) → SmallN (get_or (program T).vars v no_var).number
unfolding program vars_from var_from
numbers_small T v = tab_all (λ d. SmallN d.number) _ (var_from T.vars) no_var (record { sfits = omega lin }) (λ i. word_is_small _) v

-- the view gives arrays of 32 entries
pub program_sized : (t : Tables) → Sized (program t)
unfolding program labels_from label_at label_from
program_sized t =
    record {
      vars = vars_most t;
      labels = λ l k.
          let h : l < up_to limits.labels (get_or t.size 3 0) = rw (tab_length (up_to limits.labels (get_or t.size 3 0))) at k in
          rw (tab_in (up_to limits.labels (get_or t.size 3 0)) (label_from t.labels) l _ h) (tab_length limits.variables _);
    }

-- the store text's check, with the counts that it found
pub record Passed (P : Prog) (s : List ℕ) : Type 0 where
  pub count : StoreCount
  pub tables : (read_store P s).tables ≡ fill_store s P.vars count
  pub fits : store_fits P (fill_store s P.vars count) ≡ accepted

passed : (P : Prog) (s : List ℕ) (o : Counted) → (judged P s o).answer ≡ accepted → read_store P s ≡ judged P s o → Passed P s
passed P s (counted_out a c) h e =
    record {
      count = c;
      tables = ap (λ (x : StoreOut). x.tables) e ∙ rw h;
      fits = then_later (store_names s P.rows c) _ (then_later a _ h);
    }

pub text_passed : (P : Prog) (s : List ℕ) → (read_store P s).answer ≡ accepted → Passed P s
unfolding read_store
text_passed P s h = go (ltb limits.store (length s)) refl h
  where
    go : (c : Bool) → ltb limits.store (length s) ≡ c → (read_store P s).answer ≡ accepted → Passed P s
    go true q h = let z : ◌≡◌ {A = ℕ} 21 0 = ap (λ (x : Answer). x.number) (rw q at h) in absurd (omega lin)
    go false q h = passed P s (store_lines s (params_of P.vars) (most_store_lines + 1) 1 0 no_store) (rw q at h) (rw q)

module _ (T : Tables) (ok : check (program T) ≡ accepted) (s : List ℕ) (p : Passed (program T) s) where
  abbrev P : Prog
  P = program T

  abbrev filled : StoreTables
  filled = fill_store s P.vars p.count

  abbrev σ : Store
  σ = store_of filled.size filled.heads filled.cells

  abbrev δ : List Given
  δ = vals_of (length P.vars) filled.vals

  numbers_zero : Each Zero (map (block_number P.rows σ) σ) × Each Zero (arg_numbers P.rows σ P.vars δ)
  unfolding store_fits
  numbers_zero = (each_append Zero (map (block_number P.rows σ) σ) (arg_numbers P.rows σ P.vars δ)).0 ((first_exactly 2 (map (block_number P.rows σ) σ ++ arg_numbers P.rows σ P.vars δ)).0 p.fits)

  value_at : (v : ℕ) → v < length P.vars → get_or δ v None ≡ datum_code (get_or filled.vals v 0)
  unfolding vals_of
  value_at v h = tab_in (length P.vars) (λ i. datum_code (get_or filled.vals i 0)) v None h

  local_has : (v : ℕ) → v < length P.vars → (get_or P.vars v no_var).is_local ≡ true → get_or δ v None ≡ Some (local_datum (get_or P.vars v no_var).kind (get_or P.vars v no_var).number)
  local_has v h l =
      value_at v h
      ∙ ap datum_code (local_written s P.vars p.count (vars_most T) v h l)
      ∙ datum_again (local_datum (get_or P.vars v no_var).kind (get_or P.vars v no_var).number) (local_small (get_or P.vars v no_var).kind (get_or P.vars v no_var).number (numbers_small T v))

  start_at_lem : (v : ℕ) → v < length P.vars → get_or (start_env P.vars).entries v no_entry ≡ start_entry (get_or P.vars v no_var)
  unfolding start_env start_at
  start_at_lem v h =
      let m : length P.vars ≤ limits.variables = vars_most T in
      tab_in limits.variables (start_at P.vars) v no_entry (omega lin) ∙ rw (lt-ltb v (length P.vars) h)

  start_fits : (v : ℕ) → v < length P.vars → (c : Bool) → (get_or P.vars v no_var).is_local ≡ c → Fits P.rows σ (get_or P.vars v no_var).kind (start_entry (get_or P.vars v no_var)) (get_or δ v None)
  unfolding local_line
  start_fits v h true l =
      let z : Zero (local_line P.rows (get_or P.vars v no_var)) = each_at (λ d. Zero (local_line P.rows d)) P.vars no_var (locals_zero P (program_sized T) ok) v h in
      rw (local_has v h l, l) (local_fits P.rows σ (get_or P.vars v no_var).kind (get_or P.vars v no_var).number (rw l at z))
  start_fits v h false l = rw l (fits→ P.rows σ (get_or P.vars v no_var).kind loosest (get_or δ v None) (args_fit P.rows σ P.vars δ numbers_zero.1 (vals_length (length P.vars) filled.vals) v h l))

  pub start_good : Good P (start_env P.vars) δ σ
  unfolding kind_at start_env
  start_good =
      record {
        store = store_sound P.rows σ ((each_map Zero (block_number P.rows σ) σ).0 numbers_zero.0);
        vars = record {
          count = start_count;
          wide = start_wide;
          size = vals_length (length P.vars) filled.vals;
          each = λ v h. rw (start_at_lem v h) (start_fits v h (get_or P.vars v no_var).is_local refl);
        };
      }
    where
      start_count : (start_env P.vars).count ≡ length P.vars
      start_count = refl

      start_wide : length P.vars ≤ length (start_env P.vars).entries
      start_wide = rw (tab_length limits.variables (start_at P.vars)) (vars_most T)
