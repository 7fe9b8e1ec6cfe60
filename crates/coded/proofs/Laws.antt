-- An environment's numbers: what was written is read again, and a label's own numbers stand for its environment. Assumes nothing.
use mathlib.Core.Path.{◌≡◌, refl, ap, ◌∙◌}
use mathlib.Core.List.{List}
use Prim.Native.Nat.{ℕ, ◌+◌, ◌*◌, ◌<◌, ◌≤◌}
use native.Mathlib.Omega.{arith}
use native.Mathlib.Decide.{dec_lt}
use lib.ListN.{length, get_or, set, replicate, length-set}
use lib.Seq.{get_or-set_same, get_or-set_other, set_out}
use Rattle.rules.specs.declared.Entry.{Entry}
use Rattle.rules.specs.Program.{no_entry}
use Rattle.rules.specs.View.{tab, boxed_code, offset_code, tag_code, entry_from, label_from}
use Rattle.rules.specs.Text.Layout.{cell, label_width}
use Rattle.rules.specs.Environments.{with_entry}
use Rattle.rules.proofs.Laws.Lists.{tab_length, tab_in, tab_ext, tab_set}
use Rattle.entry.specs.Again.{entry_of, SmallE}
use Rattle.entry.proofs.Again.{codes_again}
use Rattle.entry.specs.Codes.{codes_of}
use Rattle.table.proofs.Laws.{tab_out}
use Rattle.program.specs.Labels.{env_from, codes_from}
use Rattle.coded.specs.Coded.{entry_in, env_of, put_codes}

-- ---- reading

-- three zeros stand for the entry that is nowhere
pub zeros : entry_of 0 0 0 ≡ no_entry
unfolding boxed_code offset_code tag_code
zeros = refl

-- and so do all zeros, for each variable
pub blank : tab 32 (entry_in (replicate 96 0)) ≡ replicate 32 no_entry
unfolding tab entry_in boxed_code offset_code tag_code
blank = refl

module _ (C : List ℕ) (n v : ℕ) where
  pub entry_of_lem : v < 32 → get_or (env_of C n).entries v no_entry ≡ entry_in C v
  unfolding env_of
  entry_of_lem h = tab_in 32 (entry_in C) v no_entry h

  pub read_in : v < 32 → get_or (env_of C n).entries v no_entry ≡ entry_of (get_or C (v * 3) 0) (get_or C (v * 3 + 1) 0) (get_or C (v * 3 + 2) 0)
  unfolding entry_in
  read_in h = entry_of_lem h

  pub read_past : 32 ≤ v → get_or (env_of C n).entries v no_entry ≡ no_entry
  unfolding env_of
  read_past h = tab_out 32 (entry_in C) v no_entry h

-- ---- writing

module _ (C : List ℕ) (v : ℕ) (e : Entry) (n : length C ≡ 96) where
  abbrev b : ℕ
  b = (codes_of e).boxed

  abbrev i : ℕ
  i = (codes_of e).offset

  abbrev t : ℕ
  t = (codes_of e).tag

  -- a number of another variable is as it was
  cell_apart : (w k : ℕ) → (w ≡ v → ⊥) → k < 3 → get_or (put_codes C v e) (w * 3 + k) 0 ≡ get_or C (w * 3 + k) 0
  unfolding put_codes
  cell_apart w k d s =
      get_or-set_other (set (set C (v * 3) b) (v * 3 + 1) i) (v * 3 + 2) (w * 3 + k) t 0 (λ e. d (omega (arith, e)))
      ∙ get_or-set_other (set C (v * 3) b) (v * 3 + 1) (w * 3 + k) i 0 (λ e. d (omega (arith, e)))
      ∙ get_or-set_other C (v * 3) (w * 3 + k) b 0 (λ e. d (omega (arith, e)))

  read_apart : (w : ℕ) → (w ≡ v → ⊥) → entry_in (put_codes C v e) w ≡ entry_in C w
  unfolding entry_in
  read_apart w d =
      let z : w * 3 + 0 ≡ w * 3 = omega arith in
      rw (rw z at (cell_apart w 0 d (omega arith)), cell_apart w 1 d (omega arith), cell_apart w 2 d (omega arith)) refl

  -- its own are those that were written; an entry whose numbers are 32-bit is then read again
  read_here : v < 32 → SmallE e → entry_in (put_codes C v e) v ≡ e
  unfolding entry_in put_codes
  read_here h s =
      let C₁ = set C (v * 3) b in
      let C₂ = set C₁ (v * 3 + 1) i in
      let y : v * 3 + 1 < length C₁ = rw (length-set C (v * 3) b) (omega arith) in
      let z : v * 3 + 2 < length C₂ = rw (length-set C₁ (v * 3 + 1) i, length-set C (v * 3) b) (omega arith) in
      rw (
        get_or-set_other C₂ (v * 3 + 2) (v * 3) t 0 (λ e. omega (arith, e)),
        get_or-set_other C₁ (v * 3 + 1) (v * 3) i 0 (λ e. omega (arith, e)),
        get_or-set_same C (v * 3) b 0 (omega arith),
        get_or-set_other C₂ (v * 3 + 2) (v * 3 + 1) t 0 (λ e. omega (arith, e)),
        get_or-set_same C₁ (v * 3 + 1) i 0 y,
        get_or-set_same C₂ (v * 3 + 2) t 0 z,
      )
      (codes_again e s)

  pub put_past : 32 ≤ v → put_codes C v e ≡ C
  unfolding put_codes
  put_past h = rw (set_out C (v * 3) b (omega arith), set_out C (v * 3 + 1) i (omega arith), set_out C (v * 3 + 2) t (omega arith))

  module _ (m : ℕ) (s : SmallE e) where
    env_by : Dec (v < 32) → env_of (put_codes C v e) m ≡ with_entry (env_of C m) v e
    unfolding env_of with_entry
    env_by (yes h) = ap (λ (l : List Entry). record { entries = l; count = m }) (tab_set 32 (entry_in C) (entry_in (put_codes C v e)) v e (read_here h s) (λ w k d. read_apart w d))
    env_by (no h) =
        let p : 32 ≤ v = omega (arith, h) in
        rw (put_past p, set_out (tab 32 (entry_in C)) v e (rw (tab_length 32 (entry_in C)) p))

    pub env_put : env_of (put_codes C v e) m ≡ with_entry (env_of C m) v e
    env_put = env_by (dec_lt v 32)

-- ---- a label's

entry_label : (L : List ℕ) (l v : ℕ) → v < 32 → entry_in (codes_from L l) v ≡ entry_from L l v
unfolding entry_in codes_from entry_from
entry_label L l v h =
    let f : ℕ → ℕ = λ k. cell L label_width l (k + 1) in
    let p : v * 3 + 1 + 1 ≡ v * 3 + 2 = omega arith in
    let q : v * 3 + 2 + 1 ≡ v * 3 + 3 = omega arith in
    rw (tab_in 96 f (v * 3) 0 (omega arith), tab_in 96 f (v * 3 + 1) 0 (omega arith), tab_in 96 f (v * 3 + 2) 0 (omega arith), p, q)

pub env_label : (L : List ℕ) (l n : ℕ) → env_of (codes_from L l) n ≡ env_from L l n
unfolding env_of env_from label_from
env_label L l n = ap (λ (x : List Entry). record { entries = x; count = n }) (tab_ext 32 _ _ (entry_label L l))
