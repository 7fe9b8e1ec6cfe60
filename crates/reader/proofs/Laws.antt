-- Bounds: what a word is and where it ends, and that counts stay within the limits from line to line; and what the answer and the tables are, taken apart. Assumes nothing.
use Rattle.rules.specs.declared.Key.{Key}
use Rattle.rules.specs.declared.Key.TheVariants as K
use native.Mathlib.Omega.{arith}
use borrow.Author.Tests.{ltb-true, eq-eqb, ne_eqb}
use Rattle.std.specs.Prelude.{◌+◌, ◌*◌, ◌≤◌, ◌<◌, ◌≡◌, Some, None, Result, Ok, Err}
use Rattle.rules.specs.Prelude.{sym, ℕ, max, true, false, List, refl, ap, ◌∙◌, ltb, eqb, length, set}
use Rattle.rules.specs.declared.Answer.{Answer}
use Rattle.rules.specs.declared.Count.{Count}
use Rattle.rules.specs.Text.Words.{Reading}
use Rattle.rules.specs.Text.Words.{Next}
use Rattle.rules.proofs.Laws.Tests.{by_when}
use Rattle.rules.specs.Text.{TextOut, Lined, lined, limited, shaped, keyed, line_at}
use Rattle.rules.specs.Text.Words.{byte_at, value_of, next_of, plain_at, number_at, var_at}
use Rattle.rules.specs.Text.Shape.{kind_word, psi_at, key_of, key_at, line_shape, in_order}
use Rattle.rules.specs.declared.Tables.{Tables}
use Rattle.rules.specs.Text.Layout.{zeros, row_width}
use Rattle.rules.specs.Text.Fill.{Filled, filled, Out, out, expression, kind_value, kind_next, add_var, Fields, fields, fill_ret, fill_param, fill_local, fill_products, add_row, fill_type, plain_line, expr_line, fill_set, fill_put_two, fill_put, fill_goto, fill_if, fill_ifimm, fill_test, fill_return, fill_label, one_more, fill_line}
use Rattle.text.proofs.Laws.{Reads, number_reads, plain_reads, var_reads, value_most, next_most}
use Rattle.shape.proofs.Laws.{kind_reads, psi_reads}
use Rattle.reader.specs.Read.{Placed, Worded, Fits, Within, left, Closed, Holds}
use Rattle.once.proofs.Keys.{none}
use Rattle.std.specs.Result.{is_err}
use Rattle.reader.proofs.Exprs.{Ends, expression_ends}

-- ---- words

pub next_in : (at : ℕ) {to least most : ℕ} {x r : Reading} → Reads (at + 1) to least most r → x ≡ r → next_of x ≤ max at to
next_in at h q = omega (arith, next_most h, ap next_of q)

small : {from to least most : ℕ} {r : Reading} → most ≤ 4294967295 → Reads from to least most r → value_of r < 4294967296
small m h = omega (arith, value_most h)

-- each word is of 32 bits, and ends in the text or is wrong where it begins
module _ (s : List ℕ) (at : ℕ) where
  pub plain_small : value_of (plain_at s at) < 4294967296
  plain_small = small (omega arith) (plain_reads s at)

  pub plain_ends : next_of (plain_at s at) ≤ max at (length s)
  plain_ends = next_in at (plain_reads s at) refl

  pub number_small : value_of (number_at s at) < 4294967296
  number_small = small (omega arith) (number_reads s at)

  pub number_ends : next_of (number_at s at) ≤ max at (length s)
  number_ends = next_in at (number_reads s at) refl

  pub var_small : value_of (var_at s at) < 4294967296
  var_small = small (omega arith) (var_reads s at)

  pub var_ends : next_of (var_at s at) ≤ max at (length s)
  var_ends = next_in at (var_reads s at) refl

  pub psi_small : value_of (psi_at s at) < 4294967296
  psi_small = small (omega arith) (psi_reads s at)

  pub psi_ends : next_of (psi_at s at) ≤ max at (length s)
  psi_ends = next_in at (psi_reads s at) refl

module _ (s : List ℕ) (at : ℕ) where
  pub kind_near : {x : Reading} → Placed s at → x ≡ kind_word s at → next_of x ≤ 32768
  kind_near p q = omega (arith, next_in at (kind_reads s at) q)

  pub kind_bad : {p : ℕ} → Err p ≡ kind_word s at → Worded s at (kind_value s (kind_word s at)) (kind_next s (kind_word s at)) 0 (p + 1)
  kind_bad q = record { gives = ap (kind_value s) q; goes = ap (λ (z : Reading). kind_next s z + 1) q; near = omega (arith, next_in at (kind_reads s at) q) }

  module _ (k n : ℕ) (q : Ok (k, n) ≡ kind_word s at) where
    pub kind_int : k ≡ 0 → Worded s at (kind_value s (kind_word s at)) (kind_next s (kind_word s at)) 1 (n + 1)
    kind_int z = rw (← q, eq-eqb k 0 z) (record { gives = refl; goes = refl; near = omega (arith, next_in at (kind_reads s at) q) })

    pub kind_value_lem : {v past : ℕ} → (k ≡ 0 → ⊥) → Worded s n (value_of (plain_at s n)) (next_of (plain_at s n)) v past
        → Worded s at (kind_value s (kind_word s at)) (kind_next s (kind_word s at)) (v + 2) past
    kind_value_lem z w =
        rw (← q, ne_eqb k 0 z) (record { gives = ap (λ (x : ℕ). x + 2) w.gives; goes = w.goes; near = omega (arith, w.near, next_in at (kind_reads s at) q) })

-- ---- counts

abbrev FitsFilled : Filled → Type 0
FitsFilled (filled ok c t) = Within c

abbrev pub FitsLined : Lined → Type 0
FitsLined (lined a n c t) = Within c

module _ (s : List ℕ) (at : ℕ) (c : Count) (t : Tables) (h : Within c) where
  var_fits : (kind how number : ℕ) → FitsFilled (add_var c t kind how number)
  var_fits kind how number =
      by_when FitsFilled (ltb c.vars 32) _ _
      (λ q. record { few_rows = h.few_rows; few_vars = omega (arith, ltb-true c.vars 32 q); few_labels = h.few_labels; few_lines = h.few_lines; few_nodes = h.few_nodes })
      (λ _. h)

  row_fits : c.rows < 64 → (x : Fields) → FitsFilled (add_row c t x)
  row_fits q (fields ok total R) =
      record { few_rows = omega (arith, q); few_vars = h.few_vars; few_labels = h.few_labels; few_lines = h.few_lines; few_nodes = h.few_nodes }

  type_fits : FitsFilled (fill_type s at c t)
  unfolding fill_type
  type_fits = by_when FitsFilled (ltb c.rows 64) _ _ (λ q. row_fits (ltb-true c.rows 64 q) (fill_products s c.rows c.fields (set t.rows (c.rows * row_width) (value_of (psi_at s at))) (next_of (psi_at s at) + 1))) (λ _. h)

  module _ (room : c.lines < 512) where
    line_within : (n : ℕ) → n ≤ 4096 → Fits c.rows c.vars c.labels (c.lines + 1) n
    line_within n k = record { few_rows = h.few_rows; few_vars = h.few_vars; few_labels = h.few_labels; few_lines = omega (arith, room); few_nodes = k }

    plain_fits : (u : Tables) (kind l v w : ℕ) → FitsFilled (plain_line c u kind l v w)
    unfolding plain_line
    plain_fits u kind l v w = line_within c.nodes h.few_nodes

    out_fits : (u : Tables) (kind l v w : ℕ) (o : Out) → Ends (length s) o → FitsFilled (expr_line c u kind l v w o)
    out_fits u kind l v w (out (Some (n, free)) N) e = line_within free e.1
    out_fits u kind l v w (out None N) e = h

    expr_fits : (kind l v w n free : ℕ) (N : List ℕ) → FitsFilled (expr_line c t kind l v w (expression s 16 n free N))
    expr_fits kind l v w n free N = out_fits t kind l v w (expression s 16 n free N) (expression_ends s 16 n free N)

    put_fits : (o : Out) → FitsFilled (fill_put_two s c t o)
    put_fits (out (Some (n, free)) N) = expr_fits 2 0 0 (value_of (number_at s (n + 1))) (next_of (number_at s (n + 1)) + 1) free N
    put_fits (out None N) = h

  label_fits : c.lines < 512 → FitsFilled (fill_label s at c t)
  unfolding fill_label plain_line
  label_fits room =
      by_when FitsFilled (ltb c.labels 64) _ _
      (λ q. record { few_rows = h.few_rows; few_vars = h.few_vars; few_labels = omega (arith, ltb-true c.labels 64 q); few_lines = omega (arith, room); few_nodes = h.few_nodes })
      (λ _. h)

  more_fits : (x : Filled) → (c.lines < 512 → FitsFilled x) → FitsFilled (one_more c t x)
  more_fits x g = by_when FitsFilled (ltb c.lines 512) _ _ (λ q. g (ltb-true c.lines 512 q)) (λ _. h)

  fill_fits : (k : Key) → FitsFilled (fill_line s k at c t)
  unfolding fill_line fill_ret fill_param fill_local fill_set fill_put fill_goto fill_if fill_ifimm fill_test fill_return
  fill_fits K.Absent = h
  fill_fits K.Ret = h
  fill_fits K.Type = type_fits
  fill_fits K.Param = var_fits _ 1 0
  fill_fits K.Local = var_fits _ 2 _
  fill_fits K.Set = more_fits _ (λ r. expr_fits r 1 0 (value_of (var_at s at)) 0 (next_of (var_at s at) + 1) c.nodes t.nodes)
  fill_fits K.Put = more_fits _ (λ r. put_fits r (expression s 16 at c.nodes t.nodes))
  fill_fits K.Goto = more_fits _ (λ r. plain_fits r t 3 _ 0 0)
  fill_fits K.If = more_fits _ (λ r. expr_fits r 4 (value_of (plain_at s at)) 0 0 (next_of (plain_at s at) + 1) c.nodes t.nodes)
  fill_fits K.IfImm = more_fits _ (λ r. plain_fits r t 5 _ _ 0)
  fill_fits K.IfTag = more_fits _ (λ r. plain_fits r t 6 _ _ _)
  fill_fits K.IfInt = more_fits _ (λ r. plain_fits r t 7 _ _ _)
  fill_fits K.Return = more_fits _ (λ r. expr_fits r 8 0 0 0 at c.nodes t.nodes)
  fill_fits K.Label = more_fits _ (λ r. label_fits r)

  limited_fits : (k n : ℕ) (x : Filled) → FitsFilled x → FitsLined (limited k n x)
  limited_fits k n (filled true d u) f = f
  limited_fits k n (filled false d u) f = f

  shaped_fits : (k n : ℕ) (x : Next) → ((p : Key) → FitsFilled (fill_line s p n c t)) → FitsLined (shaped s k n c t x)
  shaped_fits k n (Err p) f = h
  shaped_fits k n (Ok m) f = by_when FitsLined (eqb (byte_at s m) 10) _ _ (λ _. limited_fits k (m + 1) (fill_line s (key_of k) n c t) (f (key_of k))) (λ _. h)

module _ (s : List ℕ) (at : ℕ) (c : Count) (t : Tables) (h : Within c) where
  keyed_fits : (r : Reading) → FitsLined (keyed s at c t r)
  keyed_fits (Err p) = h
  keyed_fits (Ok (k, n)) = by_when FitsLined (in_order c.part k) _ _ (λ _. shaped_fits s n c t h k n (line_shape s c.vars (key_of k) n) (fill_fits s n c t h)) (λ _. h)

  pub line_fits : FitsLined (line_at s at c t)
  unfolding line_at
  line_fits = keyed_fits (key_at s at)

-- ---- what was read, taken apart

pub refused_zeros : (r : Result Unit Answer) (t : Tables) → true ≡ is_err r → left r t ≡ zeros
refused_zeros (Ok x) t e = none e
refused_zeros (Err a) t e = refl

pub right_left : (r : Result Unit Answer) (t : Tables) → false ≡ is_err r → left r t ≡ t
right_left (Ok x) t e = refl
right_left (Err a) t e = none (sym e)

pub holds : {o : TextOut} {r : Result Unit Answer} {t u : Tables} → Closed r t o → u ≡ left r t → Holds o r u
holds h e = record { answer = h.answer; tables = e ∙ h.tables }

-- for callers: the tables as they are
pub tables_are_lem : {o : TextOut} {a : Result Unit Answer} {t : Tables} → Holds o a t → t ≡ o.tables
tables_are_lem h = h.tables
