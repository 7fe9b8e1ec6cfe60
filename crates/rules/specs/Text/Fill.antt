-- The glue text: what each line of a right shape writes into the tables, and the limits that it may pass (3). Assumes nothing.
use Rattle.std.specs.Prelude.{◌+◌, ◌*◌, ◌&&◌, Some, None}
use Rattle.rules.specs.declared.Key.{Key}
use Rattle.rules.specs.declared.Key.TheVariants as K
use Rattle.rules.specs.Text.Words.{Reading}
use Rattle.rules.specs.Text.Words.{Head}
use Rattle.rules.specs.Prelude.{ℕ, zero, suc, Bool, true, false, List, ltb, eqb, set, Ok, Err, Count, Option}
use Rattle.rules.specs.When.{One, when}
use Rattle.rules.specs.Limits.{limits}
use Rattle.rules.specs.Text.Words.{byte_at, value_of, next_of, plain_at, number_at, var_at, arity, head_at}
use Rattle.rules.specs.Text.Shape.{shapes, kind_word, psi_at, boxed_at, offset_at, tag_at}
use Rattle.rules.specs.declared.Tables.{Tables}
use Rattle.rules.specs.Text.Layout.{with_nodes, with_rows, with_vars, with_labels, with_body, with_ret, one_row, one_var, one_label, one_line, row_width, var_width, label_width, line_width}

-- within the limits, or not; with the counts and the tables after it
pub data Filled : Type 0 where
  filled : Bool → Count → Tables → Filled

-- ---- expressions: each node before its operands

-- after an expression was written: the next byte and the next free node; nothing where a limit is passed
abbrev pub Filling : Type 0
Filling = Option (ℕ × ℕ)

pub data Out : Type 0 where
  out : Filling → List ℕ → Out

abbrev pub onward : Out → (ℕ → ℕ → List ℕ → Out) → Out
onward (out (Some (n, free)) N) go = go n free N
onward (out None N) go = out None N

-- n operands, each after a space
unfoldable pub operands : (ℕ → ℕ → List ℕ → Out) → ℕ → ℕ → ℕ → List ℕ → Out
operands one zero at free N = out (Some (at, free)) N
operands one (suc n) at free N = onward (one (at + 1) free N) (operands one n)

abbrev pub node : (ℕ → ℕ → List ℕ → Out) → Head → ℕ → List ℕ → Out
node one (Err p) free N = out None N
node one (Ok (op, a, n)) free N =
    when (ltb free limits.nodes)
    (λ _. operands one (arity op) n (free + 1) (set N free (op * 4294967296 + a)))
    (λ _. out None N)

-- an expression that nests to the depth at most
unfoldable pub expression : List ℕ → ℕ → ℕ → ℕ → List ℕ → Out
expression s zero at free N = out None N
expression s (suc depth) at free N = node (expression s depth) (head_at s at) free N

-- ---- kinds: 1 int, r + 2 a value of row r

abbrev pub kind_value : List ℕ → Reading → ℕ
kind_value s (Err p) = 0
kind_value s (Ok (k, n)) = when (eqb k 0) (λ _. 1) (λ _. value_of (plain_at s n) + 2)

abbrev pub kind_next : List ℕ → Reading → ℕ
kind_next s (Err p) = p
kind_next s (Ok (k, n)) = when (eqb k 0) (λ _. n) (λ _. next_of (plain_at s n))

-- ret=
unfoldable pub fill_ret : List ℕ → ℕ → Count → Tables → Filled
fill_ret s at c t = filled true (with_ret c (kind_value s (kind_word s at))) t

-- variable v: its kind code, 1 for a param and 2 for a local, the local's word
abbrev pub put_var : List ℕ → ℕ → ℕ → ℕ → ℕ → List ℕ
put_var D v kind how word = set (set (set D (v * var_width) kind) (v * var_width + 1) how) (v * var_width + 2) word

-- param=, local=
abbrev pub add_var : Count → Tables → ℕ → ℕ → ℕ → Filled
add_var c t kind how word =
    when (ltb c.vars limits.variables)
    (λ _. filled true (one_var c) (with_vars t (put_var t.vars c.vars kind how word)))
    (λ _. filled false c t)

unfoldable pub fill_param : List ℕ → ℕ → Count → Tables → Filled
fill_param s at c t = add_var c t (kind_value s (kind_word s at)) 1 0

unfoldable pub fill_local : List ℕ → ℕ → Count → Tables → Filled
fill_local s at c t = add_var c t (kind_value s (kind_word s at)) 2 (value_of (number_at s (kind_next s (kind_word s at) + 1)))

-- ---- type=

pub data Fields : Type 0 where
  fields : Bool → ℕ → List ℕ → Fields

-- field row q is the o-th of product k of row r
unfoldable pub put_field : List ℕ → ℕ → ℕ → ℕ → ℕ → List ℕ
put_field R r k o q = set (set (set R (r * row_width + 18 + k * 16 + o) q) (r * row_width + 2 + k) (o + 1)) (r * row_width + 1) (k + 1)

abbrev pub more_fields : List ℕ → (ℕ → ℕ → ℕ → Fields) → ℕ → ℕ → ℕ → Fields → Fields
more_fields s rest n k o done = when (eqb (byte_at s n) 44) (λ _. rest k (o + 1) (n + 1)) (λ _. when (eqb (byte_at s n) 124) (λ _. rest (k + 1) 0 (n + 1)) (λ _. done))

-- field o of product k and on. 16 products of 16 fields are within the limits, and the one after these is not; `total` counts the fields of the text
unfoldable pub fill_fields : List ℕ → ℕ → ℕ → ℕ → List ℕ → ℕ → ℕ → ℕ → Fields
fill_fields s r zero total R k o at = fields false total R
fill_fields s r (suc left) total R k o at =
    when (ltb k limits.products && (ltb o limits.width && ltb total limits.fields))
    (λ _. more_fields s (fill_fields s r left (total + 1) (put_field R r k o (value_of (plain_at s at)))) (next_of (plain_at s at)) k o
    (fields true (total + 1) (put_field R r k o (value_of (plain_at s at)))))
    (λ _. fields false total R)

unfoldable pub fill_products : List ℕ → ℕ → ℕ → List ℕ → ℕ → Fields
fill_products s r total R at = when (eqb (byte_at s at) 10) (λ _. fields true total R) (λ _. fill_fields s r 257 total R 0 0 at)

abbrev pub add_row : Count → Tables → Fields → Filled
add_row c t (fields ok total R) = filled ok (one_row c total) (with_rows t R)

unfoldable pub fill_type : List ℕ → ℕ → Count → Tables → Filled
fill_type s at c t =
    when (ltb c.rows limits.rows)
    (λ _. add_row c t (fill_products s c.rows c.fields (set t.rows (c.rows * row_width) (value_of (psi_at s at))) (next_of (psi_at s at) + 1)))
    (λ _. filled false c t)

-- ---- body lines

-- line i: its kind, and what of label, variable, word and first node it has
unfoldable pub put_line : List ℕ → ℕ → ℕ → ℕ → ℕ → ℕ → ℕ → List ℕ
put_line B i kind l v w k =
    set (set (set (set (set B (i * line_width) kind) (i * line_width + 1) l) (i * line_width + 2) v) (i * line_width + 3) w) (i * line_width + 4) k

abbrev pub add_line : Count → Tables → ℕ → ℕ → ℕ → ℕ → ℕ → ℕ → Filled
add_line c t free kind l v w k = filled true (one_line c free) (with_body t (put_line t.body c.lines kind l v w k))

-- a line without an expression
unfoldable pub plain_line : Count → Tables → ℕ → ℕ → ℕ → ℕ → Filled
plain_line c t kind l v w = add_line c t c.nodes kind l v w 0

-- a line whose expressions were written
abbrev pub expr_line : Count → Tables → ℕ → ℕ → ℕ → ℕ → Out → Filled
expr_line c t kind l v w (out (Some (n, free)) N) = add_line c (with_nodes t N) free kind l v w c.nodes
expr_line c t kind l v w (out None N) = filled false c (with_nodes t N)

unfoldable pub fill_set : List ℕ → ℕ → Count → Tables → Filled
fill_set s at c t = expr_line c t 1 0 (value_of (var_at s at)) 0 (expression s limits.depth (next_of (var_at s at) + 1) c.nodes t.nodes)

-- the second E, after the N that stands after the first
abbrev pub fill_put_two : List ℕ → Count → Tables → Out → Filled
fill_put_two s c t (out None N) = filled false c (with_nodes t N)
fill_put_two s c t (out (Some (n, free)) N) = expr_line c t 2 0 0 (value_of (number_at s (n + 1))) (expression s limits.depth (next_of (number_at s (n + 1)) + 1) free N)

unfoldable pub fill_put : List ℕ → ℕ → Count → Tables → Filled
fill_put s at c t = fill_put_two s c t (expression s limits.depth at c.nodes t.nodes)

unfoldable pub fill_goto : List ℕ → ℕ → Count → Tables → Filled
fill_goto s at c t = plain_line c t 3 (value_of (plain_at s at)) 0 0

unfoldable pub fill_if : List ℕ → ℕ → Count → Tables → Filled
fill_if s at c t = expr_line c t 4 (value_of (plain_at s at)) 0 0 (expression s limits.depth (next_of (plain_at s at) + 1) c.nodes t.nodes)

unfoldable pub fill_ifimm : List ℕ → ℕ → Count → Tables → Filled
fill_ifimm s at c t = plain_line c t 5 (value_of (plain_at s at)) (value_of (var_at s (next_of (plain_at s at) + 1))) 0

-- iftag=, ifint=
unfoldable pub fill_test : ℕ → List ℕ → ℕ → Count → Tables → Filled
fill_test kind s at c t =
    let v : ℕ = next_of (plain_at s at) + 1 in
    plain_line c t kind (value_of (plain_at s at)) (value_of (var_at s v)) (value_of (number_at s (next_of (var_at s v) + 1)))

unfoldable pub fill_return : List ℕ → ℕ → Count → Tables → Filled
fill_return s at c t = expr_line c t 8 0 0 0 (expression s limits.depth at c.nodes t.nodes)

-- the entries of label l, of variable v on, `more` of them
abbrev pub put_entry : List ℕ → ℕ → ℕ → ℕ → ℕ → ℕ → List ℕ
put_entry L l v b i g = set (set (set L (l * label_width + v * 3 + 1) b) (l * label_width + v * 3 + 2) i) (l * label_width + v * 3 + 3) g

unfoldable pub fill_entries : List ℕ → ℕ → ℕ → ℕ → List ℕ → ℕ → List ℕ
fill_entries s l zero v L at = L
fill_entries s l (suc more) v L at =
    let i : ℕ = next_of (boxed_at s at) + 1 in
    let g : ℕ = next_of (offset_at s i) + 1 in
    fill_entries s l more (v + 1) (put_entry L l v (value_of (boxed_at s at)) (value_of (offset_at s i)) (value_of (tag_at s g))) (next_of (tag_at s g) + 1)

abbrev pub add_label : Filled → Filled
add_label (filled ok c t) = filled ok (one_label c) t

-- label=: in its body line stands its own number
unfoldable pub fill_label : List ℕ → ℕ → Count → Tables → Filled
fill_label s at c t =
    let L : List ℕ = fill_entries s c.labels c.vars 0 (set t.labels (c.labels * label_width) (c.lines + 1)) at in
    when (ltb c.labels limits.labels)
    (λ _. add_label (plain_line c (with_labels t L) 9 c.labels 0 0))
    (λ _. filled false c t)

-- ---- a line by its key

-- a body line too many
abbrev pub one_more : Count → Tables → Filled → Filled
one_more c t x = when (ltb c.lines limits.lines) (λ _. x) (λ _. filled false c t)

unfoldable pub fill_line : List ℕ → Key → ℕ → Count → Tables → Filled
fill_line s K.Absent at c t = filled false c t
fill_line s K.Ret at c t = fill_ret s at c t
fill_line s K.Type at c t = fill_type s at c t
fill_line s K.Param at c t = fill_param s at c t
fill_line s K.Local at c t = fill_local s at c t
fill_line s K.Set at c t = one_more c t (fill_set s at c t)
fill_line s K.Put at c t = one_more c t (fill_put s at c t)
fill_line s K.Goto at c t = one_more c t (fill_goto s at c t)
fill_line s K.If at c t = one_more c t (fill_if s at c t)
fill_line s K.IfImm at c t = one_more c t (fill_ifimm s at c t)
fill_line s K.IfTag at c t = one_more c t (fill_test 6 s at c t)
fill_line s K.IfInt at c t = one_more c t (fill_test 7 s at c t)
fill_line s K.Return at c t = one_more c t (fill_return s at c t)
fill_line s K.Label at c t = one_more c t (fill_label s at c t)

-- to compute with what stands here
unfoldable pub fills : One
unfolding shapes operands expression fill_ret fill_param fill_local put_field fill_fields fill_products fill_type put_line plain_line fill_set fill_put fill_goto fill_if fill_ifimm fill_test fill_return fill_entries fill_label fill_line
fills = tt
