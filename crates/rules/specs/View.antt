-- What the tables mean: any numbers in them give a program. 0 names nothing; past a table's end is 0. Assumes nothing.
use Rattle.std.specs.Prelude.{◌+◌, ◌-◌, ◌*◌, ◌/◌, ◌%◌, ◌∷◌}
use Rattle.rules.specs.declared.Form.{Form}
use Rattle.rules.specs.declared.Way.{Way}
use Rattle.rules.specs.declared.Form.TheVariants as M
use Rattle.rules.specs.declared.Way.TheVariants as W
use Rattle.rules.specs.Prelude.{ℕ, zero, suc, List, [], ltb, eqb, get_or, Boxed, Offset, Tag, Entry, Kind, Cint, Value, Psi, Inf, Upto, Op}
use Rattle.rules.specs.Prelude.B
use Rattle.rules.specs.Prelude.I
use Rattle.rules.specs.Prelude.G
use Rattle.rules.specs.Prelude.O
use Rattle.rules.specs.When.{One, when}
use Rattle.rules.specs.Numbers.{num_code}
use Rattle.rules.specs.Limits.{limits}
use Rattle.rules.specs.declared.Tables.{Tables}
use Rattle.rules.specs.Text.Layout.{row_width, var_width, label_width, line_width, cell}
use Rattle.rules.specs.Program.{Rows, parts, Row, Var, Expr, bad, lit, var, arith, val, int, fetch, step, Stmt, bad_s, set_s, put_s, goto_s, if_s, ifimm_s, iftag_s, ifint_s, return_s, label_s, Label, Prog, entry}

-- f 0, f 1, .., n of them
unfoldable pub tab : {A : Type 0} → ℕ → (ℕ → A) → List A
tab zero f = []
tab (suc n) f = f 0 ∷ tab n (λ i. f (suc i))

-- a count over the limit is none
unfoldable pub up_to : ℕ → ℕ → ℕ
up_to most n = when (ltb most n) (λ _. 0) (λ _. n)

-- ---- rows: 0 no row, 1 `inf`, n + 2 for n
unfoldable pub psi_code : ℕ → Psi
psi_code c = when (eqb c 1) (λ _. Inf) (λ _. Upto (c - 2))

unfoldable pub product_from : List ℕ → ℕ → ℕ → List ℕ
product_from R r k = tab (up_to limits.width (cell R row_width r (2 + k))) (λ o. cell R row_width r (18 + k * 16 + o))

unfoldable pub row_from : List ℕ → ℕ → Row
row_from R r = record { psi = psi_code (cell R row_width r 0); products = tab (up_to limits.products (cell R row_width r 1)) (product_from R r) }

-- ---- variables: 0 none, 1 int, r + 2 a value of row r
unfoldable pub kind_code : ℕ → Kind
kind_code c = when (ltb c 2) (λ _. Cint) (λ _. Value (c - 2))

unfoldable pub var_from : List ℕ → ℕ → Var
var_from D v = record { kind = kind_code (cell D var_width v 0); is_local = eqb (cell D var_width v 1) 2; number = num_code (cell D var_width v 2) }

-- ---- entries: B 1 box, 2 imm, else any; I and T 0 any, else the word + 1
unfoldable pub boxed_code : ℕ → Boxed
boxed_code c = when (eqb c 1) (λ _. B.Block) (λ _. when (eqb c 2) (λ _. B.Imm) (λ _. B.Either))

unfoldable pub offset_code : ℕ → Offset
offset_code c = when (eqb c 0) (λ _. I.Unknown) (λ _. I.Known (num_code (c - 1)))

unfoldable pub tag_code : ℕ → Tag
tag_code c = when (eqb c 0) (λ _. G.Unknown) (λ _. G.Known (num_code (c - 1)))

unfoldable pub entry_from : List ℕ → ℕ → ℕ → Entry
entry_from L l v = entry (boxed_code (cell L label_width l (v * 3 + 1))) (offset_code (cell L label_width l (v * 3 + 2))) (tag_code (cell L label_width l (v * 3 + 3)))

unfoldable pub label_from : List ℕ → ℕ → Label
label_from L l = record { line = cell L label_width l 0 - 1; entries = tab limits.variables (entry_from L l) }

-- ---- nodes, in preorder: a tree, and the node after it

pub data Walked : Type 0 where
  walked : Expr → ℕ → Walked

abbrev pub one : (Expr → Expr) → Walked → Walked
one f (walked x n) = walked (f x) n

abbrev pub two : (Expr → Expr → Expr) → (ℕ → Walked) → Walked → Walked
two f g (walked x n) = one (f x) (g n)

unfoldable pub form_of : ℕ → Form
form_of op = get_or (M.Absent ∷ M.Lit ∷ M.Var ∷ M.Fetch ∷ M.Int ∷ M.Val ∷ M.Step ∷ M.Calc O.Add ∷ M.Calc O.Sub ∷ M.Calc O.Mul ∷ M.Calc O.Eq ∷ M.Calc O.Lt ∷ []) op M.Absent

-- the tree at node k, from the trees g of nodes one level down
abbrev pub tree_node : (ℕ → Walked) → ℕ → Form → ℕ → Walked
tree_node g k M.Absent a = walked bad (k + 1)
tree_node g k M.Lit a = walked (lit (num_code a)) (k + 1)
tree_node g k M.Var a = walked (var a) (k + 1)
tree_node g k M.Fetch a = one fetch (g (k + 1))
tree_node g k M.Int a = one int (g (k + 1))
tree_node g k M.Val a = one (val a) (g (k + 1))
tree_node g k M.Step a = two step g (g (k + 1))
tree_node g k (M.Calc o) a = two (arith o) g (g (k + 1))

unfoldable pub tree_at : List ℕ → ℕ → ℕ → Walked
tree_at N zero k = walked bad k
tree_at N (suc d) k =
    when (ltb k limits.nodes)
    (λ _. tree_node (tree_at N d) k (form_of (get_or N k 0 / 4294967296)) (get_or N k 0 % 4294967296))
    (λ _. walked bad k)

-- ---- body lines

abbrev pub tree_of : Walked → Expr
tree_of (walked x n) = x

abbrev pub with_one : (Expr → Stmt) → Walked → Stmt
with_one f (walked x n) = f x

-- the second tree begins after the first
abbrev pub with_two : List ℕ → (Expr → Expr → Stmt) → Walked → Stmt
with_two N f (walked x n) = f x (tree_of (tree_at N limits.depth n))

unfoldable pub way_of : ℕ → Way
way_of kind = get_or (W.Absent ∷ W.Set ∷ W.Put ∷ W.Goto ∷ W.If ∷ W.IfImm ∷ W.IfTag ∷ W.IfInt ∷ W.Return ∷ W.Label ∷ []) kind W.Absent

unfoldable pub stmt_of : List ℕ → Way → ℕ → ℕ → ℕ → ℕ → Stmt
stmt_of N W.Absent l v w k = bad_s
stmt_of N W.Set l v w k = with_one (set_s v) (tree_at N limits.depth k)
stmt_of N W.Put l v w k = with_two N (λ x y. put_s x (num_code w) y) (tree_at N limits.depth k)
stmt_of N W.Goto l v w k = goto_s l
stmt_of N W.If l v w k = with_one (if_s l) (tree_at N limits.depth k)
stmt_of N W.IfImm l v w k = ifimm_s l v
stmt_of N W.IfTag l v w k = iftag_s l v (num_code w)
stmt_of N W.IfInt l v w k = ifint_s l v (num_code w)
stmt_of N W.Return l v w k = with_one return_s (tree_at N limits.depth k)
stmt_of N W.Label l v w k = label_s l

unfoldable pub stmt_from : List ℕ → List ℕ → ℕ → Stmt
stmt_from N B i = stmt_of N (way_of (cell B line_width i 0)) (cell B line_width i 1) (cell B line_width i 2) (cell B line_width i 3) (cell B line_width i 4)

-- ---- the program: its sizes stand in Z

unfoldable pub rows_from : List ℕ → List ℕ → Rows
rows_from Z R = tab (up_to limits.rows (get_or Z 1 0)) (row_from R)

unfoldable pub vars_from : List ℕ → List ℕ → List Var
vars_from Z D = tab (up_to limits.variables (get_or Z 2 0)) (var_from D)

unfoldable pub labels_from : List ℕ → List ℕ → List Label
labels_from Z L = tab (up_to limits.labels (get_or Z 3 0)) (label_from L)

unfoldable pub body_from : List ℕ → List ℕ → List ℕ → List Stmt
body_from Z N B = tab (up_to limits.lines (get_or Z 4 0)) (stmt_from N B)

unfoldable pub program : Tables → Prog
program t =
    record {
      ret = kind_code (get_or t.size 0 0);
      rows = rows_from t.size t.rows;
      vars = vars_from t.size t.vars;
      labels = labels_from t.size t.labels;
      body = body_from t.size t.nodes t.body;
    }

-- to compute with what stands here
unfoldable pub views : One
unfolding parts tab up_to psi_code product_from row_from kind_code var_from boxed_code offset_code tag_code entry_from label_from form_of tree_at way_of stmt_of stmt_from rows_from vars_from labels_from body_from program
views = tt
