-- 4: a row, variable or label named that does not exist. 5: entry of an int variable that is not `any,0,T`. Line by line, 4 first. Assumes nothing.
use Rattle.std.specs.Prelude.{◌&&◌, ◌∷◌, ◌++◌}
use Rattle.rules.specs.Prelude.{ℕ, Bool, true, false, List, [], map, Boxed, Entry, Kind, Cint, Value, Answer}
use Rattle.rules.specs.Prelude.B
use Rattle.rules.specs.When.{need, One}
use Rattle.rules.specs.Answers.{first, answers}
use Rattle.rules.specs.Program.{row_there, var_there, label_there, Row, Var, Expr, bad, lit, var, arith, val, int, fetch, step, Stmt, bad_s, set_s, put_s, goto_s, if_s, ifimm_s, iftag_s, ifint_s, return_s, label_s, Prog, is_zero, label_at}

-- ---- 4

unfoldable pub kind_there : Prog → Kind → Bool
kind_there P Cint = true
kind_there P (Value r) = row_there P.rows r

unfoldable pub expr_there : Prog → Expr → Bool
expr_there P bad = false
expr_there P (lit n) = true
expr_there P (var v) = var_there P.vars v
expr_there P (arith o x y) = expr_there P x && expr_there P y
expr_there P (val r x) = row_there P.rows r && expr_there P x
expr_there P (int x) = expr_there P x
expr_there P (fetch x) = expr_there P x
expr_there P (step x y) = expr_there P x && expr_there P y

unfoldable pub stmt_there : Prog → Stmt → Bool
stmt_there P bad_s = false
stmt_there P (set_s v x) = var_there P.vars v && expr_there P x
stmt_there P (put_s x n y) = expr_there P x && expr_there P y
stmt_there P (goto_s l) = label_there P l
stmt_there P (if_s l x) = label_there P l && expr_there P x
stmt_there P (ifimm_s l v) = label_there P l && var_there P.vars v
stmt_there P (iftag_s l v n) = label_there P l && var_there P.vars v
stmt_there P (ifint_s l v n) = label_there P l && var_there P.vars v
stmt_there P (return_s x) = expr_there P x
stmt_there P (label_s l) = label_there P l

unfoldable pub fields_there : Prog → List ℕ → Bool
fields_there P [] = true
fields_there P (r ∷ rs) = row_there P.rows r && fields_there P rs

unfoldable pub products_there : Prog → List (List ℕ) → Bool
products_there P [] = true
products_there P (p ∷ ps) = fields_there P p && products_there P ps

-- ---- 5

abbrev pub any_b : Boxed → Bool
any_b B.Either = true
any_b B.Block = false
any_b B.Imm = false

unfoldable pub entry_suits : Kind → Entry → Bool
entry_suits Cint e = any_b e.boxed && is_zero e.offset
entry_suits (Value r) e = true

unfoldable pub entries_suit : List Var → List Entry → Bool
entries_suit [] es = true
entries_suit (d ∷ D) [] = true
entries_suit (d ∷ D) (e ∷ es) = entry_suits d.kind e && entries_suit D es

abbrev pub label_suits : Prog → Stmt → Bool
label_suits P bad_s = true
label_suits P (set_s v x) = true
label_suits P (put_s x n y) = true
label_suits P (goto_s l) = true
label_suits P (if_s l x) = true
label_suits P (ifimm_s l v) = true
label_suits P (iftag_s l v n) = true
label_suits P (ifint_s l v n) = true
label_suits P (return_s x) = true
label_suits P (label_s l) = entries_suit P.vars (label_at P.labels l).entries

-- ---- line by line, 4 first

unfoldable pub name_kind : Prog → Kind → ℕ
name_kind P k = need 4 (kind_there P k) 0

unfoldable pub name_row : Prog → Row → ℕ
name_row P r = need 4 (products_there P r.products) 0

unfoldable pub name_var : Prog → Var → ℕ
name_var P d = name_kind P d.kind

unfoldable pub name_stmt : Prog → Stmt → ℕ
name_stmt P st = need 4 (stmt_there P st) (need 5 (label_suits P st) 0)

-- a number for each line of the file: line 1 is `ret`; then the rows, the variables, the body
unfoldable pub names : Prog → Answer
names P = first 1 (name_kind P P.ret ∷ (map (name_row P) P.rows ++ (map (name_var P) P.vars ++ map (name_stmt P) P.body)))

-- to compute with what stands here
unfoldable pub naming : One
unfolding answers kind_there expr_there stmt_there fields_there products_there entry_suits entries_suit name_kind name_row name_var name_stmt names
naming = tt
