-- Names, where trees are looked at only if asked for: what a tree names is taken as there otherwise. Assumes nothing.
use Rattle.std.specs.Prelude.{◌&&◌, ◌∷◌, ◌++◌, ◌≡◌}
use Rattle.rules.specs.Prelude.{ℕ, Bool, true, false, map, refl, ap, ap₂, List, []}
use Rattle.rules.specs.declared.Answer.{Answer}
use Rattle.rules.specs.When.{need}
use Rattle.rules.specs.Answers.{first}
use Rattle.rules.specs.Program.{Prog, Expr, Stmt, bad_s, set_s, put_s, goto_s, if_s, ifimm_s, iftag_s, ifint_s, return_s, label_s, var_there, label_there}
use Rattle.rules.specs.Names.{expr_there, stmt_there, label_suits, name_kind, name_row, name_var, name_stmt, names}
use Rattle.rules.proofs.Laws.Stages.{Each}

abbrev pub tree_named : Bool → Prog → Expr → Bool
tree_named true P x = expr_there P x
tree_named false P x = true

unfoldable pub stmt_named : Bool → Prog → Stmt → Bool
stmt_named trees P bad_s = false
stmt_named trees P (set_s v x) = var_there P.vars v && tree_named trees P x
stmt_named trees P (put_s x n y) = tree_named trees P x && tree_named trees P y
stmt_named trees P (goto_s l) = label_there P l
stmt_named trees P (if_s l x) = label_there P l && tree_named trees P x
stmt_named trees P (ifimm_s l v) = label_there P l && var_there P.vars v
stmt_named trees P (iftag_s l v n) = label_there P l && var_there P.vars v
stmt_named trees P (ifint_s l v n) = label_there P l && var_there P.vars v
stmt_named trees P (return_s x) = tree_named trees P x
stmt_named trees P (label_s l) = label_there P l

unfoldable pub line_named : Bool → Prog → Stmt → ℕ
line_named trees P st = need 4 (stmt_named trees P st) (need 5 (label_suits P st) 0)

unfoldable pub names_in : Bool → Prog → Answer
names_in trees P = first 1 (name_kind P P.ret ∷ (map (name_row P) P.rows ++ (map (name_var P) P.vars ++ map (line_named trees P) P.body)))

-- ---- with trees these are the names of the rules

stmt_whole : (P : Prog) (st : Stmt) → stmt_named true P st ≡ stmt_there P st
unfolding stmt_named stmt_there
stmt_whole P bad_s = refl
stmt_whole P (set_s v x) = refl
stmt_whole P (put_s x n y) = refl
stmt_whole P (goto_s l) = refl
stmt_whole P (if_s l x) = refl
stmt_whole P (ifimm_s l v) = refl
stmt_whole P (iftag_s l v n) = refl
stmt_whole P (ifint_s l v n) = refl
stmt_whole P (return_s x) = refl
stmt_whole P (label_s l) = refl

-- lines of which the statements' names are those of the rules
abbrev pub Whole : Bool → Prog → List Stmt → Type 0
Whole trees P body = Each (λ st. stmt_named trees P st ≡ stmt_there P st) body

lines_whole : (trees : Bool) (P : Prog) (body : List Stmt) → Whole trees P body → map (line_named trees P) body ≡ map (name_stmt P) body
unfolding line_named name_stmt
lines_whole trees P [] h = refl
lines_whole trees P (st ∷ body) h = ap₂ ◌∷◌ (ap (λ (b : Bool). need 4 b (need 5 (label_suits P st) 0)) h.0) (lines_whole trees P body h.1)

pub names_whole : (trees : Bool) (P : Prog) → Whole trees P P.body → names_in trees P ≡ names P
unfolding names_in names
names_whole trees P h = rw (lines_whole trees P P.body h)

pub with_trees : (P : Prog) → names_in true P ≡ names P
with_trees P = names_whole true P (each P.body)
  where
    each : (body : List Stmt) → Whole true P body
    each [] = tt
    each (st ∷ body) = (stmt_whole P st, each body)
