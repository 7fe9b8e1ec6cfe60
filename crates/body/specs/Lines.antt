-- The body lines of the tables. A label takes the environment that stands in its place in the table, whether it is there or not;
-- every other line is as the rules say, and so is a label that is there (`There`). For the rules an absent label's environment has no entry at all,
-- and code has no such environment: each has an entry for all 32 variables. Assumes nothing.
use Rattle.std.specs.Prelude.{◌+◌, ◌∷◌, ◌++◌, ◌≡◌}
use Rattle.rules.specs.Prelude.{ℕ, Bool, true, false, List, [], map, length, eqb, Result, Ok, Err}
use Rattle.rules.specs.declared.Env.{Env}
use Rattle.rules.specs.declared.Line.{Line}
use Rattle.rules.specs.declared.Way.{Way}
use Rattle.rules.specs.declared.Way.TheVariants as W
use Rattle.rules.specs.declared.Answer.{Answer}
use Rattle.rules.specs.When.{when, need}
use Rattle.rules.specs.Answers.{first}
use Rattle.rules.specs.declared.Tables.{Tables}
use Rattle.rules.specs.Typing.{Judged, type}
use Rattle.rules.specs.Program.{Stmt, bad_s, set_s, put_s, goto_s, if_s, ifimm_s, iftag_s, ifint_s, return_s, label_s}
use Rattle.rules.specs.View.{tree_of, tree_at, rows_from, vars_from, body_from, stmt_from, program}
use Rattle.rules.specs.Environments.{covers_env, with_entry, start_env}
use Rattle.rules.specs.Body.{goes, refuse, line_of, local_line, onward}
use Rattle.program.specs.Labels.{env_from}
use Rattle.body.specs.declared.Then.{Then}
use Rattle.body.specs.declared.Then.TheVariants.{Ends, Stays, Takes, Label}

-- the lines with one expression
abbrev pub HasOne : Way → Type 0
HasOne W.Absent = ⊥
HasOne W.Set = Unit
HasOne W.Put = ⊥
HasOne W.Goto = ⊥
HasOne W.If = Unit
HasOne W.IfImm = ⊥
HasOne W.IfTag = ⊥
HasOne W.IfInt = ⊥
HasOne W.Return = Unit
HasOne W.Label = ⊥

-- what the expression at node k is judged as
abbrev pub judged_at : Tables → Env → ℕ → Judged
judged_at t Γ k = type (rows_from t.size t.rows) (vars_from t.size t.vars) Γ (tree_of (tree_at t.nodes 16 k))

-- what a line that does x is, of one that began with Γ, where the labels stand in L and there are m variables
abbrev pub line_by : List ℕ → ℕ → Env → Result Then ℕ → Line
line_by L m Γ (Err n) = refuse n Γ
line_by L m Γ (Ok Ends) = goes false Γ
line_by L m Γ (Ok Stays) = goes true Γ
line_by L m Γ (Ok (Takes v e)) = goes true (with_entry Γ v e)
line_by L m Γ (Ok (Label l)) = goes true (env_from L l m)

-- x is what the line z does, of one that began with Γ, wherever the labels stand and however many variables there are
abbrev pub Does : Env → Result Then ℕ → Line → Type 0
Does Γ x z = (L : List ℕ) (m : ℕ) → line_by L m Γ x ≡ z

-- a line's number as code hands it on: nothing where it is 0, and else as an error
abbrev pub number_out : ℕ → Result Unit ℕ
number_out n = when (eqb n 0) (λ _. Ok tt) (λ _. Err n)

-- what falls into a label with the environment Δ is covered (11); after it Δ holds
unfoldable pub label_line : Env → Bool → Env → Line
label_line Δ true Γ = need (refuse 11 Γ) (covers_env Δ Γ) (goes true Δ)
label_line Δ false Γ = goes true Δ

unfoldable pub line_in : Tables → Bool → Env → Stmt → Line
line_in t b Γ bad_s = line_of (program t) b Γ bad_s
line_in t b Γ (set_s v x) = line_of (program t) b Γ (set_s v x)
line_in t b Γ (put_s x n y) = line_of (program t) b Γ (put_s x n y)
line_in t b Γ (goto_s l) = line_of (program t) b Γ (goto_s l)
line_in t b Γ (if_s l x) = line_of (program t) b Γ (if_s l x)
line_in t b Γ (ifimm_s l v) = line_of (program t) b Γ (ifimm_s l v)
line_in t b Γ (iftag_s l v n) = line_of (program t) b Γ (iftag_s l v n)
line_in t b Γ (ifint_s l v n) = line_of (program t) b Γ (ifint_s l v n)
line_in t b Γ (return_s x) = line_of (program t) b Γ (return_s x)
line_in t b Γ (label_s l) = label_line (env_from t.labels l (length (vars_from t.size t.vars))) b Γ

-- body line i
unfoldable pub line_at : Tables → Bool → Env → ℕ → Line
line_at t b Γ i = line_in t b Γ (stmt_from t.nodes t.body i)

-- the numbers of the lines, each judged in the environment that the line before it leaves
unfoldable pub numbers_in : Tables → List Stmt → Bool → Env → List ℕ
numbers_in t [] b Γ = []
numbers_in t (st ∷ body) b Γ = onward (numbers_in t body) (line_in t b Γ st)

-- 6 to 12: the variables, which stand after `ret` and the rows; then the body
unfoldable pub locals_in : Tables → Answer
locals_in t = first (2 + length (rows_from t.size t.rows)) (map (local_line (rows_from t.size t.rows)) (vars_from t.size t.vars))

unfoldable pub lines_in : Tables → Answer
lines_in t =
    first (2 + length (rows_from t.size t.rows) + length (vars_from t.size t.vars))
    (numbers_in t (body_from t.size t.nodes t.body) true (start_env (vars_from t.size t.vars)))

unfoldable pub types_in : Tables → Answer
types_in t =
    first (2 + length (rows_from t.size t.rows))
    (map (local_line (rows_from t.size t.rows)) (vars_from t.size t.vars)
    ++ numbers_in t (body_from t.size t.nodes t.body) true (start_env (vars_from t.size t.vars)))
