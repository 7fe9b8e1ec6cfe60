-- Typing, the statements: the rule of each, 6 to 12 line by line, then 13. Assumes nothing.
use Rattle.std.specs.Prelude.{◌+◌, ◌&&◌, ◌∷◌, ◌++◌}
use Rattle.rules.specs.Typing.{Judged}
use Rattle.rules.specs.Typing.{Addr}
use Rattle.rules.specs.Prelude.{ℕ, Bool, true, false, List, [], map, ltb, length, Num, Boxed, Entry, Env, Kind, Cint, Value, Answer, Err, Ok, Line}
use Rattle.rules.specs.Prelude.B
use Rattle.rules.specs.Prelude.G
use Rattle.rules.specs.When.{need, One, when}
use Rattle.rules.specs.Numbers.{among, suits}
use Rattle.rules.specs.Answers.{first, accepted, answer, answers}
use Rattle.rules.specs.Program.{Rows, Var, Stmt, bad_s, set_s, put_s, goto_s, if_s, ifimm_s, iftag_s, ifint_s, return_s, label_s, Label, Prog, is_zero, psi_of, prods_of, field_of, same_kind, kind_at}
use Rattle.rules.specs.Typing.{typing, ty_var, address_of, type}
use Rattle.rules.specs.Environments.{environments, with_entry, with_boxed, with_tag, label_env, start_env, covers}

-- ---- lines: an answer (0 goes on), whether the next line is reached, and with what environment

abbrev pub goes : Bool → Env → Line
goes b Γ = record { answer = 0; live = b; env = Γ }

abbrev pub refuse : ℕ → Env → Line
refuse n Γ = record { answer = n; live = false; env = Γ }

-- a jump with the environment Δ is covered (11); then on
abbrev pub jump : List Label → ℕ → Env → Env → Line → Line
jump L l Δ Γ x = need (refuse 11 Γ) (ltb l (length L) && covers L l Δ) x

abbrev pub is_box : Boxed → Bool
is_box B.Block = true
is_box B.Either = false
is_box B.Imm = false

abbrev pub is_imm : Boxed → Bool
is_imm B.Imm = true
is_imm B.Either = false
is_imm B.Block = false

-- `set`: same kind and row (6); the variable takes E's entry
unfoldable pub rule_set : List Var → ℕ → Judged → Env → Line
rule_set D v (Err n) Γ = refuse n Γ
rule_set D v (Ok (k, e)) Γ = need (refuse 6 Γ) (same_kind k (kind_at D v)) (goes true (with_entry Γ v e))

-- `put=A N E`: A and E judged, then A addressed with amount N, then E a value of the field's row (6), offset 0 (10)
abbrev pub put_at : Rows → ℕ → Kind → Entry → Addr → Env → Line
put_at ρ r l d (Err n) Γ = refuse n Γ
put_at ρ r l d (Ok (t, o)) Γ = need (refuse 6 Γ) (same_kind l (Value (field_of ρ r t o))) (need (refuse 10 Γ) (is_zero d.offset) (goes true Γ))

unfoldable pub rule_put : Rows → Num → Judged → Judged → Env → Line
rule_put ρ m (Err n) y Γ = refuse n Γ
rule_put ρ m (Ok (k, e)) (Err n) Γ = refuse n Γ
rule_put ρ m (Ok (Cint, e)) (Ok (l, d)) Γ = refuse 6 Γ
rule_put ρ m (Ok (Value r, e)) (Ok (l, d)) Γ = put_at ρ r l d (address_of ρ r e (G.Known m)) Γ

unfoldable pub rule_goto : List Label → ℕ → Env → Line
rule_goto L l Γ = jump L l Γ Γ (goes false Γ)

-- `if`: E int (6)
unfoldable pub rule_if : List Label → ℕ → Judged → Env → Line
rule_if L l (Err n) Γ = refuse n Γ
rule_if L l (Ok (Value r, e)) Γ = refuse 6 Γ
rule_if L l (Ok (Cint, e)) Γ = jump L l Γ Γ (goes true Γ)

-- `ifimm`: value (6), I 0 (10); jumping B is `imm`, falling `box`
unfoldable pub rule_ifimm : List Label → ℕ → ℕ → Judged → Env → Line
rule_ifimm L l v (Err n) Γ = refuse n Γ
rule_ifimm L l v (Ok (Cint, e)) Γ = refuse 6 Γ
rule_ifimm L l v (Ok (Value r, e)) Γ =
    need (refuse 10 Γ) (is_zero e.offset)
    (jump L l (with_entry Γ v (with_boxed e B.Imm)) Γ (goes true (with_entry Γ v (with_boxed e B.Block))))

-- `iftag`: value (6), I 0 (10), B `box` (7), tag exists (8); jumping T is N; falls through unchanged
unfoldable pub rule_iftag : Rows → List Label → ℕ → ℕ → Num → Judged → Env → Line
rule_iftag ρ L l v n (Err a) Γ = refuse a Γ
rule_iftag ρ L l v n (Ok (Cint, e)) Γ = refuse 6 Γ
rule_iftag ρ L l v n (Ok (Value r, e)) Γ =
    need (refuse 10 Γ) (is_zero e.offset)
    (need (refuse 7 Γ) (is_box e.boxed)
    (need (refuse 8 Γ) (among n.n (prods_of ρ r)) (jump L l (with_entry Γ v (with_tag e n)) Γ (goes true Γ))))

-- `ifint`: value (6), I 0 (10), B `imm` (7), N suits (9); jumping T is N; falls through unchanged
unfoldable pub rule_ifint : Rows → List Label → ℕ → ℕ → Num → Judged → Env → Line
rule_ifint ρ L l v n (Err a) Γ = refuse a Γ
rule_ifint ρ L l v n (Ok (Cint, e)) Γ = refuse 6 Γ
rule_ifint ρ L l v n (Ok (Value r, e)) Γ =
    need (refuse 10 Γ) (is_zero e.offset)
    (need (refuse 7 Γ) (is_imm e.boxed)
    (need (refuse 9 Γ) (suits (psi_of ρ r) n)
    (jump L l (with_entry Γ v (with_tag e n)) Γ (goes true Γ))))

-- `return`: kind and row of `ret` (6), I 0 (10)
unfoldable pub rule_return : Kind → Judged → Env → Line
rule_return ret (Err n) Γ = refuse n Γ
rule_return ret (Ok (k, e)) Γ = need (refuse 6 Γ) (same_kind k ret) (need (refuse 10 Γ) (is_zero e.offset) (goes false Γ))

-- what falls into a label must be covered (11); after a label its own environment holds
unfoldable pub rule_label : Prog → ℕ → Bool → Env → Line
rule_label P l true Γ = need (refuse 11 Γ) (covers P.labels l Γ) (goes true (label_env P l))
rule_label P l false Γ = goes true (label_env P l)

-- a body line after `goto` or `return` that is no label (12)
abbrev pub reached : Bool → Env → Line → Line
reached true Γ x = x
reached false Γ x = refuse 12 Γ

unfoldable pub line_of : Prog → Bool → Env → Stmt → Line
line_of P b Γ bad_s = refuse 4 Γ
line_of P b Γ (set_s v x) = reached b Γ (rule_set P.vars v (type P.rows P.vars Γ x) Γ)
line_of P b Γ (put_s x n y) = reached b Γ (rule_put P.rows n (type P.rows P.vars Γ x) (type P.rows P.vars Γ y) Γ)
line_of P b Γ (goto_s l) = reached b Γ (rule_goto P.labels l Γ)
line_of P b Γ (if_s l x) = reached b Γ (rule_if P.labels l (type P.rows P.vars Γ x) Γ)
line_of P b Γ (ifimm_s l v) = reached b Γ (rule_ifimm P.labels l v (ty_var P.vars Γ v) Γ)
line_of P b Γ (iftag_s l v n) = reached b Γ (rule_iftag P.rows P.labels l v n (ty_var P.vars Γ v) Γ)
line_of P b Γ (ifint_s l v n) = reached b Γ (rule_ifint P.rows P.labels l v n (ty_var P.vars Γ v) Γ)
line_of P b Γ (return_s x) = reached b Γ (rule_return P.ret (type P.rows P.vars Γ x) Γ)
line_of P b Γ (label_s l) = rule_label P l b Γ

-- ---- the lines, in order

-- a value local's N suits (9)
abbrev pub local_ok : Rows → Kind → Num → ℕ
local_ok ρ Cint n = 0
local_ok ρ (Value r) n = need 9 (suits (psi_of ρ r) n) 0

unfoldable pub local_line : Rows → Var → ℕ
local_line ρ d = when d.is_local (λ _. local_ok ρ d.kind d.number) (λ _. 0)

-- the numbers of the body lines, each judged in the environment that the line before it leaves
abbrev pub onward : (Bool → Env → List ℕ) → Line → List ℕ
onward rest x = x.answer ∷ rest x.live x.env

unfoldable pub body_numbers : Prog → List Stmt → Bool → Env → List ℕ
body_numbers P [] b Γ = []
body_numbers P (st ∷ body) b Γ = onward (body_numbers P body) (line_of P b Γ st)

-- 6 to 12 line by line, `local` lines among them; the variables stand after `ret` and the rows
unfoldable pub types : Prog → Answer
types P = first (2 + length P.rows) (map (local_line P.rows) P.vars ++ body_numbers P P.body true (start_env P.vars))

-- ---- 13: the last line of the file is neither `goto` nor `return`

unfoldable pub last_of : List Stmt → Stmt
last_of [] = bad_s
last_of (st ∷ []) = st
last_of (st ∷ next ∷ body) = last_of (next ∷ body)

abbrev pub is_end : Stmt → Bool
is_end bad_s = false
is_end (set_s v x) = false
is_end (put_s x n y) = false
is_end (goto_s l) = true
is_end (if_s l x) = false
is_end (ifimm_s l v) = false
is_end (iftag_s l v n) = false
is_end (ifint_s l v n) = false
is_end (return_s x) = true
is_end (label_s l) = false

abbrev pub last_line : Prog → ℕ
last_line P = 1 + length P.rows + length P.vars + length P.body

unfoldable pub ends : Prog → Answer
ends P = need (answer 13 (last_line P)) (is_end (last_of P.body)) accepted

-- to compute with what stands here
unfoldable pub bodies : One
unfolding answers typing environments rule_set rule_put rule_goto rule_if rule_ifimm rule_iftag rule_ifint rule_return rule_label line_of local_line body_numbers types last_of ends
bodies = tt
