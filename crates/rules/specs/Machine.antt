-- The machine: a datum, a block, what an expression gives, what a line does, steps and runs. Assumes nothing.
pub mod Tables
use Rattle.std.specs.Prelude.{◌+◌, ◌&&◌, ◌+ℤ◌}
use Rattle.rules.specs.Prelude.{ℕ, zero, suc, Bool, true, false, not, List, [], ltb, eqb, ℤ, pos, negsuc, length, get_or, set, Num, Op, Datum, Int, Imm, Place, None, Some, Act, Stepped, Option}
use Rattle.rules.specs.Prelude.D
use Rattle.rules.specs.Prelude.S
use Rattle.rules.specs.When.{need, One}
use Rattle.rules.specs.Numbers.{zero_n, eq_z, same_num, arith_of}
use Rattle.rules.specs.Program.{Rows, row_there, label_there, label_at, Expr, bad, lit, var, arith, val, int, fetch, step, Stmt, bad_s, set_s, put_s, goto_s, if_s, ifimm_s, iftag_s, ifint_s, return_s, label_s, Prog}

-- what an expression gives, and what a cell or a variable holds: a datum, or nothing
abbrev pub Given : Type 0
Given = Option Datum

-- a block has a tag and cells; its row is kept beside it and no step reads it. A cell or a variable of a mangled table may hold nothing (None)
pub record Block : Type 0 where
  pub row : ℕ
  pub tag : ℕ
  pub cells : List Given

abbrev pub Store : Type 0
Store = List Block

-- ---- the store's parts, by number

abbrev pub no_block : Block
no_block = record { row = 0; tag = 0; cells = [] }

abbrev pub block_at : Store → ℕ → Block
block_at s b = get_or s b no_block

unfoldable pub row_in : Store → ℕ → ℕ
row_in s b = (block_at s b).row

unfoldable pub tag_in : Store → ℕ → ℕ
tag_in s b = (block_at s b).tag

unfoldable pub cells_in : Store → ℕ → ℕ
cells_in s b = length (block_at s b).cells

-- a place that lies inside its block
abbrev pub inside : Store → ℕ → ℕ → Bool
inside s b o = ltb b (length s) && ltb o (cells_in s b)

unfoldable pub cell_at : Store → ℕ → ℕ → Given
cell_at s b o = get_or (block_at s b).cells o None

-- ---- the kinds of data that a form needs; with any other, and with none, it is stuck

abbrev pub need_int : {A : Type 0} → A → Given → (Num → A) → A
need_int stuck None go = stuck
need_int stuck (Some (Int n)) go = go n
need_int stuck (Some (Imm n)) go = stuck
need_int stuck (Some (Place b o)) go = stuck

abbrev pub need_imm : {A : Type 0} → A → Given → (Num → A) → A
need_imm stuck None go = stuck
need_imm stuck (Some (Int n)) go = stuck
need_imm stuck (Some (Imm n)) go = go n
need_imm stuck (Some (Place b o)) go = stuck

abbrev pub need_place : {A : Type 0} → A → Given → (ℕ → ℕ → A) → A
need_place stuck None go = stuck
need_place stuck (Some (Int n)) go = stuck
need_place stuck (Some (Imm n)) go = stuck
need_place stuck (Some (Place b o)) go = go b o

-- ---- expressions. Arithmetic, `val` and amounts need a C int; `int` an immediate; `fetch` and `step` a place

unfoldable pub ev_var : List Given → ℕ → Given
ev_var δ v = get_or δ v None

unfoldable pub ev_arith : Op → Given → Given → Given
ev_arith o x y = need_int None x (λ a. need_int None y (λ c. Some (Int (arith_of o a c))))

-- `val` makes an immediate, `int` the reverse; `val` of a row that is absent is stuck
unfoldable pub ev_val : Rows → ℕ → Given → Given
ev_val ρ r x = need_int None x (λ n. need None (row_there ρ r) (Some (Imm n)))

unfoldable pub ev_int : Given → Given
ev_int x = need_imm None x (λ n. Some (Int n))

-- `fetch` reads the cell at a place
unfoldable pub ev_fetch : Store → Given → Given
ev_fetch s x = need_place None x (λ b o. need None (inside s b o) (cell_at s b o))

-- `step` moves the offset by the amount, over whole numbers
unfoldable pub moved : Store → ℕ → ℤ → Given
moved s b (pos o) = need None (inside s b o) (Some (Place b o))
moved s b (negsuc o) = None

unfoldable pub ev_step : Store → Given → Given → Given
ev_step s x y = need_place None x (λ b o. need_int None y (λ m. moved s b (pos o +ℤ m.n)))

unfoldable pub eval : Rows → Store → List Given → Expr → Given
eval ρ s δ bad = None
eval ρ s δ (lit n) = Some (Int n)
eval ρ s δ (var v) = ev_var δ v
eval ρ s δ (arith o x y) = ev_arith o (eval ρ s δ x) (eval ρ s δ y)
eval ρ s δ (val r x) = ev_val ρ r (eval ρ s δ x)
eval ρ s δ (int x) = ev_int (eval ρ s δ x)
eval ρ s δ (fetch x) = ev_fetch s (eval ρ s δ x)
eval ρ s δ (step x y) = ev_step s (eval ρ s δ x) (eval ρ s δ y)

-- ---- lines: what is to be done

-- a jump goes to the label line, else the next line follows; a line that names an absent label is stuck
abbrev pub jump_if : Bool → Prog → ℕ → Act
jump_if true P l = D.Jump (label_at P.labels l).line
jump_if false P l = D.Fall

unfoldable pub jump_on : Prog → ℕ → Bool → Act
jump_on P l c = need D.Stuck (label_there P l) (jump_if c P l)

-- `set` and `return` take any
unfoldable pub act_set : List Given → ℕ → Given → Act
act_set δ v None = D.Stuck
act_set δ v (Some d) = need D.Stuck (ltb v (length δ)) (D.SetVar v d)

-- `put` needs a place, moved as by `step`, and what it stores is an immediate or a place
abbrev pub store_at : ℕ → ℕ → Given → Act
store_at b o None = D.Stuck
store_at b o (Some (Int n)) = D.Stuck
store_at b o (Some (Imm n)) = D.SetCell b o (Imm n)
store_at b o (Some (Place c i)) = D.SetCell b o (Place c i)

unfoldable pub act_put : Store → Num → Given → Given → Act
act_put s m x y = need_place D.Stuck x (λ b o. need_place D.Stuck (moved s b (pos o +ℤ m.n)) (λ c i. store_at c i y))

-- `if` needs a C int and jumps on any number but 0
unfoldable pub act_if : Prog → ℕ → Given → Act
act_if P l x = need_int D.Stuck x (λ n. jump_on P l (not (same_num n zero_n)))

-- `ifimm` needs an immediate or a place and jumps on an immediate
unfoldable pub act_ifimm : Prog → ℕ → Given → Act
act_ifimm P l None = D.Stuck
act_ifimm P l (Some (Int n)) = D.Stuck
act_ifimm P l (Some (Imm n)) = jump_on P l true
act_ifimm P l (Some (Place b o)) = jump_on P l false

-- `iftag` needs a place at offset 0 and jumps on the tag named
unfoldable pub act_iftag : Prog → Store → ℕ → Num → Given → Act
act_iftag P s l n x = need_place D.Stuck x (λ b o. need D.Stuck (eqb o 0 && ltb b (length s)) (jump_on P l (eq_z (pos (tag_in s b)) n.n)))

-- `ifint` needs an immediate and jumps on the one named
unfoldable pub act_ifint : Prog → ℕ → Num → Given → Act
act_ifint P l n x = need_imm D.Stuck x (λ m. jump_on P l (same_num m n))

abbrev pub act_return : Given → Act
act_return None = D.Stuck
act_return (Some d) = D.Give d

unfoldable pub act : Prog → Store → List Given → Stmt → Act
act P s δ bad_s = D.Stuck
act P s δ (set_s v x) = act_set δ v (eval P.rows s δ x)
act P s δ (put_s x n y) = act_put s n (eval P.rows s δ x) (eval P.rows s δ y)
act P s δ (goto_s l) = jump_on P l true
act P s δ (if_s l x) = act_if P l (eval P.rows s δ x)
act P s δ (ifimm_s l v) = act_ifimm P l (ev_var δ v)
act P s δ (iftag_s l v n) = act_iftag P s l n (ev_var δ v)
act P s δ (ifint_s l v n) = act_ifint P l n (ev_var δ v)
act P s δ (return_s x) = act_return (eval P.rows s δ x)
act P s δ (label_s l) = jump_on P l false

-- what the line at a place of the body does; stuck where the lines run out
unfoldable pub decide : Prog → Store → List Given → ℕ → Act
decide P s δ i = act P s δ (get_or P.body i bad_s)

-- ---- steps and runs

pub record Machine : Type 0 where
  pub at : ℕ
  pub steps : ℕ
  pub value : Given
  pub vals : List Given
  pub store : Store

unfoldable pub set_cell : Store → ℕ → ℕ → Datum → Store
set_cell s b o d = set s b (record { row = (block_at s b).row; tag = (block_at s b).tag; cells = set (block_at s b).cells o (Some d) })

-- one step more, at a line, with variables and a store
abbrev pub moves : Machine → ℕ → List Given → Store → Machine
moves m i δ s = record { at = i; steps = m.steps + 1; value = m.value; vals = δ; store = s }

-- each line is one step, and a stuck one changes nothing; a returned machine stands at its `return`
unfoldable pub apply : Act → Machine → Machine
apply D.Stuck m = m
apply D.Fall m = moves m (m.at + 1) m.vals m.store
apply (D.Jump i) m = moves m i m.vals m.store
apply (D.SetVar v d) m = moves m (m.at + 1) (set m.vals v (Some d)) m.store
apply (D.SetCell b o d) m = moves m (m.at + 1) m.vals (set_cell m.store b o d)
apply (D.Give d) m = record { at = m.at; steps = m.steps + 1; value = Some d; vals = m.vals; store = m.store }

abbrev pub step_from : Prog → Machine → Given → Machine
step_from P m None = apply (decide P m.store m.vals m.at) m
step_from P m (Some d) = m

-- a returned machine stays as it is and counts no more
unfoldable pub step_of : Prog → Machine → Machine
step_of P m = step_from P m m.value

unfoldable pub run_of : Prog → ℕ → Machine → Machine
run_of P zero m = m
run_of P (suc n) m = run_of P n (step_of P m)

-- what a step says: moved, stuck, or returned before it
abbrev pub says_act : Act → Stepped
says_act D.Stuck = S.Stuck
says_act D.Fall = S.Moved
says_act (D.Jump i) = S.Moved
says_act (D.SetVar v d) = S.Moved
says_act (D.SetCell b o d) = S.Moved
says_act (D.Give d) = S.Moved

abbrev pub says_from : Prog → Machine → Given → Stepped
says_from P m None = says_act (decide P m.store m.vals m.at)
says_from P m (Some d) = S.Returned

unfoldable pub says : Prog → Machine → Stepped
says P m = says_from P m m.value

-- to compute with what stands here
unfoldable pub machines : One
unfolding row_in tag_in cells_in cell_at ev_var ev_arith ev_val ev_int ev_fetch moved ev_step eval jump_on act_set act_put act_if act_ifimm act_iftag act_ifint act decide set_cell apply step_of run_of says
machines = tt
