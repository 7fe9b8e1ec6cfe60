-- Two programs: the answer to glue text and store text joined, and what the programs print. Assumes nothing.
use Rattle.std.specs.Prelude.{◌+◌, ◌/◌, ◌%◌, ◌∷◌, ◌++◌}
use Rattle.rules.specs.Machine.{Given}
use Rattle.rules.specs.Prelude.{ℕ, zero, suc, Bool, true, false, List, [], ltb, eqb, ℤ, pos, negsuc, get_or, take, drop, Answer, Int, Imm, Place, None, Some, State}
use Rattle.rules.specs.Prelude.Q
use Rattle.rules.specs.When.{One, when}
use Rattle.rules.specs.Bytes.{bytes}
use Rattle.rules.specs.Answers.{accepted, passes}
use Rattle.rules.specs.Text.Words.{agreed}
use Rattle.rules.specs.Program.{Prog}
use Rattle.rules.specs.View.{program}
use Rattle.rules.specs.Check.{Checked, checked, verdict, checks}
use Rattle.rules.specs.Machine.Tables.{MTables, datum_code, run_t}
use Rattle.rules.specs.declared.StoreTables.{StoreTables}
use Rattle.rules.specs.Store.{StoreOut, read_store, stores}

-- the first line starting `run=`: how many bytes come before it (all, if there is none); `fresh` where a line begins
unfoldable pub glue_bytes : Bool → List ℕ → ℕ
glue_bytes fresh [] = 0
glue_bytes true (b ∷ s) = when (eqb (agreed (bytes "run=") (b ∷ s)) 4) (λ _. 0) (λ _. suc (glue_bytes (eqb b 10) s))
glue_bytes false (b ∷ s) = suc (glue_bytes (eqb b 10) s)

unfoldable pub glue_of : List ℕ → List ℕ
glue_of s = take (glue_bytes true s) s

unfoldable pub store_text_of : List ℕ → List ℕ
store_text_of s = drop (glue_bytes true s) s

-- what the program prints: answer and line, state, steps, value (none: None)
pub record Result : Type 0 where
  pub answer : Answer
  pub state : State
  pub steps : ℕ
  pub value : Given

abbrev pub refused : Answer → Result
refused a = record { answer = a; state = Q.Refused; steps = 0; value = None }

-- a machine that stands before the first line
abbrev pub start : StoreTables → MTables
start o = record { size = o.size; heads = o.heads; cells = o.cells; vals = o.vals; at = 0; steps = 0; value = 0 }

abbrev pub state_of : Given → State
state_of None = Q.Running
state_of (Some d) = Q.Done

abbrev pub result_of : MTables → Result
result_of m = record { answer = accepted; state = state_of (datum_code m.value); steps = m.steps; value = datum_code m.value }

abbrev pub run_store : Prog → StoreOut → Result
run_store P o =
    when (passes o.answer)
    (λ _. result_of (run_t P (get_or o.tables.size 0 0) (start o.tables)))
    (λ _. refused o.answer)

abbrev pub run_checked : List ℕ → Checked → Result
run_checked s c =
    when (passes c.verdict)
    (λ _. run_store (program c.tables) (read_store (program c.tables) s))
    (λ _. refused c.verdict)

-- joined text: the glue is judged first; the store is looked at where the glue is accepted
unfoldable pub running : List ℕ → Result
running s = run_checked (store_text_of s) (checked (glue_of s))

-- ---- what the programs print

-- a number in decimal, no leading zero: `most` digits are enough
unfoldable pub digits_of : ℕ → ℕ → List ℕ
digits_of zero n = []
digits_of (suc most) n = when (ltb n 10) (λ _. (48 + n) ∷ []) (λ _. digits_of most (n / 10) ++ ((48 + n % 10) ∷ []))

unfoldable pub decimal : ℕ → List ℕ
decimal n = digits_of 20 n

unfoldable pub signed : ℤ → List ℕ
signed (pos n) = decimal n
signed (negsuc n) = bytes "-" ++ decimal (n + 1)

-- `cN`, `iN` or `bK` as in `arg`, or `none`
unfoldable pub value_text : Given → List ℕ
value_text None = bytes "none"
value_text (Some (Int n)) = bytes "c" ++ signed n.n
value_text (Some (Imm n)) = bytes "i" ++ signed n.n
value_text (Some (Place b o)) = bytes "b" ++ decimal b

abbrev pub state_text : State → List ℕ
state_text Q.Refused = bytes "none"
state_text Q.Running = bytes "running"
state_text Q.Done = bytes "done"

unfoldable pub answer_text : Answer → List ℕ
answer_text a = bytes "answer=" ++ decimal a.number ++ bytes "\nline=" ++ decimal a.line ++ bytes "\n"

unfoldable pub result_text : Result → List ℕ
result_text r =
    answer_text r.answer ++ bytes "state=" ++ state_text r.state ++ bytes "\nsteps=" ++ decimal r.steps ++ bytes "\nvalue=" ++ value_text r.value ++ bytes "\n"

-- the checking program, and the running program: from what they read to what they print
unfoldable pub check_prints : List ℕ → List ℕ
check_prints s = answer_text (verdict s)

unfoldable pub run_prints : List ℕ → List ℕ
run_prints s = result_text (running s)

-- to compute with what stands here
unfoldable pub runs : One
unfolding checks stores glue_bytes glue_of store_text_of running digits_of decimal signed value_text answer_text result_text check_prints run_prints
runs = tt
