-- From two texts: an accepted glue text and a store text that passes start a machine that never goes wrong. Assumes nothing.
use Rattle.std.proofs.Common.{arith as lin}
use Rattle.std.specs.Prelude.{T}
use Rattle.std.specs.Prelude.{◌+◌, ◌<◌, ◌≡◌}
use Rattle.rules.specs.Machine.{Given}
use Rattle.rules.specs.Prelude.{ℕ, List, refl, sym, ap, subst, ◌∙◌, length, get_or, None, Some, Act}
use Rattle.rules.specs.Prelude.D
use Rattle.rules.specs.Prelude.S
use Rattle.rules.specs.Answers.{accepted}
use Rattle.rules.specs.declared.Tables.{Tables}
use Rattle.rules.specs.Program.{Prog, kind_at, loosest, no_entry}
use Rattle.rules.specs.View.{program}
use Rattle.rules.specs.Check.{check, checked, verdict}
use Rattle.rules.specs.Machine.Tables.{MTables, machine, run_t, store_of, vals_of, datum_code}
use Rattle.rules.specs.Machine.{Machine, says, decide, says_act, run_of}
use Rattle.rules.specs.Fits.{Entered, unreached, entered, env_at}
use Rattle.rules.specs.declared.StoreTables.{StoreTables}
use Rattle.rules.specs.Store.Fill.{fill_store}
use Rattle.rules.specs.Store.{read_store}
use Rattle.rules.specs.Run.{start}
use Rattle.rules.specs.Wrong.{GoesOn, VariablesFit, SameBlocks, NotWrong}
use Rattle.rules.proofs.Laws.Accepts.{verdict_exactly, accepted_tables}
use Rattle.rules.proofs.Laws.Steps.{count_until_return, run_same}
use Rattle.rules.proofs.Sound.Facts.{→fits}
use Rattle.rules.proofs.Sound.Run.{sound, Safe, SafeValue, NotStuck, GoodAt, before}
use Rattle.rules.proofs.Sound.StepTables.{run_tables}
use Rattle.rules.proofs.Sound.Starts.{Passed, text_passed, fill_roomy, start_good, program_sized}

-- ---- a safe machine has not gone wrong

moves : (a : Act) → NotStuck a → says_act a ≡ S.Moved
moves D.Fall h = refl
moves (D.Jump i) h = refl
moves (D.SetVar v d) h = refl
moves (D.SetCell b o d) h = refl
moves (D.Give d) h = refl
moves D.Stuck h = elim h [ ]

goes_on : (P : Prog) (m : Machine) (g : Given) → m.value ≡ g → SafeValue P m g → GoesOn P m g
unfolding says
goes_on P m None e h = rw e (moves (decide P m.store m.vals m.at) h)
goes_on P m (Some d) e h = →fits P.rows m.store P.ret loosest (Some d) h

variables_fit : (P : Prog) (m : Machine) (E : Entered) → GoodAt P E m.vals m.store → VariablesFit P m E
variables_fit P m unreached h = h
variables_fit P m (entered Γ) h = λ v k. →fits P.rows m.store (kind_at P.vars v) (get_or Γ.entries v no_entry) (get_or m.vals v None) (h.vars.each v k)

pub not_wrong : (P : Prog) (from m : Machine) → Safe P m → SameBlocks from.store m.store → NotWrong P from m
not_wrong P from m h k = record { goes_on = goes_on P m m.value refl h.value; variables = variables_fit P m (env_at P m.at) h.fits; blocks = k }

-- ---- from the texts

module _ (T : Tables) (ok : check (program T) ≡ accepted) (s : List ℕ) (p : Passed (program T) s) where
  abbrev P : Prog
  P = program T

  abbrev first : MTables
  first = start (fill_store s P.vars p.count)

  starts_before : machine P first ≡ before (vals_of (length P.vars) first.vals) (store_of first.size first.heads first.cells)
  unfolding machine datum_code
  starts_before = refl

  ran : (n : ℕ) → machine P (run_t P n first) ≡ run_of P n (machine P first)
  ran n = run_tables T n first (fill_roomy s P.vars p.count)

  safe : (n : ℕ) → Safe P (run_of P n (machine P first))
  safe n = rw starts_before (sound P (program_sized T) ok (vals_of (length P.vars) first.vals) (store_of first.size first.heads first.cells) (start_good T ok s p) n)

  never_wrong : (n : ℕ) → NotWrong P (machine P first) (machine P (run_t P n first))
  never_wrong n = rw (ran n) (not_wrong P (machine P first) (run_of P n (machine P first)) (safe n) (run_same P n (machine P first)))

  -- until the return the count is the number of steps
  counts : (n : ℕ) → (machine P (run_t P n first)).value ≡ None → (machine P (run_t P n first)).steps ≡ n
  counts n = rw (ran n) (λ e. count_until_return P n (machine P first) moving e ∙ started)
    where
      moving : (k : ℕ) → k < n → (run_of P k (machine P first)).value ≡ None → says P (run_of P k (machine P first)) ≡ S.Moved
      moving k l q = goes_on P (run_of P k (machine P first)) None q (subst (λ (g : Given). SafeValue P (run_of P k (machine P first)) g) q (safe k).value)

      started : (machine P first).steps + n ≡ n
      started = let z : (machine P first).steps ≡ 0 = ap (λ (m : Machine). m.steps) starts_before in omega lin

-- ---- the tables that a store text is read into

-- what holds of the machine that is started from what was written holds of the one that is started from what was read
from_read : (Q : Prog → MTables → Type 0) → ((T : Tables) → check (program T) ≡ accepted → (s : List ℕ) (p : Passed (program T) s) → Q (program T) (start (fill_store s (program T).vars p.count)))
    → (T : Tables) → check (program T) ≡ accepted → (s : List ℕ) → (read_store (program T) s).answer ≡ accepted → Q (program T) (start (read_store (program T) s).tables)
from_read Q f T ok s h =
    let p : Passed (program T) s = text_passed (program T) s h in
    subst (λ (o : StoreTables). Q (program T) (start o)) (sym p.tables) (f T ok s p)

pub passed_never_wrong : (T : Tables) → check (program T) ≡ accepted → (s : List ℕ) → (read_store (program T) s).answer ≡ accepted
    → (n : ℕ) → NotWrong (program T) (machine (program T) (start (read_store (program T) s).tables)) (machine (program T) (run_t (program T) n (start (read_store (program T) s).tables)))
passed_never_wrong = from_read (λ P t. (n : ℕ) → NotWrong P (machine P t) (machine P (run_t P n t))) never_wrong

pub passed_counts : (T : Tables) → check (program T) ≡ accepted → (s : List ℕ) → (read_store (program T) s).answer ≡ accepted
    → (n : ℕ) → (machine (program T) (run_t (program T) n (start (read_store (program T) s).tables))).value ≡ None → (machine (program T) (run_t (program T) n (start (read_store (program T) s).tables))).steps ≡ n
passed_counts = from_read (λ P t. (n : ℕ) → (machine P (run_t P n t)).value ≡ None → (machine P (run_t P n t)).steps ≡ n) counts

-- an accepted text's tables hold an accepted program
pub accepted_check : (glue : List ℕ) → verdict glue ≡ accepted → check (program (checked glue).tables) ≡ accepted
accepted_check glue h = rw (accepted_tables glue h) ((verdict_exactly glue).0 h).1
