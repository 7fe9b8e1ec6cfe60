-- A case: what a program prints for a text, and what it is to print. A list of cases holds if none of them differs. Assumes nothing.
use Rattle.std.specs.Prelude.{◌+◌, ◌∷◌, ◌++◌}
use Rattle.rules.specs.Prelude.{ℕ, zero, suc, Bool, true, false, List, [], eqb}
use Rattle.rules.specs.When.{when}
use Rattle.rules.specs.Bytes.{bytes}
use Rattle.rules.specs.Answers.{answer}
use Rattle.rules.specs.Run.{answer_text, check_prints, run_prints}
use Prim.Native.String.{String}

pub record Case : Type 0 where
  pub prints : List ℕ
  pub wanted : List ℕ

-- a glue text, and the number and line of its answer
abbrev pub glue : List ℕ → ℕ → ℕ → Case
glue text number line = record { prints = check_prints text; wanted = answer_text (answer number line) }

-- a joined text that is refused
abbrev pub refused : List ℕ → ℕ → ℕ → Case
refused text number line = record { prints = run_prints text; wanted = answer_text (answer number line) ++ bytes "state=none\nsteps=0\nvalue=none\n" }

-- a joined text that is run
abbrev pub runs_to : List ℕ → String → Case
runs_to text rest = record { prints = run_prints text; wanted = bytes "answer=0\nline=0\n" ++ bytes rest }

-- a text so many times, and then another
abbrev pub times : ℕ → List ℕ → List ℕ → List ℕ
times zero w rest = rest
times (suc n) w rest = w ++ times n w rest

abbrev pub same : List ℕ → List ℕ → Bool
same [] [] = true
same [] (b ∷ t) = false
same (a ∷ s) [] = false
same (a ∷ s) (b ∷ t) = when (eqb a b) (λ _. same s t) (λ _. false)

-- the places, from `at` on, of the cases that differ
unfoldable pub differing : ℕ → List Case → List ℕ
differing at [] = []
differing at (c ∷ rest) = when (same c.prints c.wanted) (λ _. differing (at + 1) rest) (λ _. at ∷ differing (at + 1) rest)
