-- A body line as its five numbers, in the order in which they stand; and six lists as a program's tables. Assumes nothing.
use Rattle.rules.specs.Prelude.{ℕ, Bool, false, List, eqb}
use Rattle.rules.specs.When.{when}
use Rattle.rules.specs.declared.Tables.{Tables}
use Rattle.rules.specs.Text.Layout.{cell, line_width}
use Rattle.program.specs.declared.Stored.{Stored}

unfoldable pub stored_at : List ℕ → ℕ → Stored
stored_at B i =
    record {
      kind = cell B line_width i 0;
      label = cell B line_width i 1;
      variable = cell B line_width i 2;
      word = cell B line_width i 3;
      node = cell B line_width i 4;
    }

-- the line of label l
unfoldable pub is_label_line : Stored → ℕ → Bool
is_label_line s l = when (eqb s.kind 9) (λ _. eqb s.label l) (λ _. false)

abbrev pub tables_of : List ℕ → List ℕ → List ℕ → List ℕ → List ℕ → List ℕ → Tables
tables_of Z N R D L B = record { size = Z; nodes = N; rows = R; vars = D; labels = L; body = B }
