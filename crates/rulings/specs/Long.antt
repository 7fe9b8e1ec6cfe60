-- Limits that take a long text. Assumes nothing.
use Rattle.std.specs.Prelude.{◌∷◌, ◌++◌, ◌≡◌}
use Rattle.rules.specs.Prelude.{List, [], refl}
use Rattle.rules.specs.Bytes.{bytes}
use Rattle.rules.specs.Run.{runs}
use Rattle.rulings.specs.Cases.{Case, glue, times, differing}

abbrev cases : List Case
cases =
    glue (times 32769 (120 ∷ []) []) 1 0 ∷
    glue (times 40000 (255 ∷ []) []) 1 0 ∷
    glue (times 32768 (120 ∷ []) []) 2 1 ∷
    glue (bytes "ret=int\n" ++ times 64 (bytes "label=\n") (bytes "return=1\n")) 0 0 ∷
    glue (bytes "ret=int\n" ++ times 65 (bytes "label=\n") (bytes "return=1\n")) 3 66 ∷
    []

pub long_texts : differing 0 cases ≡ []
unfolding runs differing
long_texts = refl
