-- The entries of a label, read once: what is written while their shape is tested, up to the first wrong byte. Assumes nothing.
use Rattle.std.specs.Prelude.{◌+◌, Ok, Err}
use Rattle.rules.specs.Prelude.{ℕ, zero, suc, List, eqb}
use Rattle.rules.specs.Text.Words.{Reading}
use Rattle.rules.specs.Text.Words.{Next}
use Rattle.rules.specs.When.{when}
use Rattle.rules.specs.Text.Words.{byte_at}
use Rattle.rules.specs.Text.Shape.{boxed_at, offset_at, tag_at}
use Rattle.rules.specs.Text.Fill.{put_entry}
use Rattle.once.specs.Once.{after_mark}

-- the byte after them, or the wrong one, with the table of labels
pub data Entered : Type 0 where
  entered : Next → List ℕ → Entered

abbrev pub put_once : ℕ → ℕ → ℕ → ℕ → List ℕ → Reading → Entered
put_once l v b i L (Err p) = entered (Err p) L
put_once l v b i L (Ok (t, n)) = entered (Ok n) (put_entry L l v b i t)

unfoldable pub tag_once : List ℕ → ℕ → ℕ → ℕ → ℕ → ℕ → List ℕ → Entered
tag_once s l v b i at L = put_once l v b i L (tag_at s at)

unfoldable pub offset_once : List ℕ → ℕ → ℕ → ℕ → ℕ → List ℕ → Entered
offset_once s l v b at L = after_mark s 44 (λ p. entered (Err p) L) (λ i n. tag_once s l v b i n L) (offset_at s at)

unfoldable pub entry_once : List ℕ → ℕ → ℕ → ℕ → List ℕ → Entered
entry_once s l v at L = after_mark s 44 (λ p. entered (Err p) L) (λ b n. offset_once s l v b n L) (boxed_at s at)

abbrev pub more_once : List ℕ → (ℕ → List ℕ → Entered) → ℕ → Entered → Entered
more_once s rest more (entered (Err p) L) = entered (Err p) L
more_once s rest zero (entered (Ok n) L) = entered (Ok n) L
more_once s rest (suc more) (entered (Ok n) L) = when (eqb (byte_at s n) 32) (λ _. rest (n + 1) L) (λ _. entered (Err n) L)

-- the entries of label l, of variable v on, `more` of them
unfoldable pub entries_once : List ℕ → ℕ → ℕ → ℕ → ℕ → List ℕ → Entered
entries_once s l zero v at L = entered (Ok at) L
entries_once s l (suc more) v at L = more_once s (entries_once s l more (v + 1)) more (entry_once s l v at L)
