-- The bytes of a quoted text in ASCII, so that keys, words and examples can be read. Assumes nothing.
use Prim.Native.Char.{code}
use Prim.Native.String.{String, [], ◌∷◌}
use mathlib.Core.List as L
use Rattle.rules.specs.Prelude.{ℕ, List}

abbrev pub bytes : String → List ℕ
bytes [] = L.[]
bytes (c ∷ s) = L.◌∷◌ (code c) (bytes s)
