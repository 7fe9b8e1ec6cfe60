-- An entry as three numbers of a table, and which data a table's number can hold. Assumes nothing.
use Rattle.std.specs.Prelude.{◌+◌, ◌&&◌}
use Rattle.rules.specs.Prelude.{ℕ, Bool, true, ltb}
use Rattle.rules.specs.declared.Boxed.{Boxed}
use Rattle.rules.specs.declared.Offset.{Offset}
use Rattle.rules.specs.declared.Tag.{Tag}
use Rattle.rules.specs.declared.Entry.{Entry}
use Rattle.rules.specs.declared.Datum.{Datum}
use Rattle.rules.specs.declared.Boxed.TheVariants as B
use Rattle.rules.specs.declared.Offset.TheVariants as I
use Rattle.rules.specs.declared.Tag.TheVariants as G
use Rattle.rules.specs.declared.Datum.TheVariants.{Int, Imm, Place}
use Rattle.rules.specs.Numbers.{word_of}
use Rattle.entry.specs.declared.Codes.{Codes}

abbrev pub boxed_to : Boxed → ℕ
boxed_to B.Either = 0
boxed_to B.Block = 1
boxed_to B.Imm = 2

abbrev pub offset_to : Offset → ℕ
offset_to I.Unknown = 0
offset_to (I.Known n) = word_of n + 1

abbrev pub tag_to : Tag → ℕ
tag_to G.Unknown = 0
tag_to (G.Known n) = word_of n + 1

unfoldable pub codes_of : Entry → Codes
codes_of e = record { boxed = boxed_to e.boxed; offset = offset_to e.offset; tag = tag_to e.tag }

-- a place is held if its block's number + 3, and its offset, are 32 bits
unfoldable pub writable : Datum → Bool
writable (Int n) = true
writable (Imm n) = true
writable (Place b o) = ltb b 4294967293 && ltb o 4294967296
