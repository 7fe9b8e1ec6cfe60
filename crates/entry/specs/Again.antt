-- What an entry is whose numbers are 32-bit, the entry that numbers of a table mean, and what it is for a datum to be held. The laws stand in proofs/Again. Assumes nothing.
use Rattle.std.specs.Prelude.{◌≡◌, Some, None}
use Rattle.rules.specs.Prelude.{ℕ, true}
use Rattle.rules.specs.declared.Offset.{Offset}
use Rattle.rules.specs.declared.Tag.{Tag}
use Rattle.rules.specs.declared.Entry.{Entry}
use Rattle.rules.specs.Machine.{Given}
use Rattle.rules.specs.declared.Offset.TheVariants as I
use Rattle.rules.specs.declared.Tag.TheVariants as G
use Rattle.rules.specs.Program.{entry}
use Rattle.rules.specs.View.{boxed_code, offset_code, tag_code}
use Rattle.rules.proofs.Laws.Small.{SmallN}
use Rattle.entry.specs.Codes.{writable}

abbrev pub SmallOffset : Offset → Type 0
SmallOffset I.Unknown = Unit
SmallOffset (I.Known n) = SmallN n

abbrev pub SmallTag : Tag → Type 0
SmallTag G.Unknown = Unit
SmallTag (G.Known n) = SmallN n

-- its numbers are 32-bit, as those of every entry that code holds
abbrev pub SmallE : Entry → Type 0
SmallE e = SmallOffset e.offset × SmallTag e.tag

-- the entry that the table's numbers mean
abbrev pub entry_of : ℕ → ℕ → ℕ → Entry
entry_of b i t = entry (boxed_code b) (offset_code i) (tag_code t)

-- a datum, if there is one, can be written
abbrev pub Held : Given → Type 0
Held None = Unit
Held (Some d) = writable d ≡ true
