-- The numbers of an entry that code holds are 32-bit. Assumes nothing.
use mathlib.Core.List.{List}
use mir.Val.{Val}
use denote.Laws.{Is}
use denote.Struct.Declared as struct
use denote.Enum.Declared as enum
use borrow.Author.Rules.{rules}
use Rattle.rules.specs.declared.Offset.{Offset}
use Rattle.rules.specs.declared.Offset.TheVariants as I
use Rattle.rules.specs.declared.Tag.{Tag}
use Rattle.rules.specs.declared.Tag.TheVariants as G
use Rattle.rules.specs.declared.Entry.{Entry}
use Rattle.rules.specs.contracts.Offset as of-offset
use Rattle.rules.specs.contracts.Tag as of-tag
use Rattle.rules.specs.contracts.Entry as of_entry
use Rattle.entry.specs.Again.{SmallOffset, SmallTag, SmallE}

small_offset : (i : Offset) (vs : List Val) → Is (enum.row of-offset.the_type) i vs → SmallOffset i
small_offset I.Unknown vs p = tt
small_offset (I.Known n) vs p = search rules

small_tag : (t : Tag) (vs : List Val) → Is (enum.row of-tag.the_type) t vs → SmallTag t
small_tag G.Unknown vs p = tt
small_tag (G.Known n) vs p = search rules

-- what a function knows of an entry that it was handed
pub small : (e : Entry) (vs : List Val) → Is (struct.row of_entry.the_type) e vs → SmallE e
small e vs p = (small_offset e.offset _ p.1.1.1.0, small_tag e.tag _ p.1.1.1.1.0)
