-- A word, a comma, and on.
use Rattle.std.proofs.Common.{sym, ◌∙◌}
use Rattle.reader.specs.Labels.{entry_once}
use Rattle.once.proofs.Mark.{mark}
use Rattle.reader.proofs.entry_once.Goals as goal

pub returns : goal.returns
unfolding entry_once
returns c = mark c.args.s.now 44 _ _ c.boxed_at.ensures c.in_ok-b.was (sym c.byte_at.ensures ∙ c.if-byte_at-ne44.false) c.offset_once.ensures
