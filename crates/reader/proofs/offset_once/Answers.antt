-- A word, a comma, and on.
use Rattle.std.proofs.Common.{sym, ◌∙◌}
use Rattle.reader.specs.Labels.{offset_once}
use Rattle.once.proofs.Mark.{mark}
use Rattle.reader.proofs.offset_once.Goals as goal

pub returns : goal.returns
unfolding offset_once
returns c = mark c.args.s.now 44 _ _ c.offset_at.ensures c.in_ok-i.was (sym c.byte_at.ensures ∙ c.if-byte_at-ne44.false) c.tag_once.ensures
