-- A label that is there has its environment in the table.
use Rattle.std.proofs.Common.{sym}
use borrow.Author.Tests.{lt-ltb}
use Rattle.body.proofs.Laws.{env_covers}
use Rattle.body.proofs.lands.Goals as goal

pub returns-then-l-label_count : goal.returns-then-l-label_count
returns-then-l-label_count c =
    let a = c.args in
    let h = rw (c.label_count.ensures a.labels.now) at c.if-l-label_count.true in
    rw (lt-ltb _ _ h, sym (env_covers a.size.now a.labels.now a.l 0 a.env h)) (c.label_covers.ensures 0)
