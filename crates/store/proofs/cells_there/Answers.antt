-- The next cell is near, and what is left from there gives what all give.
use Rattle.std.proofs.Common.{sym, ◌∙◌, arith}
use Rattle.store.proofs.Ways.{cell_next, cells_go}
use Rattle.store.proofs.cells_there.Goals as goal

pub overflow_add-i : goal.overflow_add-i
overflow_add-i c = omega (arith, c.next_of-i.ensures, cell_next c.args.s.now c.loop.i c.cell_word-r.ensures, c.requires.1.1.short, c.loop.invariant.0)

pub loop-preserved : goal.loop-preserved
loop-preserved c =
    let l = c.loop in (
      omega (arith, c.next_of-i.ensures, cell_next c.args.s.now l.i c.cell_word-r.ensures, c.requires.1.0, c.requires.1.1.short, l.invariant.0, c.loop-test.true),
      sym (cells_go c.args.s.now c.args.blocks l.i l.counter c.args.n c.loop-test.true c.cell_word-r.ensures c.value_of.ensures c.datum_there.ensures c.if-not-datum_there.false c.next_of-i.ensures) ∙ l.invariant.1,
    )
