-- The next cell is near, and what is left from there gives what all give.
use Rattle.std.proofs.Common.{sym, ◌∙◌, arith}
use Rattle.store.proofs.Ways.{cell_next, one_fill}
use Rattle.store.proofs.fill_cells.Goals as goal

pub overflow_add-i : goal.overflow_add-i
overflow_add-i c = omega (arith, c.next_of-i.ensures, cell_next c.args.s.now c.loop-o.i c.cell_word-r.ensures, c.requires.1.short, c.loop-o.invariant.0)

pub loop-o-preserved : goal.loop-o-preserved
loop-o-preserved c =
    let l = c.loop-o in (
      omega (arith, c.next_of-i.ensures, cell_next c.args.s.now l.i c.cell_word-r.ensures, c.requires.0, c.requires.1.short, l.invariant.0, c.loop-o-test.true),
      sym (one_fill c.args.s.now c.args.k l.o c.args.n l.i l.cells c.loop-o-test.true c.cell_word-r.ensures c.value_of.ensures c.next_of-i.ensures c.put_cell.ensures) ∙ l.invariant.1,
    )
