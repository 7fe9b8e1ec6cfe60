-- Table after table.
use Rattle.rules.specs.View.{vars_from}
use Rattle.store.proofs.Ways.{fill_is}
use Rattle.store.proofs.fill.Goals as goal

pub returns : goal.returns
returns c =
    let D = vars_from c.args.size.now c.args.vars.now in
    fill_is c.args.s.now D c.args.c c.fill_blocks-after.result c.put_sizes.ensures c.next_line-at.ensures c.clear.ensures (c.fill_blocks-after.ensures.fills D c.args.c) c.fill_vals.ensures
