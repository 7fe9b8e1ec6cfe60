-- The next line is near, and the variables that are left give what all give.
use Rattle.std.proofs.Common.{get_or, sym, ◌∙◌}
use Rattle.rules.specs.Environments.{no_var}
use Rattle.rules.specs.View.{vars_from}
use Rattle.store.proofs.Ways.{next_taken, vals_one}
use Rattle.store.proofs.fill_vals.Goals as goal

pub loop-v-preserved : goal.loop-v-preserved
loop-v-preserved c =
    let l = c.loop-v in
    let D = vars_from c.args.size.now c.args.vars.now in (
      next_taken (get_or D l.v no_var) l.invariant.0 c.val_of-t.ensures,
      sym (vals_one D l.v c.var_count-v-end.result (c.var_count-v-end.ensures c.args.vars.now) c.args.s.now l.i l.vals c.loop-v-test.true c.val_of-t.ensures c.put_val.ensures) ∙ l.invariant.1,
    )
