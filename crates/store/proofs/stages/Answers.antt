-- Stage after stage.
use Rattle.std.proofs.Common.{◌≡◌, Ok, Err, arith}
use Rattle.std.proofs.lemmas.Grind.{common_steps}
use Rattle.program.specs.Lines.{tables_of}
use Rattle.rules.specs.View.{program}
use Rattle.store.proofs.Ways.{answered, by_counts, by_fits, by_names}
use Rattle.store.proofs.stages.Goals as goal

pub returns-in_err-c : goal.returns-in_err-c
unfolding program
returns-in_err-c c = λ N L B.
    let x : c.from_residual.result ≡ Err c.in_err-c.field-0.0 = grind (arith, common_steps) in
    let m : c.map_err.result ≡ answered c.tallied.result = grind (arith, common_steps) in
    rw x (by_counts (program (tables_of c.args.size.now N c.args.rows.now c.args.vars.now L B)) c.args.s.now c.params_of.ensures c.tallied.ensures m c.in_err-c.was)

pub returns-in_err-store_names : goal.returns-in_err-store_names
unfolding program
returns-in_err-store_names c = λ N L B.
    let q : c.tallied.result ≡ Ok c.in_ok-c.c = grind (arith, common_steps) in
    let x : c.from_residual-in_err-store_names.result ≡ Err c.in_err-store_names.field-0.0 = grind (arith, common_steps) in
    rw x (by_names (program (tables_of c.args.size.now N c.args.rows.now c.args.vars.now L B)) c.args.s.now c.params_of.ensures c.tallied.ensures q (c.store_names.ensures c.args.rows.now) c.in_err-store_names.was)

pub returns : goal.returns
unfolding program
returns c = λ N L B.
    let q : c.tallied.result ≡ Ok c.in_ok-c.c = grind (arith, common_steps) in
    by_fits (program (tables_of c.args.size.now N c.args.rows.now c.args.vars.now L B)) c.args.s.now c.params_of.ensures c.tallied.ensures q (c.store_names.ensures c.args.rows.now) c.in_ok-store_names.was c.fill.ensures (c.fitted.ensures N L B)
