-- What is left to enter gives what all 32 entries give.
use Rattle.std.proofs.Common.{length, ap, sym, ◌∙◌}
use Rattle.rules.specs.declared.Env.{Env}
use Rattle.rules.specs.Program.{no_entry}
use Rattle.rules.specs.Environments.{start_at, start_env, with_entry}
use Rattle.rules.specs.View.{vars_from}
use Rattle.program.proofs.Places.{entered, entered_all, entered_end, entered_step}
use Rattle.coded.specs.Coded.{env_of}
use Rattle.coded.proofs.Laws.{blank}
use Rattle.body.proofs.start_codes.Goals as goal

pub loop-v-preserved : goal.loop-v-preserved
unfolding start_env env_of with_entry
loop-v-preserved c =
    rw (ap (λ (x : Env). x.entries) (c.put_entry.ensures.by_index 0)) (entered_step 32 _ _ _ _ c.loop-v-test.true c.start_entry.ensures ∙ c.loop-v.invariant)

pub returns : goal.returns
unfolding start_env env_of
returns c =
    let D = vars_from c.args.size.now c.args.vars.now in
    let filled = sym (entered_end 32 _ _ _ c.loop-v-test.false) ∙ c.loop-v.invariant ∙ ap (entered 32 0 (start_at D)) blank ∙ entered_all (start_at D) no_entry in
    λ j. record { entries = filled j; count = length D }
