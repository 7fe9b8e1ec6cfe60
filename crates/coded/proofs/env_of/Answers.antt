-- What is left to enter gives what all 32 entries give.
use Rattle.std.proofs.Common.{sym, ◌∙◌}
use Rattle.program.proofs.Places.{entered_all, entered_end, entered_step}
use Rattle.coded.specs.Coded.{entry_in, env_of}
use Rattle.coded.proofs.Laws.{entry_of_lem}
use Rattle.coded.proofs.env_of.Goals as goal

pub loop-v-preserved : goal.loop-v-preserved
loop-v-preserved c =
    entered_step _ _ _ _ _ c.loop-v-test.true (c.entry_in.ensures 0 ∙ entry_of_lem _ 0 _ c.loop-v-test.true) ∙ c.loop-v.invariant

pub returns : goal.returns
unfolding env_of
returns c =
    let filled = sym (entered_end _ _ _ _ c.loop-v-test.false) ∙ c.loop-v.invariant ∙ entered_all (entry_in c.args.codes.now) _ in
    λ j. record { entries = filled j; count = c.args.count }
