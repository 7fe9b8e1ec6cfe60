-- The word is read exactly where all of it stands.
use Rattle.std.proofs.Common.{ap, ◌∙◌}
use Rattle.std.specs.Result.{is_ok}
use Rattle.joined.proofs.Laws.{run_there}
use Rattle.joined.proofs.run_at.Goals as goal

pub returns : goal.returns
returns c = c.is_ok.ensures.value ∙ ap is_ok c.or_word.ensures ∙ run_there c.args.s.now c.args.at
