-- A variable that is there: its entry is told for every number of variables.
use Rattle.std.proofs.lemmas.Bool.{lt-ltb}
use Rattle.rules.specs.Typing.{ty_var}
use Rattle.coded.specs.Coded.{env_of}
use Rattle.typing.proofs.var_coded.Goals as goal

pub returns-then-v-count : goal.returns-then-v-count
unfolding ty_var env_of
returns-then-v-count c = rw (lt-ltb _ _ c.if-v-count.true, c.kind_of.ensures, c.entry_in.ensures c.args.count)
