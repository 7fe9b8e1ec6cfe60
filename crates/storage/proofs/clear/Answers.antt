-- Each table is cleared.
use Rattle.std.proofs.Common.{rules}
use Rattle.rules.specs.Store.Fill.{no_store_tables}
use Rattle.storage.proofs.Laws.{tables_same}
use Rattle.storage.proofs.clear.Goals as goal

pub returns : goal.returns
unfolding no_store_tables
returns c = search (rules, tables_same)
