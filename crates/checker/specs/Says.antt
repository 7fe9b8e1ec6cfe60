-- An answer and the tables are what the rules say of a text. Assumes nothing.
use Rattle.std.specs.Prelude.{◌≡◌}
use Rattle.rules.specs.declared.Tables.{Tables}
use Rattle.rules.specs.declared.Verdict.{Verdict}
use Rattle.rules.specs.Answers.{case_of}
use Rattle.rules.specs.Check.{Checked}

pub record Says (c : Checked) (v : Verdict) (t : Tables) : Type 0 where
  pub answer : v ≡ case_of c.verdict
  pub tables : t ≡ c.tables
