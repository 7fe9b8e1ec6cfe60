-- A letter for what the datum is, and its number.
use Rattle.std.specs.Prelude.{Some}
use Rattle.std.proofs.Common.{ap}
use Rattle.rules.specs.declared.Datum.{Datum}
use Rattle.rules.specs.Run.{value_text}
use Rattle.prints.proofs.Laws.{named, then}
use Rattle.prints.proofs.Page.datum.Goals as goal

pub returns-in-Int : goal.returns-in-Int
unfolding value_text
returns-in-Int c = named (ap (λ (d : Datum). value_text (Some d)) c.in-Int.is) (then c.word.ensures c.signed.ensures)

pub returns-in-Imm : goal.returns-in-Imm
unfolding value_text
returns-in-Imm c = named (ap (λ (d : Datum). value_text (Some d)) c.in-Imm.is) (then c.word-in-Imm.ensures c.signed-in-Imm.ensures)

pub returns-in-Place : goal.returns-in-Place
unfolding value_text
returns-in-Place c = named (ap (λ (d : Datum). value_text (Some d)) c.in-Place.is) (then c.word-in-Place.ensures c.decimal.ensures)
