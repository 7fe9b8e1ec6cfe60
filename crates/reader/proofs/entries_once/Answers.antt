-- One turn an entry, as the invariant says.
use Rattle.std.proofs.Common.{arith, sym, ◌+◌, ◌-◌, ◌≡◌, ◌∙◌}
use Rattle.reader.specs.Labels.{entries_once}
use Rattle.reader.proofs.Labels.{entry_on}
use Rattle.reader.proofs.entries_once.Goals as goal

pub loop-v-preserved : goal.loop-v-preserved
loop-v-preserved c = let a = c.args in let l = c.loop-v in let q : a.vars - (l.v + 1) ≡ a.vars - l.v - 1 = omega arith in (λ i. entries_once a.s.now a.l (q i) (l.v + 1) (c.in_ok-n.n + 1) c.entry_once.new.labels) ∙ entry_on a.s.now a.l l.v l.at (a.vars - l.v) l.labels (omega arith) c.entry_once.ensures c.in_ok-n.was (λ z. c.if-v-vars.false (omega arith)) (sym c.byte_at.ensures ∙ c.if-byte_at-ne32.false) ∙ l.invariant
