-- One turn a field row, as the invariant says.
use Rattle.std.proofs.Common.{true, ap, refl, arith, sym, ◌≡◌, ◌+◌, ◌-◌, ◌∙◌}
use Rattle.rules.specs.Text.Words.{value_of}
use Rattle.rules.specs.Text.Fill.{fields, fill_fields}
use Rattle.text.proofs.Laws.{plain_reads, value_most}
use Rattle.reader.specs.Read.{row_kept}
use Rattle.reader.proofs.Ways.{fields_over, field_not, field_turn, last_field, more_fields_lem}
use Rattle.reader.proofs.fill_fields.Goals as goal

pub returns-then-not-fits : goal.returns-then-not-fits
returns-then-not-fits c = let a = c.args in let l = c.loop in ap row_kept (sym (field_not a.s.now a.r l.sum l.rows l.at (257 - l.counter) l.k l.o (omega arith) (sym c.fits.ensures ∙ c.if-not-fits.true)) ∙ l.invariant)

pub loop-init : goal.loop-init
loop-init c = refl

pub overflow_cast-value_of : goal.overflow_cast-value_of
overflow_cast-value_of c = omega (arith, value_most (plain_reads c.args.s.now c.loop.at), ap value_of c.plain_at-q.ensures, c.value_of.ensures)

pub returns-then-not-between : goal.returns-then-not-between
returns-then-not-between c = let a = c.args in let l = c.loop in ap row_kept (sym (last_field a.s.now (fill_fields a.s.now a.r (257 - l.counter - 1) (l.sum + 1) c.put_field.new.rows) c.next_of-n.result l.k l.o (fields true (l.sum + 1) c.put_field.new.rows) c.byte_at-b.ensures (sym c.between.ensures ∙ c.if-not-between.true)) ∙ field_turn a.s.now a.r l.sum l.rows l.at (257 - l.counter) l.k l.o (omega arith) (sym c.fits.ensures ∙ c.if-not-fits.false) c.plain_at-q.ensures c.next_of-n.ensures c.value_of.ensures c.put_field.ensures ∙ l.invariant)

pub loop-preserved : goal.loop-preserved
loop-preserved c = let a = c.args in let l = c.loop in let q : 257 - (l.counter + 1) ≡ 257 - l.counter - 1 = omega arith in (λ i. fill_fields a.s.now a.r (q i) (l.sum + 1) c.put_field.new.rows (c.next_product-k.ensures i) (c.next_field-o.ensures i) (c.next_of-n.result + 1)) ∙ sym (more_fields_lem a.s.now (fill_fields a.s.now a.r (257 - l.counter - 1) (l.sum + 1) c.put_field.new.rows) c.next_of-n.result l.k l.o (fields true (l.sum + 1) c.put_field.new.rows) c.byte_at-b.ensures (sym c.between.ensures ∙ c.if-not-between.false)) ∙ field_turn a.s.now a.r l.sum l.rows l.at (257 - l.counter) l.k l.o (omega arith) (sym c.fits.ensures ∙ c.if-not-fits.false) c.plain_at-q.ensures c.next_of-n.ensures c.value_of.ensures c.put_field.ensures ∙ l.invariant

pub returns : goal.returns
returns c = let a = c.args in let l = c.loop in ap row_kept (sym (fields_over a.s.now a.r l.sum l.rows l.at (257 - l.counter) l.k l.o (omega arith)) ∙ l.invariant)
