-- No digit, the last one, or those before it and the last one.
use Rattle.std.proofs.Common.{length, ap, arith}
use Rattle.prints.proofs.Laws.{nothing, then, named, no_digits, last_digit, more_digits_lem, more_length}
use Rattle.prints.proofs.Page.+digits.Goals as goal

pub returns-then-most-eq0 : goal.returns-then-most-eq0
returns-then-most-eq0 t c = named (no_digits c.args.most c.args.n c.if-most-eq0.true) (nothing _ _)

pub byte-requires : goal.byte-requires
byte-requires t c = omega (arith, ap length (last_digit c.args.most c.args.n c.if-most-eq0.false c.if-n-lt10.true))

pub returns-then-n-lt10 : goal.returns-then-n-lt10
returns-then-n-lt10 t c = named (last_digit c.args.most c.args.n c.if-most-eq0.false c.if-n-lt10.true) c.byte.ensures

pub digits-requires : goal.digits-requires
digits-requires t c = (omega arith, omega (arith, more_length c.args.most c.args.n c.if-most-eq0.false c.if-n-lt10.false))

pub byte-requires-2 : goal.byte-requires-2
byte-requires-2 t c = omega (arith, more_length c.args.most c.args.n c.if-most-eq0.false c.if-n-lt10.false, c.digits.ensures.place)

pub returns : goal.returns
returns t c = named (more_digits_lem c.args.most c.args.n c.if-most-eq0.false c.if-n-lt10.false) (then c.digits.ensures c.byte-2.ensures)
