-- By the sign: the digits alone, or the minus before them.
use Rattle.std.proofs.Common.{length, ap, sym, arith}
use Rattle.prints.proofs.Laws.{named, then, plus, minus}
use Rattle.prints.proofs.Page.signed.Goals as goal

pub decimal-requires : goal.decimal-requires
decimal-requires c = omega (arith, ap length (plus c.args.a.n (sym c.in-Plus.ensures)))

pub word-requires : goal.word-requires
word-requires c = omega (arith, ap length (minus c.args.a.n (sym c.in-Minus.ensures)))

pub decimal-requires-in-Minus : goal.decimal-requires-in-Minus
decimal-requires-in-Minus c = omega (arith, ap length (minus c.args.a.n (sym c.in-Minus.ensures)), c.word.ensures.place)

pub returns-in-Plus : goal.returns-in-Plus
returns-in-Plus c = named (plus c.args.a.n (sym c.in-Plus.ensures)) c.decimal.ensures

pub returns-in-Minus : goal.returns-in-Minus
returns-in-Minus c = named (minus c.args.a.n (sym c.in-Minus.ensures)) (then c.word.ensures c.decimal-in-Minus.ensures)
