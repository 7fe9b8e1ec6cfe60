-- The words that were read are small.
use Rattle.std.proofs.Common.{◌+◌, arith}
use Rattle.store.proofs.Ways.{row_word, tag_word_lem}
use Rattle.store.proofs.block_line.Goals as goal

pub overflow_add-next_of : goal.overflow_add-next_of
overflow_add-next_of c = omega (arith, c.next_of.ensures, (row_word c.args.s.now c.args.at c.plain_at-row.ensures).1, c.requires.near, c.requires.short)

pub overflow_cast-result : goal.overflow_cast-result
overflow_cast-result c = omega (arith, c.value_of.ensures, (row_word c.args.s.now c.args.at c.plain_at-row.ensures).0)

pub overflow_cast-result-2 : goal.overflow_cast-result-2
overflow_cast-result-2 c = omega (arith, c.value_of-2.ensures, (tag_word_lem c.args.s.now (c.next_of.result + 1) c.number_at-tag.ensures).0)

pub overflow_add-result : goal.overflow_add-result
overflow_add-result c = omega (arith, c.next_of.ensures, c.next_of-2.ensures, (row_word c.args.s.now c.args.at c.plain_at-row.ensures).1, (tag_word_lem c.args.s.now (c.next_of.result + 1) c.number_at-tag.ensures).1, c.requires.near, c.requires.short)
