-- The number of a key that is neither of the first two is the third.
use Rattle.std.proofs.Common.{◌≡◌, sym, ◌∙◌, Ok, arith}
use Rattle.rules.specs.Store.Text.{store_key}
use Rattle.text.proofs.Laws.{got}
use Rattle.tally.proofs.Laws.{key_reads}
use Rattle.tally.proofs.store_key.Goals as goal

pub returns-in_default : goal.returns-in_default
unfolding store_key
returns-in_default c =
    let e : store_key c.args.s.now c.args.at ≡ Ok (c.in_ok-k.k, c.in_ok-k.n) = cc c.in_ok-k.was in
    let k = got (key_reads c.args.s.now c.args.at) e in
    let f : c.in_ok-k.k ≡ 3 = omega (arith, k.low, k.high) in
    sym (e ∙ rw f)
