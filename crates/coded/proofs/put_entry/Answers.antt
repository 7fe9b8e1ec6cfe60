-- Where the variable is past the last, the numbers are those past the last variable too.
use Rattle.std.proofs.Common.{ℕ, List, ◌≡◌, ap, ◌∙◌}
use Rattle.table.proofs.Laws.{clamped}
use Rattle.coded.specs.Coded.{put_codes, env_of}
use Rattle.coded.proofs.Laws.{put_past, env_put}
use Rattle.coded.proofs.Small.{small}
use Rattle.coded.proofs.put_entry.Goals as goal

pub returns-clause-by_index : goal.returns-clause-by_index
unfolding put_codes
returns-clause-by_index c =
    let a = c.args in
    let written : c.put-3.new.t ≡ put_codes a.codes.now a.v a.e =
    rw (c.put-3.ensures, c.put-2.ensures, c.put.ensures, c.codes_of-c.ensures)
    (clamped (λ (u : ℕ). put_codes a.codes.now u a.e) a.codes.now 32 a.v _ c.min-k.ensures (λ u h. put_past a.codes.now u a.e c.told-codes h)) in
    λ n. ap (λ (C : List ℕ). env_of C n) written ∙ env_put a.codes.now a.v a.e c.told-codes n (small a.e _ c.well_formed.1.1.0)
