-- The invariant: what is left of the word, written from here on, gives what the whole gives.
use Rattle.std.proofs.Common.{drop, length, ◌+◌, ◌≡◌, ◌≤◌}
use Rattle.prints.specs.Written.{put_all}
use Rattle.prints.proofs.Page.word.Given as goal

abbrev pub invariant-loop-k : goal.invariant-loop-k
invariant-loop-k l = record { room : l.at + length l.w ≤ 128; left : put_all l.self.bytes (l.at + l.k) (drop l.k l.w) ≡ put_all l.initial.self.bytes l.at l.w }
