-- What the readers of words answer, for callers: where they end, and how large what was read is. Assumes nothing.
use native.Mathlib.Omega.{arith}
use Rattle.std.specs.Prelude.{◌+◌, ◌≤◌}
use Rattle.rules.specs.Prelude.{ℕ, max, List, length}
use Rattle.rules.specs.Text.Words.{Reading}
use Rattle.rules.specs.Bytes.{bytes}
use Rattle.rules.specs.Text.Shape.{kind_word, inf_word, psi_at, boxed_at, any_word, or_raised, offset_at, tag_at, key_at}
use Rattle.text.proofs.Laws.{Reads, right, wrong, plain_reads, number_reads, or_reads}

-- ---- words

pub kind_reads : (s : List ℕ) (at : ℕ) → Reads (at + 1) (length s) 0 1 (kind_word s at)
unfolding kind_word
kind_reads s at =
    or_reads s at (bytes "value ") 1 (omega arith) (omega arith) (omega arith)
    (or_reads s at (bytes "int") 0 (omega arith) (omega arith) (omega arith) (wrong at (omega arith)))

pub boxed_reads : (s : List ℕ) (at : ℕ) → Reads (at + 1) (length s) 0 2 (boxed_at s at)
unfolding boxed_at
boxed_reads s at =
    or_reads s at (bytes "imm") 2 (omega arith) (omega arith) (omega arith)
    (or_reads s at (bytes "box") 1 (omega arith) (omega arith) (omega arith)
    (or_reads s at (bytes "any") 0 (omega arith) (omega arith) (omega arith) (wrong at (omega arith))))

-- keys have the numbers from 1 to 13
pub key_reads : (s : List ℕ) (at : ℕ) → Reads (at + 1) (length s) 1 13 (key_at s at)
unfolding key_at
key_reads s at =
    or_reads s at (bytes "label=") 13 (omega arith) (omega arith) (omega arith)
    (or_reads s at (bytes "return=") 12 (omega arith) (omega arith) (omega arith)
    (or_reads s at (bytes "ifint=") 11 (omega arith) (omega arith) (omega arith)
    (or_reads s at (bytes "iftag=") 10 (omega arith) (omega arith) (omega arith)
    (or_reads s at (bytes "ifimm=") 9 (omega arith) (omega arith) (omega arith)
    (or_reads s at (bytes "if=") 8 (omega arith) (omega arith) (omega arith)
    (or_reads s at (bytes "goto=") 7 (omega arith) (omega arith) (omega arith)
    (or_reads s at (bytes "put=") 6 (omega arith) (omega arith) (omega arith)
    (or_reads s at (bytes "set=") 5 (omega arith) (omega arith) (omega arith)
    (or_reads s at (bytes "local=") 4 (omega arith) (omega arith) (omega arith)
    (or_reads s at (bytes "param=") 3 (omega arith) (omega arith) (omega arith)
    (or_reads s at (bytes "type=") 2 (omega arith) (omega arith) (omega arith)
    (or_reads s at (bytes "ret=") 1 (omega arith) (omega arith) (omega arith) (wrong at (omega arith))))))))))))))

-- a word, or a number that is raised by `more`
raised_reads : {from to least most : ℕ} (more : ℕ) {w r : Reading} → least ≤ more
    → Reads from to least (most + more) w → Reads from to 0 most r → Reads from to least (most + more) (or_raised more w r)
raised_reads more h (right v n f t l m) r = right v n f t l m
raised_reads more h (wrong p x) (right v n f t l m) = right (v + more) n f t (omega arith) (omega arith)
raised_reads more h (wrong p x) (wrong q y) = wrong (max p q) (omega arith)

pub psi_reads : (s : List ℕ) (at : ℕ) → Reads (at + 1) (length s) 1 2147483649 (psi_at s at)
unfolding psi_at inf_word
psi_reads s at =
    raised_reads 2 (omega arith) (or_reads s at (bytes "inf") 1 (omega arith) (omega arith) (omega arith) (wrong at (omega arith))) (plain_reads s at)

any_reads : (s : List ℕ) (at : ℕ) {most : ℕ} {r : Reading} → Reads (at + 1) (length s) 0 most r → Reads (at + 1) (length s) 0 (most + 1) (or_raised 1 (any_word s at) r)
unfolding any_word
any_reads s at h =
    raised_reads 1 (omega arith) (or_reads s at (bytes "any") 0 (omega arith) (omega arith) (omega arith) (wrong at (omega arith))) h

pub offset_reads : (s : List ℕ) (at : ℕ) → Reads (at + 1) (length s) 0 2147483648 (offset_at s at)
unfolding offset_at
offset_reads s at = any_reads s at (plain_reads s at)

pub tag_reads : (s : List ℕ) (at : ℕ) → Reads (at + 1) (length s) 0 4294967296 (tag_at s at)
unfolding tag_at
tag_reads s at = any_reads s at (number_reads s at)
