-- What was written as numbers of a table is read again as it was, an entry whose numbers are 32-bit; and every datum that was read from a table can be written. Assumes nothing.
use Rattle.std.proofs.Common.{arith, lt-ltb, ne_eqb}
use Rattle.std.specs.Prelude.{◌+◌, ◌-◌, ◌/◌, ◌%◌, ◌<◌, ◌≡◌}
use Rattle.rules.specs.Prelude.{ℕ, true, refl, ap, ◌∙◌, eqb}
use Rattle.rules.specs.declared.Num.{Num}
use Rattle.rules.specs.declared.Boxed.{Boxed}
use Rattle.rules.specs.declared.Offset.{Offset}
use Rattle.rules.specs.declared.Tag.{Tag}
use Rattle.rules.specs.declared.Entry.{Entry}
use Rattle.rules.specs.declared.Datum.{Datum}
use Rattle.rules.specs.declared.Datum.TheVariants.{Place}
use Rattle.rules.specs.declared.Boxed.TheVariants as B
use Rattle.rules.specs.declared.Offset.TheVariants as I
use Rattle.rules.specs.declared.Tag.TheVariants as G
use Rattle.rules.specs.Numbers.{num_code, word_of}
use Rattle.rules.specs.View.{boxed_code, offset_code, tag_code}
use Rattle.rules.specs.When.{need}
use Rattle.rules.specs.Machine.Tables.{datum_code, code_of}
use Rattle.rules.proofs.Laws.Tests.{by_when}
use Rattle.rules.proofs.Laws.Small.{SmallN, number_again}
use Rattle.entry.specs.Codes.{boxed_to, offset_to, tag_to, codes_of, writable}
use Rattle.entry.specs.Again.{SmallOffset, SmallTag, SmallE, entry_of, Held}

boxed_again : (b : Boxed) → boxed_code (boxed_to b) ≡ b
unfolding boxed_code
boxed_again B.Either = refl
boxed_again B.Block = refl
boxed_again B.Imm = refl

one_more_lem : (n : Num) → SmallN n → num_code (word_of n + 1 - 1) ≡ n
one_more_lem n h = let e : word_of n + 1 - 1 ≡ word_of n = omega arith in ap num_code e ∙ number_again n h

offset_again : (i : Offset) → SmallOffset i → offset_code (offset_to i) ≡ i
unfolding offset_code
offset_again I.Unknown h = refl
offset_again (I.Known n) h = rw (ne_eqb (word_of n + 1) 0 (λ q. omega (arith, q))) (ap I.Known (one_more_lem n h))

tag_again : (t : Tag) → SmallTag t → tag_code (tag_to t) ≡ t
unfolding tag_code
tag_again G.Unknown h = refl
tag_again (G.Known n) h = rw (ne_eqb (word_of n + 1) 0 (λ q. omega (arith, q))) (ap G.Known (one_more_lem n h))

pub codes_again : (e : Entry) → SmallE e → entry_of (codes_of e).boxed (codes_of e).offset (codes_of e).tag ≡ e
unfolding codes_of
codes_again e h = rw (boxed_again e.boxed, offset_again e.offset h.0, tag_again e.tag h.1) refl

-- ---- data

pub place_writable : (b o : ℕ) → b < 4294967293 → o < 4294967296 → writable (Place b o) ≡ true
unfolding writable
place_writable b o h k = rw (lt-ltb b 4294967293 h, lt-ltb o 4294967296 k) refl

-- what is written of such a datum is its code
pub written : (d : Datum) → writable d ≡ true → need 0 (writable d) (code_of d) ≡ code_of d
written d h = rw h refl

pub read_writable : (c : ℕ) → c < 18446744073709551616 → Held (datum_code c)
unfolding datum_code writable
read_writable c h =
    by_when Held (eqb (c / 4294967296) 0) _ _ (λ _. tt)
    (λ _. by_when Held (eqb (c / 4294967296) 1) _ _ (λ _. refl)
    (λ _. by_when Held (eqb (c / 4294967296) 2) _ _ (λ _. refl)
    (λ _. place_writable (c / 4294967296 - 3) (c % 4294967296) (omega arith) (omega arith))))
