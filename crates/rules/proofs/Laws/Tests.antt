-- Tests: what holds of a Bool that is true, of a choice, and of two numbers that are the same. Assumes nothing.
use Rattle.std.specs.Prelude.{T}
use Rattle.std.proofs.Common.{eqb→eq}
use Rattle.std.proofs.Math.Dec.{eqb_refl}
use Rattle.std.specs.Prelude.{◌&&◌, ◌≡◌}
use Rattle.rules.specs.Prelude.{Bool, true, false, refl, ap, ℤ, pos, negsuc, Num}
use Rattle.rules.specs.When.{One, when, need}
use Rattle.rules.specs.Numbers.{num, eq_z, same_num}

-- a test that holds is true
pub held : (b : Bool) → T b → b ≡ true
held true h = refl
held false h = elim h [ ]

pub and_held : (a b : Bool) → T a → T b → T (a && b)
and_held true true h k = tt
and_held false b h k = elim h [ ]
and_held true false h k = elim k [ ]

pub and_both : (a b : Bool) → T (a && b) → T a × T b
and_both true true h = (tt, tt)
and_both false b h = elim h [ ]
and_both true false h = elim h [ ]

-- a property of what is needed: of the refusal, and of the rest where the test holds
pub by_need : {A : Type 0} (Q : A → Type 0) (refusal : A) (b : Bool) (x : A) → Q refusal → (T b → Q x) → Q (need refusal b x)
by_need Q refusal true x r f = f tt
by_need Q refusal false x r f = r

-- the same of a choice
pub by_when : {A : Type 0} (Q : A → Type 0) (b : Bool) (f g : One → A) → (b ≡ true → Q (f tt)) → (b ≡ false → Q (g tt)) → Q (when b f g)
by_when Q true f g x y = x refl
by_when Q false f g x y = y refl

-- ---- the same number

pub eq_z→eq : (a b : ℤ) → T (eq_z a b) → a ≡ b
eq_z→eq (pos a) (pos b) h = ap pos (eqb→eq a b h)
eq_z→eq (negsuc a) (negsuc b) h = ap negsuc (eqb→eq a b h)
eq_z→eq (pos a) (negsuc b) h = elim h [ ]
eq_z→eq (negsuc a) (pos b) h = elim h [ ]

pub same→eq : (a b : Num) → T (same_num a b) → a ≡ b
same→eq a b h = ap num (eq_z→eq a.n b.n h)

pub same_refl : (a : Num) → T (same_num a a)
same_refl a = go a.n
  where
    go : (z : ℤ) → T (eq_z z z)
    go (pos n) = eqb_refl n
    go (negsuc n) = eqb_refl n
