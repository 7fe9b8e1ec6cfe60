-- A line by its key, where no key has an expression. Assumes nothing.
use Rattle.std.specs.Prelude.{◌≡◌, None}
use Rattle.rules.specs.declared.Key.{Key}
use Rattle.rules.specs.declared.Key.TheVariants as K
use Rattle.rules.specs.Prelude.{ℕ, false, List, refl}
use Rattle.rules.specs.Text.Shape.{key_of}
use Rattle.once.proofs.Keys.{none}
use Rattle.once.specs.Once.{once, key_once, has_expr}

-- no other key has an expression
module _ (s : List ℕ) (key at i free : ℕ) (N B : List ℕ) where
  pub no_key_lem : has_expr (key_of key) ≡ false → key_once s (key_of key) at i free N B ≡ once None N B
  unfolding has_expr key_once
  no_key_lem h = by (key_of key) h
    where
      by : (k : Key) → has_expr k ≡ false → key_once s k at i free N B ≡ once None N B
      by K.Absent q = refl
      by K.Ret q = refl
      by K.Type q = refl
      by K.Param q = refl
      by K.Local q = refl
      by K.Set q = none q
      by K.Put q = none q
      by K.Goto q = refl
      by K.If q = none q
      by K.IfImm q = refl
      by K.IfTag q = refl
      by K.IfInt q = refl
      by K.Return q = none q
      by K.Label q = refl
