-- Which keys have expressions, by their number; and a key that has one is not one that has none. Assumes nothing.
use native.Mathlib.Omega.{arith}
use Rattle.std.specs.Prelude.{◌≡◌}
use Rattle.rules.specs.Prelude.{ℕ, zero, suc, true, false, refl}
use Rattle.rules.specs.Text.Shape.{key_of}
use Rattle.once.specs.Once.{has_expr}

pub none : {A : Type 0} → true ≡ false → A
none h = let x : ◌≡◌ {A = ℕ} 0 1 = cc in absurd (omega arith)

pub other_keys : (k : ℕ) → (k ≡ 5 → ⊥) → (k ≡ 6 → ⊥) → (k ≡ 8 → ⊥) → (k ≡ 12 → ⊥) → has_expr (key_of k) ≡ false
unfolding has_expr key_of
other_keys zero a b d e = refl
other_keys (suc zero) a b d e = refl
other_keys (suc (suc zero)) a b d e = refl
other_keys (suc (suc (suc zero))) a b d e = refl
other_keys (suc (suc (suc (suc zero)))) a b d e = refl
other_keys (suc (suc (suc (suc (suc zero))))) a b d e = absurd (a refl)
other_keys (suc (suc (suc (suc (suc (suc zero)))))) a b d e = absurd (b refl)
other_keys (suc (suc (suc (suc (suc (suc (suc zero))))))) a b d e = refl
other_keys (suc (suc (suc (suc (suc (suc (suc (suc zero)))))))) a b d e = absurd (d refl)
other_keys (suc (suc (suc (suc (suc (suc (suc (suc (suc zero))))))))) a b d e = refl
other_keys (suc (suc (suc (suc (suc (suc (suc (suc (suc (suc zero)))))))))) a b d e = refl
other_keys (suc (suc (suc (suc (suc (suc (suc (suc (suc (suc (suc zero))))))))))) a b d e = refl
other_keys (suc (suc (suc (suc (suc (suc (suc (suc (suc (suc (suc (suc zero)))))))))))) a b d e = absurd (e refl)
other_keys (suc (suc (suc (suc (suc (suc (suc (suc (suc (suc (suc (suc (suc zero))))))))))))) a b d e = refl
other_keys (suc (suc (suc (suc (suc (suc (suc (suc (suc (suc (suc (suc (suc (suc n)))))))))))))) a b d e = refl
