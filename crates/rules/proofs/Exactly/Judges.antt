-- Expressions: the checker accepts exactly what the published rules derive, with that kind and that entry. Assumes nothing.
use Rattle.std.specs.Prelude.{T}
use Rattle.std.proofs.Common.{ltb→lt, eqb→eq, lt-ltb}
use Rattle.std.proofs.Math.IntN.{+ℤ_idl, +ℤ_idr}
use native.Mathlib.Omega.{arith as lin}
use Rattle.std.specs.Prelude.{◌+◌, ◌<◌, ◌&&◌, ◌≡◌, ◌↔◌, ◌+ℤ◌}
use Rattle.rules.specs.Typing.{Judged}
use Rattle.rules.specs.Typing.{Addr}
use Rattle.rules.specs.Prelude.{ℕ, true, List, refl, ap, ap₂, subst, ltb, eqb, ℤ, pos, negsuc, Num, Boxed, Offset, Tag, Entry, Env, Kind, Cint, Value, Psi, Inf, Upto, Op, Err, Ok}
use Rattle.rules.specs.Prelude.B
use Rattle.rules.specs.Prelude.I
use Rattle.rules.specs.Prelude.G
use Rattle.rules.specs.When.{need}
use Rattle.rules.specs.Numbers.{zero_n, num, among, suits, nat_of}
use Rattle.rules.specs.Program.{Rows, Var, Expr, bad, lit, var, arith, val, int, fetch, step, entry, zero_i, loosest, is_zero, psi_of, prods_of, fields_of, field_of}
use Rattle.rules.specs.Typing.{lone, ty_var, arith_tag, ty_arith, suits_tag, ty_val, int_of, ty_int, nowhere, spot, addr_spot, address_of, fetched, ty_fetch, stepped, ty_step, type}
use Rattle.rules.specs.Published.{WorkedOut, both_known, left_any, right_any, Constant, suited, unlimited, Judges, int_exp, var_exp, aop_exp, val_int_exp, int_val_exp, int_val_unboxed_exp, val_deref_exp, val_deref_boxed_exp, val_add_exp, val_add_boxed_exp}
use Rattle.rules.proofs.Laws.Tests.{same→eq, held, and_both, by_need}

-- ---- facts of tests

pub offset_is_zero : (i : Offset) → T (is_zero i) → i ≡ zero_i
offset_is_zero (I.Known n) h = ap I.Known (same→eq n zero_n h)
offset_is_zero I.Unknown h = elim h [ ]

-- an entry of which boxedness and offset are known
pub known_parts : (e : Entry) {b : Boxed} {i : Offset} → e.boxed ≡ b → e.offset ≡ i → e ≡ entry b i e.tag
known_parts e p q = ap₂ (λ (b : Boxed) (i : Offset). entry b i e.tag) p q

pub lone_row : (ψ : Psi) (prods : ℕ) → T (lone ψ prods) → (ψ ≡ Upto 0) × (prods ≡ 1)
lone_row (Upto n) prods h =
    let (a, b) = and_both (eqb n 0) (eqb prods 1) h in
    (ap Upto (eqb→eq n 0 a), eqb→eq prods 1 b)
lone_row Inf prods h = elim h [ ]

worked : {o : Op} {s t u : Tag} → WorkedOut o s t u → arith_tag o s t ≡ u
worked both_known = refl
worked left_any = refl
worked {s = G.Unknown} right_any = refl
worked {s = G.Known n} right_any = refl

works : (o : Op) (s t : Tag) → WorkedOut o s t (arith_tag o s t)
works o G.Unknown t = left_any
works o (G.Known n) G.Unknown = right_any
works o (G.Known n) (G.Known m) = both_known

constant : {ψ : Psi} {t : Tag} → Constant ψ t → suits_tag ψ t ≡ true
constant {ψ} (suited {n = n} h) = held (suits ψ n) h
constant unlimited = refl

is_constant : (ψ : Psi) (t : Tag) → T (suits_tag ψ t) → Constant ψ t
is_constant ψ (G.Known n) h = suited h
is_constant Inf G.Unknown h = unlimited
is_constant (Upto _) G.Unknown h = elim h [ ]

-- ---- `fetch`, `step` and `put` find the tag t and the offset k: what the two rules of a pair ask for

pub data Addresses (ρ : Rows) (r : ℕ) : Entry → Tag → ℕ → ℕ → Type 0 where
  known : (n m : Num) {t k : ℕ} → t < prods_of ρ r → n.n +ℤ m.n ≡ pos k → k < fields_of ρ r t → Addresses ρ r (entry B.Block (I.Known n) (G.Known (num (pos t)))) (G.Known m) t k
  alone : {k : ℕ} → psi_of ρ r ≡ Upto 0 → prods_of ρ r ≡ 1 → k < fields_of ρ r 0 → Addresses ρ r loosest (G.Known (num (pos k))) 0 k

-- a property of the answer, so that no equation with it is ever inverted; a refusal's number is not 0
abbrev pub Finds : Rows → ℕ → Entry → Tag → Addr → Type 0
Finds ρ r e m (Err n) = 0 < n
Finds ρ r e m (Ok (t, k)) = Addresses ρ r e m t k

module _ (ρ : Rows) (r : ℕ) where
  pub found : {e : Entry} {m : Tag} {t k : ℕ} → Addresses ρ r e m t k → address_of ρ r e m ≡ Ok (t, k)
  found (known n m {t} {k} h s g) = rw (lt-ltb t (prods_of ρ r) h, s, lt-ltb k (fields_of ρ r t) g)
  found (alone {k} a b g) = let z : 0 + k ≡ k = omega lin in rw (a, b, b, z, lt-ltb k (fields_of ρ r 0) g)

  pub inside : {e : Entry} {m : Tag} {t k : ℕ} → Addresses ρ r e m t k → (t < prods_of ρ r) × (k < fields_of ρ r t)
  inside (known n m h s g) = (h, g)
  inside (alone a b g) = (omega lin, g)

  -- what holds of the refusal, and of each tag and offset inside the row, holds of an address
  in_row : (Q : Addr → Type 0) → Q (Err 8) → (t k : ℤ) → ((u j : ℕ) → t ≡ pos u → u < prods_of ρ r → k ≡ pos j → j < fields_of ρ r u → Q (Ok (u, j)))
      → Q (need (Err 8) (among t (prods_of ρ r)) (need (Err 8) (among k (fields_of ρ r (nat_of t))) (Ok (nat_of t, nat_of k))))
  in_row Q b (negsuc t) k f = b
  in_row Q b (pos t) (negsuc k) f = by_need Q (Err 8) (ltb t (prods_of ρ r)) _ b (λ h. b)
  in_row Q b (pos t) (pos k) f =
      by_need Q (Err 8) (ltb t (prods_of ρ r)) _ b
      (λ h. by_need Q (Err 8) (ltb k (fields_of ρ r t)) _ b (λ g. f t k refl (ltb→lt t (prods_of ρ r) h) refl (ltb→lt k (fields_of ρ r t) g)))

  finds_alone : (m : Tag) → psi_of ρ r ≡ Upto 0 → prods_of ρ r ≡ 1 → Finds ρ r loosest m (addr_spot ρ r (spot zero_n zero_n) m)
  finds_alone G.Unknown a b = omega lin
  finds_alone (G.Known m) a b =
      in_row (Finds ρ r loosest (G.Known m)) (omega lin) (pos 0) (pos 0 +ℤ m.n)
      (λ u k z h s g. let w : m.n ≡ pos k = cc (+ℤ_idl m.n) in let v : 0 ≡ u = cc in rw (← v, w) (alone a b (rw (← v) at g)))

  pub finds : (b : Boxed) (i : Offset) (t m : Tag) → Finds ρ r (entry b i t) m (address_of ρ r (entry b i t) m)
  finds B.Block I.Unknown t m = omega lin
  finds B.Block (I.Known n) G.Unknown m = omega lin
  finds B.Block (I.Known n) (G.Known t) G.Unknown = omega lin
  finds B.Block (I.Known n) (G.Known t) (G.Known m) =
      in_row (Finds ρ r (entry B.Block (I.Known n) (G.Known t)) (G.Known m)) (omega lin) t.n (n.n +ℤ m.n)
      (λ u k z h s g. let w : t ≡ num (pos u) = ap num z in rw w (known n m h s g))
  finds B.Imm i t m = omega lin
  finds B.Either i (G.Known t) m = omega lin
  finds B.Either i G.Unknown m =
      by_need (λ s. Finds ρ r (entry B.Either i G.Unknown) m (addr_spot ρ r s m)) nowhere (is_zero i && lone (psi_of ρ r) (prods_of ρ r)) (spot zero_n zero_n) (omega lin)
      (λ h. let (z, l) = and_both (is_zero i) (lone (psi_of ρ r) (prods_of ρ r)) h in let (a, b) = lone_row (psi_of ρ r) (prods_of ρ r) l in rw (offset_is_zero i z) (finds_alone m a b))

-- ---- expressions: what is derived is accepted, with that kind and entry

module _ (ρ : Rows) (D : List Var) (Γ : Env) where
  pub judged : {x : Expr} {k : Kind} {e : Entry} → Judges ρ D Γ x k e → type ρ D Γ x ≡ Ok (k, e)
  unfolding type ty_var ty_arith ty_val ty_int ty_fetch ty_step
  judged int_exp = refl
  judged (var_exp {v} h) = rw (lt-ltb v Γ.count h)
  judged (aop_exp p q w) = rw (judged p, judged q, worked w)
  judged (val_int_exp p c) = rw (judged p, constant c)
  judged (int_val_exp p) = rw (judged p)
  judged (int_val_unboxed_exp p h) = rw (judged p, h)
  judged (val_deref_exp {r = r} {n = n} p h g) = rw (judged p) (ap (fetched ρ r) (found ρ r (known (num (pos n)) zero_n h (+ℤ_idr (pos n)) g)))
  judged (val_deref_boxed_exp {r = r} p a b g) = rw (judged p) (ap (fetched ρ r) (found ρ r (alone a b g)))
  judged (val_add_exp {r = r} {n = n} {m = m} p q w h s g) = rw (judged p, judged q, w) (ap (stepped r) (found ρ r (known n m h s g)))
  judged (val_add_boxed_exp {r = r} p q w a b g) = rw (judged p, judged q, w) (ap (stepped r) (found ρ r (alone a b g)))

-- ---- expressions: what is accepted is derived, and a refusal's number is not 0

abbrev pub Derives : Rows → List Var → Env → Expr → Judged → Type 0
Derives ρ D Γ x (Err n) = 0 < n
Derives ρ D Γ x (Ok (k, e)) = Judges ρ D Γ x k e

module _ (ρ : Rows) (D : List Var) (Γ : Env) where
  derives_var : (v : ℕ) → Derives ρ D Γ (var v) (ty_var D Γ v)
  unfolding ty_var
  derives_var v = by_need (Derives ρ D Γ (var v)) (Err 4) (ltb v Γ.count) _ (omega lin) (λ h. var_exp (ltb→lt v Γ.count h))

  derives_arith : (o : Op) (x y : Expr) (a b : Judged) → Derives ρ D Γ x a → Derives ρ D Γ y b → Derives ρ D Γ (arith o x y) (ty_arith o a b)
  unfolding ty_arith
  derives_arith o x y (Err n) b p q = p
  derives_arith o x y (Ok (k, e)) (Err n) p q = q
  derives_arith o x y (Ok (Value r, e)) (Ok (l, d)) p q = omega lin
  derives_arith o x y (Ok (Cint, e)) (Ok (Value r, d)) p q = omega lin
  derives_arith o x y (Ok (Cint, e)) (Ok (Cint, d)) p q = aop_exp p q (works o e.tag d.tag)

  derives_val : (r : ℕ) (x : Expr) (a : Judged) → Derives ρ D Γ x a → Derives ρ D Γ (val r x) (ty_val ρ r a)
  unfolding ty_val
  derives_val r x (Err n) p = p
  derives_val r x (Ok (Value q, e)) p = omega lin
  derives_val r x (Ok (Cint, e)) p = by_need (Derives ρ D Γ (val r x)) (Err 9) (suits_tag (psi_of ρ r) e.tag) _ (omega lin) (λ h. val_int_exp p (is_constant (psi_of ρ r) e.tag h))

  derives_int_of : (x : Expr) (r : ℕ) (b : Boxed) (i : Offset) (t : Tag) → Judges ρ D Γ x (Value r) (entry b i t) → Derives ρ D Γ (int x) (int_of (prods_of ρ r) (entry b i t))
  derives_int_of x r B.Block i t p = omega lin
  derives_int_of x r B.Imm i t p = by_need (Derives ρ D Γ (int x)) (Err 10) (is_zero i) _ (omega lin) (λ h. int_val_exp (rw (offset_is_zero i h) at p))
  derives_int_of x r B.Either i t p =
      by_need (Derives ρ D Γ (int x)) (Err 7) (eqb (prods_of ρ r) 0) _ (omega lin)
      (λ g. by_need (Derives ρ D Γ (int x)) (Err 10) (is_zero i) _ (omega lin) (λ h. int_val_unboxed_exp (rw (offset_is_zero i h) at p) (eqb→eq (prods_of ρ r) 0 g)))

  derives_int : (x : Expr) (a : Judged) → Derives ρ D Γ x a → Derives ρ D Γ (int x) (ty_int ρ a)
  unfolding ty_int
  derives_int x (Err n) p = p
  derives_int x (Ok (Cint, e)) p = omega lin
  derives_int x (Ok (Value r, e)) p = derives_int_of x r e.boxed e.offset e.tag p

  fetches : {x : Expr} {r t k : ℕ} {e : Entry} → Judges ρ D Γ x (Value r) e → Addresses ρ r e (G.Known zero_n) t k → Judges ρ D Γ (fetch x) (Value (field_of ρ r t k)) loosest
  fetches p (known n m {k = k} h s g) =
      let w : n.n ≡ pos k = cc (+ℤ_idr n.n) in
      val_deref_exp (rw w at p) h g
  fetches p (alone a b g) = val_deref_boxed_exp p a b g

  steps : {x y : Expr} {r t k : ℕ} {e d : Entry} {m : Tag} → Judges ρ D Γ x (Value r) e → Judges ρ D Γ y Cint d → d.tag ≡ m → Addresses ρ r e m t k → Judges ρ D Γ (step x y) (Value r) (entry B.Block (I.Known (num (pos k))) (G.Known (num (pos t))))
  steps p q w (known n m h s g) = val_add_exp p q w h s g
  steps p q w (alone a b g) = val_add_boxed_exp p q w a b g

  -- what `put` addresses is what `fetch` finds after `step`
  pub stored : {x : Expr} {n : Num} {r t k : ℕ} {e : Entry} → Judges ρ D Γ x (Value r) e → Addresses ρ r e (G.Known n) t k → Judges ρ D Γ (fetch (step x (lit n))) (Value (field_of ρ r t k)) loosest
  stored {r = r} p h = val_deref_exp (steps p int_exp refl h) (inside ρ r h).0 (inside ρ r h).1

  derives_fetch : (x : Expr) (a : Judged) → Derives ρ D Γ x a → Derives ρ D Γ (fetch x) (ty_fetch ρ a)
  unfolding ty_fetch
  derives_fetch x (Err n) p = p
  derives_fetch x (Ok (Cint, e)) p = omega lin
  derives_fetch x (Ok (Value r, e)) p = go (address_of ρ r e (G.Known zero_n)) (finds ρ r e.boxed e.offset e.tag (G.Known zero_n))
    where
      go : (a : Addr) → Finds ρ r e (G.Known zero_n) a → Derives ρ D Γ (fetch x) (fetched ρ r a)
      go (Err n) h = h
      go (Ok (t, k)) h = fetches p h

  derives_step : (x y : Expr) (a b : Judged) → Derives ρ D Γ x a → Derives ρ D Γ y b → Derives ρ D Γ (step x y) (ty_step ρ a b)
  unfolding ty_step
  derives_step x y (Err n) b p q = p
  derives_step x y (Ok (k, e)) (Err n) p q = q
  derives_step x y (Ok (Cint, e)) (Ok (l, d)) p q = omega lin
  derives_step x y (Ok (Value r, e)) (Ok (Value s, d)) p q = omega lin
  derives_step x y (Ok (Value r, e)) (Ok (Cint, d)) p q = go (address_of ρ r e d.tag) (finds ρ r e.boxed e.offset e.tag d.tag)
    where
      go : (a : Addr) → Finds ρ r e d.tag a → Derives ρ D Γ (step x y) (stepped r a)
      go (Err n) h = h
      go (Ok (t, k)) h = steps p q refl h

  pub derives : (x : Expr) → Derives ρ D Γ x (type ρ D Γ x)
  unfolding type
  derives bad = omega lin
  derives (lit n) = int_exp
  derives (var v) = derives_var v
  derives (arith o x y) = derives_arith o x y (type ρ D Γ x) (type ρ D Γ y) (derives x) (derives y)
  derives (val r x) = derives_val r x (type ρ D Γ x) (derives x)
  derives (int x) = derives_int x (type ρ D Γ x) (derives x)
  derives (fetch x) = derives_fetch x (type ρ D Γ x) (derives x)
  derives (step x y) = derives_step x y (type ρ D Γ x) (type ρ D Γ y) (derives x) (derives y)

-- an expression is accepted, with a kind and an entry, exactly if the rules derive that
pub expression_exactly : (ρ : Rows) (D : List Var) (Γ : Env) (x : Expr) (k : Kind) (e : Entry) → (type ρ D Γ x ≡ Ok (k, e)) ↔ Judges ρ D Γ x k e
expression_exactly ρ D Γ x k e = ((λ h. subst (λ (j : Judged). Derives ρ D Γ x j) h (derives ρ D Γ x)), judged ρ D Γ)
