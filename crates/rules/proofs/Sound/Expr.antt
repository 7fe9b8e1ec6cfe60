-- What an expression gives fits what it is judged as. Assumes nothing.
use Rattle.std.proofs.Math.ListN.{get_or-eq_default}
use Rattle.std.proofs.Common.{ltb-false, lt-ltb, ltb-true, ltb→lt, eqb→eq, arith as lin}
use Rattle.std.specs.Prelude.{T}
use Rattle.std.proofs.Math.IntN.{+ℤ_idr}
use Rattle.std.specs.Prelude.{◌<◌, ◌≤◌, ◌&&◌, ◌≡◌, ◌+ℤ◌}
use Rattle.rules.specs.Typing.{Judged}
use Rattle.rules.specs.Typing.{Addr}
use Rattle.rules.specs.Machine.{Given}
use Rattle.rules.specs.Prelude.{ℕ, zero, suc, Bool, true, false, List, [], refl, sym, ap, ap₂, subst, ◌∙◌, ltb, eqb, ℤ, pos, negsuc, length, get_or, Num, Boxed, Offset, Tag, Entry, Env, Cint, Value, Psi, Inf, Upto, Op, Err, Ok, Datum, Int, Imm, Place, None, Some}
use Rattle.rules.specs.Prelude.B
use Rattle.rules.specs.Prelude.I
use Rattle.rules.specs.Prelude.G
use Rattle.rules.specs.When.{need}
use Rattle.rules.specs.Numbers.{num, zero_n, arith_of, among, suits, nat_of}
use Rattle.rules.specs.Program.{Row, row_there, row_at, Rows, Var, Expr, bad, lit, var, arith, val, int, fetch, step, loosest, no_entry, is_zero, psi_of, prods_of, fields_of, field_of, kind_at}
use Rattle.rules.specs.Typing.{int_entry, imm_entry, ty_var, arith_tag, ty_arith, suits_tag, ty_val, immediate, ty_int, lone, Spot, nowhere, spot, spot_of, addr_spot, address_of, fetched, ty_fetch, stepped, ty_step, type}
use Rattle.rules.specs.Machine.{Store, row_in, tag_in, cells_in, inside, cell_at, ev_var, ev_arith, ev_val, ev_int, ev_fetch, moved, ev_step, eval}
use Rattle.rules.proofs.Laws.Tests.{and_both}
use Rattle.rules.proofs.Exactly.Judges.{lone_row}
use Rattle.rules.proofs.Sound.Facts.{Fits, Sound, FitsAll, FitsPlace, AgreesI, AgreesT, MaySit, MayPoint, zero_offset}

abbrev pub NonZero : ℕ → Type 0
NonZero zero = ⊥
NonZero (suc n) = Unit

-- a refusal has a number that is not 0, anything else is not stuck and fits
abbrev pub Meets : Rows → Store → Judged → Given → Type 0
Meets ρ s (Err n) g = NonZero n
Meets ρ s (Ok (k, e)) g = Fits ρ s k e g

-- ---- number, variable, arithmetic

pub var_meets : (ρ : Rows) (s : Store) (D : List Var) (Γ : Env) (δ : List Given) → FitsAll ρ s D Γ δ → (v : ℕ) → Meets ρ s (ty_var D Γ v) (ev_var δ v)
unfolding ty_var ev_var
var_meets ρ s D Γ δ F v = go (ltb v Γ.count) refl
  where
    go : (b : Bool) → ltb v Γ.count ≡ b → Meets ρ s (need (Err 4) b (Ok (kind_at D v, get_or Γ.entries v no_entry))) (get_or δ v None)
    go false h = tt
    go true h = F.each v (rw F.count at (ltb-true v Γ.count h))

arith_agrees : (o : Op) (t u : Tag) (m n : Num) → AgreesT t m → AgreesT u n → AgreesT (arith_tag o t u) (arith_of o m n)
arith_agrees o G.Unknown u m n p q = tt
arith_agrees o (G.Known a) G.Unknown m n p q = tt
arith_agrees o (G.Known a) (G.Known b) m n p q = ap₂ (arith_of o) p q

pub arith_meets : (ρ : Rows) (s : Store) (o : Op) (x y : Judged) (g h : Given) → Meets ρ s x g → Meets ρ s y h → Meets ρ s (ty_arith o x y) (ev_arith o g h)
unfolding ty_arith ev_arith
arith_meets ρ s o (Err n) y g h p q = p
arith_meets ρ s o (Ok (k, e)) (Err n) g h p q = q
arith_meets ρ s o (Ok (Value r, e)) (Ok (l, d)) g h p q = tt
arith_meets ρ s o (Ok (Cint, e)) (Ok (Value r, d)) g h p q = tt
arith_meets ρ s o (Ok (Cint, e)) (Ok (Cint, d)) (Some (Int a)) (Some (Int b)) p q = arith_agrees o e.tag d.tag a b p q
arith_meets ρ s o (Ok (Cint, e)) (Ok (Cint, d)) None h p q = elim p [ ]
arith_meets ρ s o (Ok (Cint, e)) (Ok (Cint, d)) (Some (Int a)) None p q = elim q [ ]
arith_meets ρ s o (Ok (Cint, e)) (Ok (Cint, d)) (Some (Int a)) (Some (Imm _)) p q = elim q [ ]
arith_meets ρ s o (Ok (Cint, e)) (Ok (Cint, d)) (Some (Int a)) (Some (Place _ _)) p q = elim q [ ]
arith_meets ρ s o (Ok (Cint, e)) (Ok (Cint, d)) (Some (Imm _)) h p q = elim p [ ]
arith_meets ρ s o (Ok (Cint, e)) (Ok (Cint, d)) (Some (Place _ _)) h p q = elim p [ ]

-- ---- val, int

suits_agreed : (ψ : Psi) (t : Tag) (n : Num) → T (suits_tag ψ t) → AgreesT t n → T (suits ψ n)
suits_agreed Inf t n h p = tt
suits_agreed (Upto c) (G.Known m) n h p = rw (← p) h
suits_agreed (Upto c) G.Unknown n h p = elim h [ ]

-- no tag suits a row that is absent
nothing_suits : (t : Tag) → T (suits_tag (Upto 0) t) → ⊥
nothing_suits (G.Known n) h = go n.n h
  where
    go : (z : ℤ) → T (among z 0) → ⊥
    go (pos k) h = let x : k < 0 = ltb→lt k 0 h in omega lin
    go (negsuc _) h = elim h [ ]
nothing_suits G.Unknown h = elim h [ ]

pub psi_absent : (ρ : Rows) (r : ℕ) → length ρ ≤ r → psi_of ρ r ≡ Upto 0
unfolding psi_of row_at
psi_absent ρ r h = ap (λ (R : Row). R.psi) (get_or-eq_default ρ (record { psi = Upto 0; products = [] }) h)

suits_there : (ρ : Rows) (r : ℕ) (t : Tag) → T (suits_tag (psi_of ρ r) t) → row_there ρ r ≡ true
suits_there ρ r t h = go (ltb r (length ρ)) refl
  where
    go : (c : Bool) → ltb r (length ρ) ≡ c → c ≡ true
    go true q = refl
    go false q = absurd (nothing_suits t (rw (psi_absent ρ r (ltb-false r (length ρ) q)) at h))

val_need : (ρ : Rows) (s : Store) (r : ℕ) (e : Entry) (n : Num) → AgreesT e.tag n → (b : Bool) → suits_tag (psi_of ρ r) e.tag ≡ b → Meets ρ s (need (Err 9) b (Ok (Value r, imm_entry e.tag))) (need None (row_there ρ r) (Some (Imm n)))
val_need ρ s r e n p true h = rw (suits_there ρ r e.tag (rw h tt)) (record { loose = tt; still = refl; named = p; suited = suits_agreed (psi_of ρ r) e.tag n (rw h tt) p })
val_need ρ s r e n p false h = tt

pub val_meets : (ρ : Rows) (s : Store) (r : ℕ) (x : Judged) (g : Given) → Meets ρ s x g → Meets ρ s (ty_val ρ r x) (ev_val ρ r g)
unfolding ty_val ev_val
val_meets ρ s r (Err n) g p = p
val_meets ρ s r (Ok (Value q, e)) g p = tt
val_meets ρ s r (Ok (Cint, e)) (Some (Int n)) p = val_need ρ s r e n p (suits_tag (psi_of ρ r) e.tag) refl
val_meets ρ s r (Ok (Cint, e)) None p = elim p [ ]
val_meets ρ s r (Ok (Cint, e)) (Some (Imm _)) p = elim p [ ]
val_meets ρ s r (Ok (Cint, e)) (Some (Place _ _)) p = elim p [ ]

-- a row without products has no place in a store that is sound
pub no_place : (ρ : Rows) (s : Store) → Sound ρ s → (r : ℕ) (e : Entry) (b o : ℕ) → FitsPlace s r e b o → T (immediate e.boxed (prods_of ρ r)) → ⊥
no_place ρ s W r e b o p h = go e.boxed p.loose h
  where
    none : prods_of ρ r ≡ 0 → ⊥
    none z =
        let q : tag_in s b < prods_of ρ (row_in s b) = W.tags b p.there in
        let q' : tag_in s b < prods_of ρ r = rw p.row at q in
        omega lin

    go : (c : Boxed) → MayPoint c → T (immediate c (prods_of ρ r)) → ⊥
    go B.Either l k = none (eqb→eq (prods_of ρ r) 0 k)
    go B.Block l k = elim k [ ]
    go B.Imm l k = elim l [ ]

int_need : (ρ : Rows) (s : Store) → Sound ρ s → (r : ℕ) (e : Entry) (d : Datum) → Fits ρ s (Value r) e (Some d) → (b : Bool) → immediate e.boxed (prods_of ρ r) ≡ b → (c : Bool) → Meets ρ s (need (Err 7) b (need (Err 10) c (Ok (Cint, int_entry e.tag)))) (ev_int (Some d))
unfolding ev_int
int_need ρ s W r e d p false h c = tt
int_need ρ s W r e d p true h false = tt
int_need ρ s W r e (Imm n) p true h true = p.named
int_need ρ s W r e (Place b o) p true h true = absurd (no_place ρ s W r e b o p (rw h tt))
int_need ρ s W r e (Int _) p true h true = elim p [ ]

pub int_meets : (ρ : Rows) (s : Store) → Sound ρ s → (x : Judged) (g : Given) → Meets ρ s x g → Meets ρ s (ty_int ρ x) (ev_int g)
unfolding ty_int
int_meets ρ s W (Err n) g p = p
int_meets ρ s W (Ok (Cint, e)) g p = tt
int_meets ρ s W (Ok (Value r, e)) (Some d) p = int_need ρ s W r e d p (immediate e.boxed (prods_of ρ r)) refl (is_zero e.offset)
int_meets ρ s W (Ok (Value r, e)) None p = elim p [ ]

-- ---- addresses

-- a datum lies where an address is known to point
abbrev pub Points : Store → Spot → Datum → Type 0
Points s nowhere d = Unit
Points s (spot i t) (Int n) = ⊥
Points s (spot i t) (Imm n) = ⊥
Points s (spot i t) (Place b o) = (i ≡ num (pos o)) × (t ≡ num (pos (tag_in s b)))

not_lone : (ψ : Psi) (p : ℕ) (n : Num) → T (suits ψ n) → T (lone ψ p) → ⊥
not_lone (Upto c) p n h k = go n.n h
  where
    z : c ≡ 0
    z = eqb→eq c 0 (and_both (eqb c 0) (eqb p 1) k).0

    go : (m : ℤ) → T (among m c) → ⊥
    go (pos m) h = let x : m < c = ltb→lt m c h in omega (lin, z)
    go (negsuc _) h = elim h [ ]
not_lone Inf p n h k = elim k [ ]

spot_imm : (s : Store) (ψ : Psi) (p : ℕ) (b : Boxed) (i : Offset) (t : Tag) (n : Num) → MaySit b → T (suits ψ n) → Points s (spot_of b i t (lone ψ p)) (Imm n)
spot_imm s ψ p B.Imm i t n l h = tt
spot_imm s ψ p B.Either i (G.Known t) n l h = tt
spot_imm s ψ p B.Either i G.Unknown n l h = go (is_zero i) (lone ψ p) refl
  where
    go : (c d : Bool) → lone ψ p ≡ d → Points s (need nowhere (c && d) (spot zero_n zero_n)) (Imm n)
    go true true q = not_lone ψ p n h (rw q tt)
    go true false q = tt
    go false d q = tt
spot_imm s ψ p B.Block i t n l h = elim l [ ]

spot_place : (s : Store) (ψ : Psi) (p : ℕ) (c : Boxed) (i : Offset) (t : Tag) (b o : ℕ) → MayPoint c → AgreesI i (num (pos o)) → AgreesT t (num (pos (tag_in s b))) → tag_in s b < p → Points s (spot_of c i t (lone ψ p)) (Place b o)
spot_place s ψ p B.Block I.Unknown t b o l u v h = tt
spot_place s ψ p B.Block (I.Known i) G.Unknown b o l u v h = tt
spot_place s ψ p B.Block (I.Known i) (G.Known t) b o l u v h = (u, v)
spot_place s ψ p B.Either i (G.Known t) b o l u v h = tt
spot_place s ψ p B.Either i G.Unknown b o l u v h = go (is_zero i) (lone ψ p) refl refl
  where
    go : (c d : Bool) → is_zero i ≡ c → lone ψ p ≡ d → Points s (need nowhere (c && d) (spot zero_n zero_n)) (Place b o)
    go true true x q =
        let one : p ≡ 1 = (lone_row ψ p (rw q tt)).1 in
        let y : 0 ≡ tag_in s b = omega lin in
        (zero_offset i (num (pos o)) (rw x tt) u, ap (λ (k : ℕ). num (pos k)) y)
    go true false x q = tt
    go false d x q = tt
spot_place s ψ p B.Imm i t b o l u v h = elim l [ ]

spot_points : (ρ : Rows) (s : Store) → Sound ρ s → (r : ℕ) (e : Entry) (d : Datum) → Fits ρ s (Value r) e (Some d) → Points s (spot_of e.boxed e.offset e.tag (lone (psi_of ρ r) (prods_of ρ r))) d
spot_points ρ s W r e (Imm n) p = spot_imm s (psi_of ρ r) (prods_of ρ r) e.boxed e.offset e.tag n p.loose p.suited
spot_points ρ s W r e (Place b o) p =
    let q : tag_in s b < prods_of ρ (row_in s b) = W.tags b p.there in
    spot_place s (psi_of ρ r) (prods_of ρ r) e.boxed e.offset e.tag b o p.loose p.offset p.tag (rw p.row at q)
spot_points ρ s W r e (Int _) p = elim p [ ]

-- an address that is right: the datum is a place of row r, and moved by m it lies inside its block, whose tag is the address's
pub record Lands (ρ : Rows) (s : Store) (r b o : ℕ) (m : Num) (t o' : ℕ) : Type 0 where
  pub there : b < length s
  pub row : row_in s b ≡ r
  pub tag : tag_in s b ≡ t
  pub moves : pos o +ℤ m.n ≡ pos o'
  pub inside : o' < cells_in s b

abbrev pub Aims : Rows → Store → ℕ → Datum → Num → Addr → Type 0
Aims ρ s r d m (Err n) = NonZero n
Aims ρ s r (Int n) m (Ok (t, o')) = ⊥
Aims ρ s r (Imm n) m (Ok (t, o')) = ⊥
Aims ρ s r (Place b o) m (Ok (t, o')) = Lands ρ s r b o m t o'

aim_at : (ρ : Rows) (s : Store) → Sound ρ s → (r : ℕ) (e : Entry) (b o : ℕ) → FitsPlace s r e b o → (m : Num) (t z : ℤ) → t ≡ pos (tag_in s b) → pos o +ℤ m.n ≡ z
    → Aims ρ s r (Place b o) m (need (Err 8) (among t (prods_of ρ r)) (need (Err 8) (among z (fields_of ρ r (nat_of t))) (Ok (nat_of t, nat_of z))))
aim_at ρ s W r e b o p m (negsuc t) z u v = tt
aim_at ρ s W r e b o p m (pos t) (negsuc z) u v = go (ltb t (prods_of ρ r))
  where
    go : (c : Bool) → Aims ρ s r (Place b o) m (need (Err 8) c (Err 8))
    go true = tt
    go false = tt
aim_at ρ s W r e b o p m (pos t) (pos z) u v = go (ltb t (prods_of ρ r)) (ltb z (fields_of ρ r t)) refl
  where
    go : (c d : Bool) → ltb z (fields_of ρ r t) ≡ d → Aims ρ s r (Place b o) m (need (Err 8) c (need (Err 8) d (Ok (t, z))))
    go true true h =
        let w : tag_in s b ≡ t = cc in
        let l : cells_in s b ≡ fields_of ρ r t = W.lens b p.there ∙ ap₂ (fields_of ρ) p.row w in
        let k : z < fields_of ρ r t = ltb-true z (fields_of ρ r t) h in
        record { there = p.there; row = p.row; tag = w; moves = v; inside = omega lin }
    go true false h = tt
    go false d h = tt

aim_lands : (ρ : Rows) (s : Store) → Sound ρ s → (r : ℕ) (e : Entry) (d : Datum) → Fits ρ s (Value r) e (Some d) → (x : Tag) (m : Num) → AgreesT x m → (σ : Spot) → Points s σ d → Aims ρ s r d m (addr_spot ρ r σ x)
aim_lands ρ s W r e d p x m a nowhere h = tt
aim_lands ρ s W r e d p G.Unknown m a (spot i t) h = tt
aim_lands ρ s W r e (Place b o) p (G.Known c) m a (spot i t) h =
    aim_at ρ s W r e b o p m t.n (i.n +ℤ c.n) (ap (λ (x : Num). x.n) h.1) (ap₂ (λ (x y : Num). x.n +ℤ y.n) (sym h.0) (sym a))
aim_lands ρ s W r e (Int _) p (G.Known c) m a (spot i t) h = elim p [ ]
aim_lands ρ s W r e (Imm _) p (G.Known c) m a (spot i t) h = elim h [ ]

-- the rule of an address, whole
pub address : (ρ : Rows) (s : Store) → Sound ρ s → (r : ℕ) (e : Entry) (d : Datum) → Fits ρ s (Value r) e (Some d) → (x : Tag) (m : Num) → AgreesT x m → Aims ρ s r d m (address_of ρ r e x)
address ρ s W r e d p x m a = aim_lands ρ s W r e d p x m a (spot_of e.boxed e.offset e.tag (lone (psi_of ρ r) (prods_of ρ r))) (spot_points ρ s W r e d p)

-- ---- fetch, step

pub is_inside : (s : Store) (b o : ℕ) → b < length s → o < cells_in s b → inside s b o ≡ true
is_inside s b o h k = rw (lt-ltb b (length s) h, lt-ltb o (cells_in s b) k)

fetch_lands : (ρ : Rows) (s : Store) → Sound ρ s → (r : ℕ) (d : Datum) (a : Addr) → Aims ρ s r d zero_n a → Meets ρ s (fetched ρ r a) (ev_fetch s (Some d))
unfolding ev_fetch
fetch_lands ρ s W r d (Err n) h = h
fetch_lands ρ s W r (Place b o) (Ok (t, o')) h =
    let same : o' ≡ o = cc (+ℤ_idr (pos o)) in
    let k : o < cells_in s b = subst (λ (z : ℕ). z < cells_in s b) same h.inside in
    let c : Fits ρ s (Value (field_of ρ (row_in s b) (tag_in s b) o)) loosest (cell_at s b o) = W.cells b o h.there k in
    rw (is_inside s b o h.there k, same, ← h.row, ← h.tag) c
fetch_lands ρ s W r (Int _) (Ok (t, o')) h = elim h [ ]
fetch_lands ρ s W r (Imm _) (Ok (t, o')) h = elim h [ ]

pub fetch_meets : (ρ : Rows) (s : Store) → Sound ρ s → (x : Judged) (g : Given) → Meets ρ s x g → Meets ρ s (ty_fetch ρ x) (ev_fetch s g)
unfolding ty_fetch
fetch_meets ρ s W (Err n) g p = p
fetch_meets ρ s W (Ok (Cint, e)) g p = tt
fetch_meets ρ s W (Ok (Value r, e)) (Some d) p = fetch_lands ρ s W r d (address_of ρ r e (G.Known zero_n)) (address ρ s W r e d p (G.Known zero_n) zero_n refl)
fetch_meets ρ s W (Ok (Value r, e)) None p = elim p [ ]

step_lands : (ρ : Rows) (s : Store) (r : ℕ) (d : Datum) (m : Num) (a : Addr) → Aims ρ s r d m a → Meets ρ s (stepped r a) (ev_step s (Some d) (Some (Int m)))
unfolding ev_step moved
step_lands ρ s r d m (Err n) h = h
step_lands ρ s r (Place b o) m (Ok (t, o')) h =
    rw (h.moves, is_inside s b o' h.there h.inside)
    (record { loose = tt; there = h.there; row = h.row; offset = refl; tag = ap (λ (k : ℕ). num (pos k)) (sym h.tag); inside = h.inside })
step_lands ρ s r (Int _) m (Ok (t, o')) h = elim h [ ]
step_lands ρ s r (Imm _) m (Ok (t, o')) h = elim h [ ]

pub step_meets : (ρ : Rows) (s : Store) → Sound ρ s → (x y : Judged) (g k : Given) → Meets ρ s x g → Meets ρ s y k → Meets ρ s (ty_step ρ x y) (ev_step s g k)
unfolding ty_step
step_meets ρ s W (Err n) y g k p q = p
step_meets ρ s W (Ok (l, e)) (Err n) g k p q = q
step_meets ρ s W (Ok (Cint, e)) (Ok (l, d)) g k p q = tt
step_meets ρ s W (Ok (Value r, e)) (Ok (Value v, d)) g k p q = tt
step_meets ρ s W (Ok (Value r, e)) (Ok (Cint, d)) (Some a) (Some (Int m)) p q = step_lands ρ s r a m (address_of ρ r e d.tag) (address ρ s W r e a p d.tag m q)
step_meets ρ s W (Ok (Value r, e)) (Ok (Cint, d)) None k p q = elim p [ ]
step_meets ρ s W (Ok (Value r, e)) (Ok (Cint, d)) (Some a) None p q = elim q [ ]
step_meets ρ s W (Ok (Value r, e)) (Ok (Cint, d)) (Some a) (Some (Imm _)) p q = elim q [ ]
step_meets ρ s W (Ok (Value r, e)) (Ok (Cint, d)) (Some a) (Some (Place _ _)) p q = elim q [ ]

-- ---- the theorem of expressions

pub expr_sound : (ρ : Rows) (s : Store) (D : List Var) (Γ : Env) (δ : List Given) → Sound ρ s → FitsAll ρ s D Γ δ → (x : Expr) → Meets ρ s (type ρ D Γ x) (eval ρ s δ x)
unfolding type eval
expr_sound ρ s D Γ δ W F bad = tt
expr_sound ρ s D Γ δ W F (lit n) = refl
expr_sound ρ s D Γ δ W F (var v) = var_meets ρ s D Γ δ F v
expr_sound ρ s D Γ δ W F (arith o x y) = arith_meets ρ s o (type ρ D Γ x) (type ρ D Γ y) (eval ρ s δ x) (eval ρ s δ y) (expr_sound ρ s D Γ δ W F x) (expr_sound ρ s D Γ δ W F y)
expr_sound ρ s D Γ δ W F (val r x) = val_meets ρ s r (type ρ D Γ x) (eval ρ s δ x) (expr_sound ρ s D Γ δ W F x)
expr_sound ρ s D Γ δ W F (int x) = int_meets ρ s W (type ρ D Γ x) (eval ρ s δ x) (expr_sound ρ s D Γ δ W F x)
expr_sound ρ s D Γ δ W F (fetch x) = fetch_meets ρ s W (type ρ D Γ x) (eval ρ s δ x) (expr_sound ρ s D Γ δ W F x)
expr_sound ρ s D Γ δ W F (step x y) = step_meets ρ s W (type ρ D Γ x) (type ρ D Γ y) (eval ρ s δ x) (eval ρ s δ y) (expr_sound ρ s D Γ δ W F x) (expr_sound ρ s D Γ δ W F y)
