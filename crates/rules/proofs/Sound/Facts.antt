-- Fitting as facts that proofs carry, and that the tests of Fits tell them. Assumes nothing.
use Rattle.std.proofs.Math.Dec.{eqb_refl}
use Rattle.std.proofs.Common.{lt→ltb, ltb→lt, eqb→eq, arith as lin}
use Rattle.std.specs.Prelude.{T}
use Rattle.std.specs.Prelude.{◌+◌, ◌<◌, ◌≤◌, ◌&&◌, ◌∷◌, ◌≡◌}
use Rattle.rules.specs.Machine.{Given}
use Rattle.rules.specs.Prelude.{ℕ, zero, suc, List, [], sym, ap, ◌∙◌, ltb, eqb, pos, length, get_or, Num, Boxed, Offset, Tag, Entry, Env, Kind, Cint, Value, Int, Imm, Place, None, Some}
use Rattle.rules.specs.Prelude.B
use Rattle.rules.specs.Prelude.I
use Rattle.rules.specs.Prelude.G
use Rattle.rules.specs.When.{need}
use Rattle.rules.specs.Numbers.{zero_n, num, suits}
use Rattle.rules.specs.Program.{Rows, Var, loosest, no_entry, is_zero, psi_of, prods_of, fields_of, field_of, kind_at, agree}
use Rattle.rules.specs.Machine.{inside, no_block, Block, block_at, cell_at, Store, row_in, tag_in, cells_in}
use Rattle.rules.specs.Fits.{right_shape, cells_fit, block_number, fits, fits_imm, fits_place, offset_is, tag_is, not_box, not_imm}
use Rattle.rules.proofs.Laws.Tests.{same_refl, same→eq, and_held, and_both}
use Rattle.rules.proofs.Laws.Stages.{need_exactly, Each}

-- ---- fitting

abbrev pub AgreesI : Offset → Num → Type 0
AgreesI I.Unknown n = Unit
AgreesI (I.Known m) n = m ≡ n

abbrev pub AgreesT : Tag → Num → Type 0
AgreesT G.Unknown n = Unit
AgreesT (G.Known m) n = m ≡ n

abbrev pub MaySit : Boxed → Type 0
MaySit B.Either = Unit
MaySit B.Block = ⊥
MaySit B.Imm = Unit

abbrev pub MayPoint : Boxed → Type 0
MayPoint B.Either = Unit
MayPoint B.Block = Unit
MayPoint B.Imm = ⊥

pub record FitsImm (ρ : Rows) (r : ℕ) (e : Entry) (n : Num) : Type 0 where
  pub loose : MaySit e.boxed
  pub still : AgreesI e.offset zero_n
  pub named : AgreesT e.tag n
  pub suited : T (suits (psi_of ρ r) n)

pub record FitsPlace (s : Store) (r : ℕ) (e : Entry) (b o : ℕ) : Type 0 where
  pub loose : MayPoint e.boxed
  pub there : b < length s
  pub row : row_in s b ≡ r
  pub offset : AgreesI e.offset (num (pos o))
  pub tag : AgreesT e.tag (num (pos (tag_in s b)))
  pub inside : o < cells_in s b

abbrev pub Fits : Rows → Store → Kind → Entry → Given → Type 0
Fits ρ s k e None = ⊥
Fits ρ s Cint e (Some (Int n)) = AgreesT e.tag n
Fits ρ s Cint e (Some (Imm n)) = ⊥
Fits ρ s Cint e (Some (Place b o)) = ⊥
Fits ρ s (Value r) e (Some (Int n)) = ⊥
Fits ρ s (Value r) e (Some (Imm n)) = FitsImm ρ r e n
Fits ρ s (Value r) e (Some (Place b o)) = FitsPlace s r e b o

-- every block has a tag of its row, as many cells as that product has fields, and cells that fit
pub record Sound (ρ : Rows) (s : Store) : Type 0 where
  pub tags : (b : ℕ) → b < length s → tag_in s b < prods_of ρ (row_in s b)
  pub lens : (b : ℕ) → b < length s → cells_in s b ≡ fields_of ρ (row_in s b) (tag_in s b)
  pub cells : (b o : ℕ) → b < length s → o < cells_in s b → Fits ρ s (Value (field_of ρ (row_in s b) (tag_in s b) o)) loosest (cell_at s b o)

-- every variable fits its entry
pub record FitsAll (ρ : Rows) (s : Store) (D : List Var) (Γ : Env) (δ : List Given) : Type 0 where
  pub count : Γ.count ≡ length D
  pub wide : length D ≤ length Γ.entries
  pub size : length δ ≡ length D
  pub each : (v : ℕ) → v < length D → Fits ρ s (kind_at D v) (get_or Γ.entries v no_entry) (get_or δ v None)

-- ---- small facts

pub pos_of : (n : ℕ) (m : ℕ) → num (pos n) ≡ num (pos m) → n ≡ m
pos_of n m e = let q : pos n ≡ pos m = ap (λ (x : Num). x.n) e in cc

pub zero_offset : (i : Offset) (z : Num) → T (is_zero i) → AgreesI i z → zero_n ≡ z
zero_offset (I.Known n) z h p = sym (same→eq n zero_n h) ∙ p
zero_offset I.Unknown z h p = elim h [ ]

-- ---- the test of fitting tells the facts

sits : (b : Boxed) → T (not_box b) → MaySit b
sits B.Either h = tt
sits B.Imm h = tt
sits B.Block h = elim h [ ]

points : (b : Boxed) → T (not_imm b) → MayPoint b
points B.Either h = tt
points B.Block h = tt
points B.Imm h = elim h [ ]

offset_agrees : (i : Offset) (n : Num) → T (offset_is i n) → AgreesI i n
offset_agrees I.Unknown n h = tt
offset_agrees (I.Known m) n h = same→eq m n h

tag_agrees : (t : Tag) (n : Num) → T (tag_is t n) → AgreesT t n
tag_agrees G.Unknown n h = tt
tag_agrees (G.Known m) n h = same→eq m n h

pub fits→ : (ρ : Rows) (s : Store) (k : Kind) (e : Entry) (g : Given) → T (fits ρ s k e g) → Fits ρ s k e g
unfolding fits fits_imm fits_place
fits→ ρ s Cint e (Some (Int n)) h = tag_agrees e.tag n h
fits→ ρ s (Value r) e (Some (Imm n)) h =
    let a = and_both (not_box e.boxed) (offset_is e.offset zero_n && (tag_is e.tag n && suits (psi_of ρ r) n)) h in
    let b = and_both (offset_is e.offset zero_n) (tag_is e.tag n && suits (psi_of ρ r) n) a.1 in
    let c = and_both (tag_is e.tag n) (suits (psi_of ρ r) n) b.1 in
    record { loose = sits e.boxed a.0; still = offset_agrees e.offset zero_n b.0; named = tag_agrees e.tag n c.0; suited = c.1 }
fits→ ρ s (Value r) e (Some (Place b o)) h =
    let u = and_both (not_imm e.boxed) (agree (row_in s b) r && (offset_is e.offset (num (pos o)) && (tag_is e.tag (num (pos (tag_in s b))) && inside s b o))) h in
    let v = and_both (agree (row_in s b) r) (offset_is e.offset (num (pos o)) && (tag_is e.tag (num (pos (tag_in s b))) && inside s b o)) u.1 in
    let w = and_both (offset_is e.offset (num (pos o))) (tag_is e.tag (num (pos (tag_in s b))) && inside s b o) v.1 in
    let x = and_both (tag_is e.tag (num (pos (tag_in s b)))) (inside s b o) w.1 in
    let y = and_both (ltb b (length s)) (ltb o (cells_in s b)) x.1 in
    record { loose = points e.boxed u.0; there = ltb→lt b (length s) y.0; row = eqb→eq (row_in s b) r v.0; offset = offset_agrees e.offset (num (pos o)) w.0; tag = tag_agrees e.tag (num (pos (tag_in s b))) x.0; inside = ltb→lt o (cells_in s b) y.1 }
fits→ ρ s Cint e None h = elim h [ ]
fits→ ρ s Cint e (Some (Imm n)) h = elim h [ ]
fits→ ρ s Cint e (Some (Place b o)) h = elim h [ ]
fits→ ρ s (Value r) e None h = elim h [ ]
fits→ ρ s (Value r) e (Some (Int n)) h = elim h [ ]

-- ---- and the facts pass the test

sits_back : (b : Boxed) → MaySit b → T (not_box b)
sits_back B.Either h = tt
sits_back B.Imm h = tt
sits_back B.Block h = elim h [ ]

points_back : (b : Boxed) → MayPoint b → T (not_imm b)
points_back B.Either h = tt
points_back B.Block h = tt
points_back B.Imm h = elim h [ ]

offset_back : (i : Offset) (n : Num) → AgreesI i n → T (offset_is i n)
offset_back I.Unknown n h = tt
offset_back (I.Known m) n h = rw h (same_refl n)

tag_back : (t : Tag) (n : Num) → AgreesT t n → T (tag_is t n)
tag_back G.Unknown n h = tt
tag_back (G.Known m) n h = rw h (same_refl n)

pub →fits : (ρ : Rows) (s : Store) (k : Kind) (e : Entry) (g : Given) → Fits ρ s k e g → T (fits ρ s k e g)
unfolding fits fits_imm fits_place
→fits ρ s Cint e (Some (Int n)) h = tag_back e.tag n h
→fits ρ s (Value r) e (Some (Imm n)) h =
    and_held (not_box e.boxed) _ (sits_back e.boxed h.loose)
    (and_held (offset_is e.offset zero_n) _ (offset_back e.offset zero_n h.still)
    (and_held (tag_is e.tag n) (suits (psi_of ρ r) n) (tag_back e.tag n h.named) h.suited))
→fits ρ s (Value r) e (Some (Place b o)) h =
    and_held (not_imm e.boxed) _ (points_back e.boxed h.loose)
    (and_held (agree (row_in s b) r) _ (rw h.row (eqb_refl r))
    (and_held (offset_is e.offset (num (pos o))) _ (offset_back e.offset (num (pos o)) h.offset)
    (and_held (tag_is e.tag (num (pos (tag_in s b)))) (inside s b o) (tag_back e.tag (num (pos (tag_in s b))) h.tag)
    (and_held (ltb b (length s)) (ltb o (cells_in s b)) (lt→ltb b (length s) h.there) (lt→ltb o (cells_in s b) h.inside)))))
→fits ρ s Cint e None h = elim h [ ]
→fits ρ s Cint e (Some (Imm n)) h = elim h [ ]
→fits ρ s Cint e (Some (Place b o)) h = elim h [ ]
→fits ρ s (Value r) e None h = elim h [ ]
→fits ρ s (Value r) e (Some (Int n)) h = elim h [ ]

-- ---- a store that passes is sound

cells_at : (ρ : Rows) (s : Store) (r t o : ℕ) (gs : List Given) → T (cells_fit ρ s r t o gs) → (i : ℕ) → i < length gs → Fits ρ s (Value (field_of ρ r t (o + i))) loosest (get_or gs i None)
unfolding cells_fit
cells_at ρ s r t o [] h i k = absurd (omega lin)
cells_at ρ s r t o (g ∷ gs) h zero k =
    let z : o + 0 ≡ o = omega lin in
    rw z (fits→ ρ s (Value (field_of ρ r t o)) loosest g (and_both (fits ρ s (Value (field_of ρ r t o)) loosest g) (cells_fit ρ s r t (suc o) gs) h).0)
cells_at ρ s r t o (g ∷ gs) h (suc i) k =
    let z : o + suc i ≡ suc o + i = omega lin in
    rw z (cells_at ρ s r t (suc o) gs (and_both (fits ρ s (Value (field_of ρ r t o)) loosest g) (cells_fit ρ s r t (suc o) gs) h).1 i (omega lin))

-- a block whose number is 0 has the shape and the cells
block_facts : (ρ : Rows) (s : Store) (K : Block) → block_number ρ s K ≡ 0 → T (right_shape ρ K) × T (cells_fit ρ s K.row K.tag 0 K.cells)
unfolding block_number
block_facts ρ s K h =
    let f = (need_exactly 25 (right_shape ρ K) (need 26 (cells_fit ρ s K.row K.tag 0 K.cells) 0) (omega lin)).0 h in
    (f.0, ((need_exactly 26 (cells_fit ρ s K.row K.tag 0 K.cells) 0 (omega lin)).0 f.1).0)

pub each_at : {A : Type 0} (p : A → Type 0) (l : List A) (z : A) → Each p l → (i : ℕ) → i < length l → p (get_or l i z)
each_at p [] z h i k = absurd (omega lin)
each_at p (a ∷ l) z h zero k = h.0
each_at p (a ∷ l) z h (suc i) k = each_at p l z h.1 i (omega lin)

pub store_sound : (ρ : Rows) (s : Store) → Each (λ K. block_number ρ s K ≡ 0) s → Sound ρ s
unfolding row_in tag_in cells_in cell_at
store_sound ρ s h = record { tags = λ b k. (one b k).0; lens = λ b k. (one b k).1; cells = λ b o k i. (one b k).2 o i }
  where
    one : (b : ℕ) → b < length s → ((block_at s b).tag < prods_of ρ (block_at s b).row) × (length (block_at s b).cells ≡ fields_of ρ (block_at s b).row (block_at s b).tag) × ((o : ℕ) → o < length (block_at s b).cells → Fits ρ s (Value (field_of ρ (block_at s b).row (block_at s b).tag o)) loosest (get_or (block_at s b).cells o None))
    one b k =
        let K : Block = block_at s b in
        let f = block_facts ρ s K (each_at (λ K. block_number ρ s K ≡ 0) s no_block h b k) in
        let g = and_both (ltb K.tag (prods_of ρ K.row)) (eqb (length K.cells) (fields_of ρ K.row K.tag)) f.0 in
        (ltb→lt K.tag (prods_of ρ K.row) g.0, eqb→eq (length K.cells) (fields_of ρ K.row K.tag) g.1, λ o i. let z : 0 + o ≡ o = omega lin in rw z at (cells_at ρ s K.row K.tag 0 K.cells f.1 o i))
