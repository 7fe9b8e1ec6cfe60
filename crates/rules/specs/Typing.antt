-- Typing, the expressions: a kind with an entry, or the answer's number. Operands are judged left to right, then the form itself, its tests in the order named. Assumes nothing.
use Rattle.std.specs.Prelude.{◌&&◌, ◌+ℤ◌}
use Rattle.rules.specs.Prelude.{ℕ, Bool, true, false, List, ltb, eqb, pos, get_or, Num, Boxed, Offset, Tag, Entry, Env, Kind, Cint, Value, Psi, Inf, Upto, Op, Err, Ok, Result}
use Rattle.rules.specs.Prelude.B
use Rattle.rules.specs.Prelude.I
use Rattle.rules.specs.Prelude.G
use Rattle.rules.specs.When.{need, One}
use Rattle.rules.specs.Numbers.{num, zero_n, arith_of, among, suits, nat_of}
use Rattle.rules.specs.Program.{Rows, Var, Expr, bad, lit, var, arith, val, int, fetch, step, entry, zero_i, loosest, no_entry, is_zero, psi_of, prods_of, fields_of, field_of, kind_at}

-- what an expression is judged as: a kind with an entry, or an answer's number
abbrev pub Judged : Type 0
Judged = Result (Kind × Entry) ℕ

-- a block address: a tag and an offset, or an answer's number
abbrev pub Addr : Type 0
Addr = Result (ℕ × ℕ) ℕ

-- `any,0,T` and `imm,0,T`
abbrev pub int_entry : Tag → Entry
int_entry t = entry B.Either zero_i t

abbrev pub imm_entry : Tag → Entry
imm_entry t = entry B.Imm zero_i t

-- V: its entry
unfoldable pub ty_var : List Var → Env → ℕ → Judged
ty_var D Γ v = need (Err 4) (ltb v Γ.count) (Ok (kind_at D v, get_or Γ.entries v no_entry))

-- ---- arithmetic: both int (6). Both tags known: the result is worked out, else `any`
abbrev pub arith_tag : Op → Tag → Tag → Tag
arith_tag o G.Unknown t = G.Unknown
arith_tag o (G.Known n) G.Unknown = G.Unknown
arith_tag o (G.Known n) (G.Known m) = G.Known (arith_of o n m)

abbrev pub arith_kinds : Op → Kind → Entry → Kind → Entry → Judged
arith_kinds o (Value r) e l d = Err 6
arith_kinds o Cint e (Value r) d = Err 6
arith_kinds o Cint e Cint d = Ok (Cint, int_entry (arith_tag o e.tag d.tag))

unfoldable pub ty_arith : Op → Judged → Judged → Judged
ty_arith o (Err n) y = Err n
ty_arith o (Ok (k, e)) (Err n) = Err n
ty_arith o (Ok (k, e)) (Ok (l, d)) = arith_kinds o k e l d

-- ---- val R E: E int (6); its T known and suits, or `any` with PSI `inf` (9). Result row R, `imm,0,T`
abbrev pub suits_tag : Psi → Tag → Bool
suits_tag ψ (G.Known n) = suits ψ n
suits_tag Inf G.Unknown = true
suits_tag (Upto p) G.Unknown = false

abbrev pub val_of : Psi → ℕ → Tag → Judged
val_of ψ r t = need (Err 9) (suits_tag ψ t) (Ok (Value r, imm_entry t))

unfoldable pub ty_val : Rows → ℕ → Judged → Judged
ty_val ρ r (Err n) = Err n
ty_val ρ r (Ok (Value q, e)) = Err 6
ty_val ρ r (Ok (Cint, e)) = val_of (psi_of ρ r) r e.tag

-- ---- int E: value (6); B `imm`, or B `any` in a row without products (7); I is 0 (10). Result int `any,0,T`
abbrev pub immediate : Boxed → ℕ → Bool
immediate B.Imm prods = true
immediate B.Either prods = eqb prods 0
immediate B.Block prods = false

abbrev pub int_of : ℕ → Entry → Judged
int_of prods e = need (Err 7) (immediate e.boxed prods) (need (Err 10) (is_zero e.offset) (Ok (Cint, int_entry e.tag)))

unfoldable pub ty_int : Rows → Judged → Judged
ty_int ρ (Err n) = Err n
ty_int ρ (Ok (Cint, e)) = Err 6
ty_int ρ (Ok (Value r, e)) = int_of (prods_of ρ r) e

-- ---- `fetch`, `step`, `put` address a block

-- a row with PSI 0 and exactly one product
abbrev pub lone : Psi → ℕ → Bool
lone Inf prods = false
lone (Upto n) prods = eqb n 0 && eqb prods 1

-- the offset and the tag that an entry addresses, or neither
pub data Spot : Type 0 where
  nowhere : Spot
  spot : Num → Num → Spot

-- B `box` with I and T known, or B `any`, I 0, T `any` in a lone row, taken as offset 0, tag 0
abbrev pub spot_of : Boxed → Offset → Tag → Bool → Spot
spot_of B.Block I.Unknown t only = nowhere
spot_of B.Block (I.Known o) G.Unknown only = nowhere
spot_of B.Block (I.Known o) (G.Known t) only = spot o t
spot_of B.Either o (G.Known t) only = nowhere
spot_of B.Either o G.Unknown only = need nowhere (is_zero o && only) (spot zero_n zero_n)
spot_of B.Imm o t only = nowhere

-- tag from 0 to one less than the number of products, and offset plus amount, over whole numbers, from 0 to one less than the product's fields (8)
abbrev pub addr_at : Rows → ℕ → Num → Num → Num → Addr
addr_at ρ r o t m =
    need (Err 8) (among t.n (prods_of ρ r))
    (need (Err 8) (among (o.n +ℤ m.n) (fields_of ρ r (nat_of t.n)))
    (Ok (nat_of t.n, nat_of (o.n +ℤ m.n))))

-- else 7; then the amount must be known (7)
abbrev pub addr_spot : Rows → ℕ → Spot → Tag → Addr
addr_spot ρ r nowhere m = Err 7
addr_spot ρ r (spot o t) G.Unknown = Err 7
addr_spot ρ r (spot o t) (G.Known m) = addr_at ρ r o t m

abbrev pub address_of : Rows → ℕ → Entry → Tag → Addr
address_of ρ r e m = addr_spot ρ r (spot_of e.boxed e.offset e.tag (lone (psi_of ρ r) (prods_of ρ r))) m

-- `fetch` adds 0 and gives the field's row, `any,0,any`
abbrev pub fetched : Rows → ℕ → Addr → Judged
fetched ρ r (Err n) = Err n
fetched ρ r (Ok (t, o)) = Ok (Value (field_of ρ r t o), loosest)

unfoldable pub ty_fetch : Rows → Judged → Judged
ty_fetch ρ (Err n) = Err n
ty_fetch ρ (Ok (Cint, e)) = Err 6
ty_fetch ρ (Ok (Value r, e)) = fetched ρ r (address_of ρ r e (G.Known zero_n))

-- `step` gives the same row, `box`, new offset, tag
abbrev pub stepped : ℕ → Addr → Judged
stepped r (Err n) = Err n
stepped r (Ok (t, o)) = Ok (Value r, entry B.Block (I.Known (num (pos o))) (G.Known (num (pos t))))

abbrev pub step_kinds : Rows → Kind → Entry → Kind → Entry → Judged
step_kinds ρ Cint e l d = Err 6
step_kinds ρ (Value r) e (Value q) d = Err 6
step_kinds ρ (Value r) e Cint d = stepped r (address_of ρ r e d.tag)

unfoldable pub ty_step : Rows → Judged → Judged → Judged
ty_step ρ (Err n) y = Err n
ty_step ρ (Ok (k, e)) (Err n) = Err n
ty_step ρ (Ok (k, e)) (Ok (l, d)) = step_kinds ρ k e l d

-- ---- the judgement of an expression; number n: int, `any,0,n`
unfoldable pub type : Rows → List Var → Env → Expr → Judged
type ρ D Γ bad = Err 4
type ρ D Γ (lit n) = Ok (Cint, int_entry (G.Known n))
type ρ D Γ (var v) = ty_var D Γ v
type ρ D Γ (arith o x y) = ty_arith o (type ρ D Γ x) (type ρ D Γ y)
type ρ D Γ (val r x) = ty_val ρ r (type ρ D Γ x)
type ρ D Γ (int x) = ty_int ρ (type ρ D Γ x)
type ρ D Γ (fetch x) = ty_fetch ρ (type ρ D Γ x)
type ρ D Γ (step x y) = ty_step ρ (type ρ D Γ x) (type ρ D Γ y)

-- to compute with what stands here
unfoldable pub typing : One
unfolding ty_var ty_arith ty_val ty_int ty_fetch ty_step type
typing = tt
