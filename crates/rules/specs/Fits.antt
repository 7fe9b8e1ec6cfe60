-- When a datum fits an entry of a row, when a store fits its rows, and the environment of a line. Assumes nothing.
use Rattle.std.specs.Prelude.{◌&&◌, ◌∷◌}
use Rattle.rules.specs.Machine.{Given}
use Rattle.rules.specs.Prelude.{ℕ, zero, suc, Bool, true, false, List, [], ltb, eqb, pos, length, Num, Boxed, Offset, Tag, Entry, Env, Kind, Cint, Value, Int, Imm, Place, None, Some}
use Rattle.rules.specs.Prelude.B
use Rattle.rules.specs.Prelude.I
use Rattle.rules.specs.Prelude.G
use Rattle.rules.specs.When.{when, One, need}
use Rattle.rules.specs.Numbers.{num, zero_n, same_num, suits}
use Rattle.rules.specs.Program.{Var, loosest, prods_of, fields_of, field_of, Prog, Stmt, bad_s, set_s, put_s, goto_s, if_s, ifimm_s, iftag_s, ifint_s, return_s, label_s, Rows, psi_of, agree}
use Rattle.rules.specs.Environments.{label_env, start_env}
use Rattle.rules.specs.Body.{line_of}
use Rattle.rules.specs.Machine.{Block, Store, row_in, tag_in, inside}

-- it is that, or `any`
abbrev pub offset_is : Offset → Num → Bool
offset_is I.Unknown n = true
offset_is (I.Known m) n = same_num m n

abbrev pub tag_is : Tag → Num → Bool
tag_is G.Unknown n = true
tag_is (G.Known m) n = same_num m n

abbrev pub not_box : Boxed → Bool
not_box B.Either = true
not_box B.Block = false
not_box B.Imm = true

abbrev pub not_imm : Boxed → Bool
not_imm B.Either = true
not_imm B.Block = true
not_imm B.Imm = false

-- an immediate n if B is not `box`, I is 0 or `any`, T is n or `any`, n suits
unfoldable pub fits_imm : Rows → ℕ → Entry → Num → Bool
fits_imm ρ r e n = not_box e.boxed && (offset_is e.offset zero_n && (tag_is e.tag n && suits (psi_of ρ r) n))

-- a place if B is not `imm`, its block has that row, offset and tag agree with I and T or these are `any`, and it lies inside
unfoldable pub fits_place : Store → ℕ → Entry → ℕ → ℕ → Bool
fits_place s r e b o =
    not_imm e.boxed && (agree (row_in s b) r && (offset_is e.offset (num (pos o)) && (tag_is e.tag (num (pos (tag_in s b))) && inside s b o)))

-- a C int fits an int entry if T is it or `any`
unfoldable pub fits : Rows → Store → Kind → Entry → Given → Bool
fits ρ s k e None = false
fits ρ s Cint e (Some (Int n)) = tag_is e.tag n
fits ρ s Cint e (Some (Imm n)) = false
fits ρ s Cint e (Some (Place b o)) = false
fits ρ s (Value r) e (Some (Int n)) = false
fits ρ s (Value r) e (Some (Imm n)) = fits_imm ρ r e n
fits ρ s (Value r) e (Some (Place b o)) = fits_place s r e b o

-- ---- a store fits: each block has a tag of its row (25) and as many cells as that product has fields (25), and each cell fits `any,0,any` (26)

abbrev pub right_shape : Rows → Block → Bool
right_shape ρ K = ltb K.tag (prods_of ρ K.row) && eqb (length K.cells) (fields_of ρ K.row K.tag)

-- the cells from o on of a block of row r and tag t
unfoldable pub cells_fit : Rows → Store → ℕ → ℕ → ℕ → List Given → Bool
cells_fit ρ s r t o [] = true
cells_fit ρ s r t o (g ∷ rest) = fits ρ s (Value (field_of ρ r t o)) loosest g && cells_fit ρ s r t (suc o) rest

unfoldable pub block_number : Rows → Store → Block → ℕ
block_number ρ s K = need 25 (right_shape ρ K) (need 26 (cells_fit ρ s K.row K.tag 0 K.cells) 0)

-- an argument fits its parameter as `any,0,any` (27); locals have none
unfoldable pub arg_numbers : Rows → Store → List Var → List Given → List ℕ
arg_numbers ρ s [] δ = []
arg_numbers ρ s (d ∷ D) [] = []
arg_numbers ρ s (d ∷ D) (g ∷ δ) =
    when d.is_local
    (λ _. arg_numbers ρ s D δ)
    (λ _. need 27 (fits ρ s d.kind loosest g) 0 ∷ arg_numbers ρ s D δ)

-- ---- a line's environment is the one before it, a label's its own; none where nothing reaches the line

pub data Entered : Type 0 where
  unreached : Entered
  entered : Env → Entered

abbrev pub plain_env : Bool → Env → Entered
plain_env true Γ = entered Γ
plain_env false Γ = unreached

abbrev pub here_env : Prog → Bool → Env → Stmt → Entered
here_env P b Γ bad_s = plain_env b Γ
here_env P b Γ (set_s v x) = plain_env b Γ
here_env P b Γ (put_s x n y) = plain_env b Γ
here_env P b Γ (goto_s l) = plain_env b Γ
here_env P b Γ (if_s l x) = plain_env b Γ
here_env P b Γ (ifimm_s l v) = plain_env b Γ
here_env P b Γ (iftag_s l v n) = plain_env b Γ
here_env P b Γ (ifint_s l v n) = plain_env b Γ
here_env P b Γ (return_s x) = plain_env b Γ
here_env P b Γ (label_s l) = entered (label_env P l)

unfoldable pub env_from : Prog → List Stmt → Bool → Env → ℕ → Entered
env_from P [] b Γ i = unreached
env_from P (st ∷ body) b Γ zero = here_env P b Γ st
env_from P (st ∷ body) b Γ (suc i) = env_from P body (line_of P b Γ st).live (line_of P b Γ st).env i

unfoldable pub env_at : Prog → ℕ → Entered
env_at P i = env_from P P.body true (start_env P.vars) i

-- to compute with what stands here
unfoldable pub fitting : One
unfolding fits_imm fits_place fits cells_fit block_number arg_numbers env_from env_at
fitting = tt
