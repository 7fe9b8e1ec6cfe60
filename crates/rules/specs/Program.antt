-- A glue program as lists and trees, and its parts by number. No table is here. Assumes nothing.
use Rattle.std.specs.Prelude.{◌&&◌}
use Rattle.rules.specs.Prelude.{ℕ, Bool, true, false, List, [], ltb, eqb, length, get_or, Num, Boxed, Offset, Tag, Entry, Kind, Cint, Value, Psi, Upto, Op}
use Rattle.rules.specs.Prelude.B
use Rattle.rules.specs.Prelude.I
use Rattle.rules.specs.Prelude.G
use Rattle.rules.specs.When.{One}
use Rattle.rules.specs.Numbers.{zero_n, same_num}

-- a row: its constants, and the field rows of each product; the place of a product is its block tag
pub record Row : Type 0 where
  pub psi : Psi
  pub products : List (List ℕ)

abbrev pub Rows : Type 0
Rows = List Row

-- a variable: its kind, which never changes; whether it is a local, and that one's N
pub record Var : Type 0 where
  pub kind : Kind
  pub is_local : Bool
  pub number : Num

-- `bad` where a table names something absent or nests past 16
pub data Expr : Type 0 where
  bad : Expr
  lit : Num → Expr
  var : ℕ → Expr
  arith : Op → Expr → Expr → Expr
  val : ℕ → Expr → Expr
  int : Expr → Expr
  fetch : Expr → Expr
  step : Expr → Expr → Expr

pub data Stmt : Type 0 where
  bad_s : Stmt
  set_s : ℕ → Expr → Stmt
  put_s : Expr → Num → Expr → Stmt
  goto_s : ℕ → Stmt
  if_s : ℕ → Expr → Stmt
  ifimm_s : ℕ → ℕ → Stmt
  iftag_s ifint_s : ℕ → ℕ → Num → Stmt
  return_s : Expr → Stmt
  label_s : ℕ → Stmt

-- a label: the place of its line in the body, and an entry for each variable
pub record Label : Type 0 where
  pub line : ℕ
  pub entries : List Entry

pub record Prog : Type 0 where
  pub ret : Kind
  pub rows : Rows
  pub vars : List Var
  pub labels : List Label
  pub body : List Stmt

-- ---- entries

abbrev pub entry : Boxed → Offset → Tag → Entry
entry b i t = record { boxed = b; offset = i; tag = t }

-- I is 0
abbrev pub zero_i : Offset
zero_i = I.Known zero_n

-- `any,0,any`, the loosest usual entry
abbrev pub loosest : Entry
loosest = entry B.Either zero_i G.Unknown

-- what the language takes for an entry past an array's end; no answer rests on it
abbrev pub no_entry : Entry
no_entry = entry B.Either I.Unknown G.Unknown

abbrev pub is_zero : Offset → Bool
is_zero I.Unknown = false
is_zero (I.Known n) = same_num n zero_n

-- ---- the program's parts, by number; what does not exist has nothing in it

unfoldable pub row_at : Rows → ℕ → Row
row_at ρ r = get_or ρ r (record { psi = Upto 0; products = [] })

unfoldable pub psi_of : Rows → ℕ → Psi
psi_of ρ r = (row_at ρ r).psi

unfoldable pub prods_of : Rows → ℕ → ℕ
prods_of ρ r = length (row_at ρ r).products

unfoldable pub fields_of : Rows → ℕ → ℕ → ℕ
fields_of ρ r t = length (get_or (row_at ρ r).products t [])

unfoldable pub field_of : Rows → ℕ → ℕ → ℕ → ℕ
field_of ρ r t o = get_or (get_or (row_at ρ r).products t []) o 0

-- rows agree when their numbers are equal
abbrev pub agree : ℕ → ℕ → Bool
agree q r = eqb q r

-- the same kind and row
abbrev pub same_kind : Kind → Kind → Bool
same_kind Cint Cint = true
same_kind Cint (Value r) = false
same_kind (Value q) Cint = false
same_kind (Value q) (Value r) = agree q r

unfoldable pub kind_at : List Var → ℕ → Kind
kind_at D v = (get_or D v (record { kind = Cint; is_local = false; number = zero_n })).kind

unfoldable pub label_at : List Label → ℕ → Label
label_at L l = get_or L l (record { line = 0; entries = [] })

abbrev pub row_there : Rows → ℕ → Bool
row_there ρ r = ltb r (length ρ)

abbrev pub var_there : List Var → ℕ → Bool
var_there D v = ltb v (length D)

-- the line that is kept for a label in the table is that label's (in tables that were read it always is)
abbrev pub is_label : ℕ → Stmt → Bool
is_label l bad_s = false
is_label l (set_s v x) = false
is_label l (put_s x n y) = false
is_label l (goto_s k) = false
is_label l (if_s k x) = false
is_label l (ifimm_s k v) = false
is_label l (iftag_s k v n) = false
is_label l (ifint_s k v n) = false
is_label l (return_s x) = false
is_label l (label_s k) = eqb k l

unfoldable pub label_there : Prog → ℕ → Bool
label_there P l = ltb l (length P.labels) && is_label l (get_or P.body (label_at P.labels l).line bad_s)

-- to compute with what stands here
unfoldable pub parts : One
unfolding row_at psi_of prods_of fields_of field_of kind_at label_at label_there
parts = tt
