-- Typing, the environments: one entry for each variable; how they start; when one covers another. Assumes nothing.
use Rattle.std.specs.Prelude.{◌&&◌}
use Rattle.rules.specs.Prelude.{ℕ, zero, suc, Bool, true, false, List, ltb, length, get_or, set, Num, Boxed, Offset, Tag, Entry, Env, Kind, Cint, Value}
use Rattle.rules.specs.Prelude.B
use Rattle.rules.specs.Prelude.I
use Rattle.rules.specs.Prelude.G
use Rattle.rules.specs.When.{One, when}
use Rattle.rules.specs.Numbers.{zero_n, same_num}
use Rattle.rules.specs.Limits.{limits}
use Rattle.rules.specs.Program.{Var, Label, Prog, entry, loosest, no_entry, label_at}
use Rattle.rules.specs.View.{tab}
use Rattle.rules.specs.Typing.{int_entry, imm_entry}

-- ---- environments

-- the environment in which variable v has the entry e
unfoldable pub with_entry : Env → ℕ → Entry → Env
with_entry Γ v e = record { entries = set Γ.entries v e; count = Γ.count }

abbrev pub with_boxed : Entry → Boxed → Entry
with_boxed e b = entry b e.offset e.tag

abbrev pub with_tag : Entry → Num → Entry
with_tag e n = entry e.boxed e.offset (G.Known n)

-- the label's own environment
unfoldable pub label_env : Prog → ℕ → Env
label_env P l = record { entries = (label_at P.labels l).entries; count = length P.vars }

-- parameters start as `any,0,any`, a local as `any,0,N` (int) or `imm,0,N` (value)
abbrev pub local_entry : Kind → Num → Entry
local_entry Cint n = int_entry (G.Known n)
local_entry (Value r) n = imm_entry (G.Known n)

abbrev pub start_entry : Var → Entry
start_entry d = when d.is_local (λ _. local_entry d.kind d.number) (λ _. loosest)

abbrev pub no_var : Var
no_var = record { kind = Cint; is_local = false; number = zero_n }

unfoldable pub start_at : List Var → ℕ → Entry
start_at D v = when (ltb v (length D)) (λ _. start_entry (get_or D v no_var)) (λ _. no_entry)

unfoldable pub start_env : List Var → Env
start_env D = record { entries = tab limits.variables (start_at D); count = length D }

-- ---- covered: each part equal to the label's, or the label's is `any`

unfoldable pub covers_boxed : Boxed → Boxed → Bool
covers_boxed B.Either b = true
covers_boxed B.Block B.Either = false
covers_boxed B.Block B.Block = true
covers_boxed B.Block B.Imm = false
covers_boxed B.Imm B.Either = false
covers_boxed B.Imm B.Block = false
covers_boxed B.Imm B.Imm = true

unfoldable pub covers_offset : Offset → Offset → Bool
covers_offset I.Unknown k = true
covers_offset (I.Known n) I.Unknown = false
covers_offset (I.Known n) (I.Known m) = same_num n m

unfoldable pub covers_tag : Tag → Tag → Bool
covers_tag G.Unknown k = true
covers_tag (G.Known n) G.Unknown = false
covers_tag (G.Known n) (G.Known m) = same_num n m

unfoldable pub covers_entry : Entry → Entry → Bool
covers_entry l h = covers_boxed l.boxed h.boxed && (covers_offset l.offset h.offset && covers_tag l.tag h.tag)

-- the first n variables
unfoldable pub covers_first : ℕ → List Entry → List Entry → Bool
covers_first zero ls hs = true
covers_first (suc n) ls hs = covers_first n ls hs && covers_entry (get_or ls n no_entry) (get_or hs n no_entry)

-- an environment covers another over as many variables
unfoldable pub covers_env : Env → Env → Bool
covers_env Δ Γ = covers_first Γ.count Δ.entries Γ.entries

-- a label covers an environment
unfoldable pub covers : List Label → ℕ → Env → Bool
covers L l Γ = covers_env (record { entries = (label_at L l).entries; count = Γ.count }) Γ

-- to compute with what stands here
unfoldable pub environments : One
unfolding with_entry label_env start_at start_env covers_boxed covers_offset covers_tag covers_entry covers_first covers_env covers
environments = tt
