-- The published rules, Figures 8 and 9 of source document 004, as document 01 has them: a constructor a rule, under the rule's name. Relations only, no proof. Assumes nothing.
-- To read beside the figures: mt is the number of a row of ρ, {B, I, T} is `entry B I T`, ⊤ is `any`, and Γ(x) is the declared kind of x with its entry in Γ. Calls, C pointers and protection are left out.
use Rattle.std.specs.Prelude.{T}
use Rattle.std.specs.Prelude.{◌<◌, ◌∷◌, ◌≡◌, ◌+ℤ◌}
use Rattle.rules.specs.Prelude.{ℕ, Bool, true, false, List, [], pos, length, get_or, Num, Boxed, Tag, Entry, Env, Kind, Cint, Value, Psi, Inf, Upto, Op}
use Rattle.rules.specs.Prelude.B
use Rattle.rules.specs.Prelude.I
use Rattle.rules.specs.Prelude.G
use Rattle.rules.specs.Numbers.{num, arith_of, suits}
use Rattle.rules.specs.Program.{Rows, Var, Expr, lit, var, arith, val, int, fetch, step, Stmt, set_s, put_s, goto_s, if_s, ifimm_s, iftag_s, ifint_s, return_s, label_s, Prog, entry, zero_i, loosest, no_entry, psi_of, prods_of, fields_of, field_of, agree, same_kind, kind_at}
use Rattle.rules.specs.Environments.{with_entry, label_env, start_env, covers}

-- ---- Figure 8, expressions

-- T aop T': worked out if both are known, else `any`
pub data WorkedOut (o : Op) : Tag → Tag → Tag → Type 0 where
  both_known : {n m : Num} → WorkedOut o (G.Known n) (G.Known m) (G.Known (arith_of o n m))
  left_any : {t : Tag} → WorkedOut o G.Unknown t G.Unknown
  right_any : {t : Tag} → WorkedOut o t G.Unknown G.Unknown

-- T + 1 ≤ Ψ: T known and suits, or `any` with PSI `inf`
pub data Constant : Psi → Tag → Type 0 where
  suited : {ψ : Psi} {n : Num} → T (suits ψ n) → Constant ψ (G.Known n)
  unlimited : Constant Inf G.Unknown

-- Γ ⊢ e : ct{B, I, T}. Of an operand that is an int only T is read: its entry is `any,0,T` (answer 5)
pub data Judges (ρ : Rows) (D : List Var) (Γ : Env) : Expr → Kind → Entry → Type 0 where
  -- INT EXP
  int_exp : {n : Num}
      → Judges ρ D Γ (lit n) Cint (entry B.Either zero_i (G.Known n))
  -- VAR EXP
  var_exp : {v : ℕ}
      → v < Γ.count
      → Judges ρ D Γ (var v) (kind_at D v) (get_or Γ.entries v no_entry)
  -- AOP EXP
  aop_exp : {o : Op} {x y : Expr} {e d : Entry} {t : Tag}
      → Judges ρ D Γ x Cint e
      → Judges ρ D Γ y Cint d
      → WorkedOut o e.tag d.tag t
      → Judges ρ D Γ (arith o x y) Cint (entry B.Either zero_i t)
  -- VAL INT EXP
  val_int_exp : {x : Expr} {r : ℕ} {e : Entry}
      → Judges ρ D Γ x Cint e
      → Constant (psi_of ρ r) e.tag
      → Judges ρ D Γ (val r x) (Value r) (entry B.Imm zero_i e.tag)
  -- INT VAL EXP
  int_val_exp : {x : Expr} {r : ℕ} {t : Tag}
      → Judges ρ D Γ x (Value r) (entry B.Imm zero_i t)
      → Judges ρ D Γ (int x) Cint (entry B.Either zero_i t)
  -- INT VAL UNBOXED EXP
  int_val_unboxed_exp : {x : Expr} {r : ℕ} {t : Tag}
      → Judges ρ D Γ x (Value r) (entry B.Either zero_i t)
      → prods_of ρ r ≡ 0
      → Judges ρ D Γ (int x) Cint (entry B.Either zero_i t)
  -- VAL DEREF EXP
  val_deref_exp : {x : Expr} {r m n : ℕ}
      → Judges ρ D Γ x (Value r) (entry B.Block (I.Known (num (pos n))) (G.Known (num (pos m))))
      → m < prods_of ρ r
      → n < fields_of ρ r m
      → Judges ρ D Γ (fetch x) (Value (field_of ρ r m n)) loosest
  -- VAL DEREF BOXED EXP
  val_deref_boxed_exp : {x : Expr} {r : ℕ}
      → Judges ρ D Γ x (Value r) loosest
      → psi_of ρ r ≡ Upto 0
      → prods_of ρ r ≡ 1
      → 0 < fields_of ρ r 0
      → Judges ρ D Γ (fetch x) (Value (field_of ρ r 0 0)) loosest
  -- VAL ADD EXP, the sum over whole numbers
  val_add_exp : {x y : Expr} {r t k : ℕ} {n m : Num} {d : Entry}
      → Judges ρ D Γ x (Value r) (entry B.Block (I.Known n) (G.Known (num (pos t))))
      → Judges ρ D Γ y Cint d
      → d.tag ≡ G.Known m
      → t < prods_of ρ r
      → n.n +ℤ m.n ≡ pos k
      → k < fields_of ρ r t
      → Judges ρ D Γ (step x y) (Value r) (entry B.Block (I.Known (num (pos k))) (G.Known (num (pos t))))
  -- VAL ADD BOXED EXP
  val_add_boxed_exp : {x y : Expr} {r m : ℕ} {d : Entry}
      → Judges ρ D Γ x (Value r) loosest
      → Judges ρ D Γ y Cint d
      → d.tag ≡ G.Known (num (pos m))
      → psi_of ρ r ≡ Upto 0
      → prods_of ρ r ≡ 1
      → m < fields_of ρ r 0
      → Judges ρ D Γ (step x y) (Value r) (entry B.Block (I.Known (num (pos m))) (G.Known (num (pos 0))))

-- ---- Figure 9, statements

-- Γ ⊑ G(L): the label exists and covers the environment
pub record Jumps (P : Prog) (l : ℕ) (Γ : Env) : Type 0 where
  pub there : l < length P.labels
  pub covered : T (covers P.labels l Γ)

-- Γ, G ⊢ s, Γ' of a statement that is reached in Γ: whether the next line is reached (else Γ' is reset), and the environment after it
pub data Allows (P : Prog) (Γ : Env) : Stmt → Bool → Env → Type 0 where
  -- VSET STMT
  vset_stmt : {v : ℕ} {x : Expr} {k : Kind} {e : Entry}
      → Judges P.rows P.vars Γ x k e
      → T (same_kind k (kind_at P.vars v))
      → Allows P Γ (set_s v x) true (with_entry Γ v e)
  -- LSET STMT: *(e₁ +ₚ n) is judged by VAL ADD or VAL ADD BOXED EXP, then VAL DEREF EXP
  lset_stmt : {x y : Expr} {n : Num} {q r : ℕ} {b : Boxed} {t : Tag}
      → Judges P.rows P.vars Γ (fetch (step x (lit n))) (Value q) loosest
      → Judges P.rows P.vars Γ y (Value r) (entry b zero_i t)
      → T (agree r q)
      → Allows P Γ (put_s x n y) true Γ
  -- GOTO STMT
  goto_stmt : {l : ℕ}
      → Jumps P l Γ
      → Allows P Γ (goto_s l) false Γ
  -- IF STMT
  if_stmt : {l : ℕ} {x : Expr} {e : Entry}
      → Judges P.rows P.vars Γ x Cint e
      → Jumps P l Γ
      → Allows P Γ (if_s l x) true Γ
  -- IF UNBOXED STMT
  if_unboxed_stmt : {l v r : ℕ} {b : Boxed} {t : Tag}
      → Judges P.rows P.vars Γ (var v) (Value r) (entry b zero_i t)
      → Jumps P l (with_entry Γ v (entry B.Imm zero_i t))
      → Allows P Γ (ifimm_s l v) true (with_entry Γ v (entry B.Block zero_i t))
  -- IF SUM TAG STMT: on the falling side nothing more is known
  if_sum_tag_stmt : {l v r n : ℕ} {t : Tag}
      → Judges P.rows P.vars Γ (var v) (Value r) (entry B.Block zero_i t)
      → n < prods_of P.rows r
      → Jumps P l (with_entry Γ v (entry B.Block zero_i (G.Known (num (pos n)))))
      → Allows P Γ (iftag_s l v (num (pos n))) true Γ
  -- IF INT TAG STMT: on the falling side nothing more is known
  if_int_tag_stmt : {l v r : ℕ} {n : Num} {t : Tag}
      → Judges P.rows P.vars Γ (var v) (Value r) (entry B.Imm zero_i t)
      → T (suits (psi_of P.rows r) n)
      → Jumps P l (with_entry Γ v (entry B.Imm zero_i (G.Known n)))
      → Allows P Γ (ifint_s l v n) true Γ
  -- RET STMT
  ret_stmt : {x : Expr} {k : Kind} {b : Boxed} {t : Tag}
      → Judges P.rows P.vars Γ x k (entry b zero_i t)
      → T (same_kind k P.ret)
      → Allows P Γ (return_s x) false Γ
  -- LBL STMT, of what falls into the label
  lbl_stmt : {l : ℕ}
      → T (covers P.labels l Γ)
      → Allows P Γ (label_s l) true (label_env P l)

-- the lines of a body, where the first of them is reached or not
pub data Follows (P : Prog) : Bool → Env → List Stmt → Type 0 where
  -- no line is left
  end_of_body : {b : Bool} {Γ : Env}
      → Follows P b Γ []
  -- SEQ STMT
  seq_stmt : {b : Bool} {Γ Δ : Env} {s : Stmt} {rest : List Stmt}
      → Allows P Γ s b Δ
      → Follows P b Δ rest
      → Follows P true Γ (s ∷ rest)
  -- LBL STMT after `goto` or `return`: nothing falls into it (reset(Γ) ⊑ G(L)), and no other statement may stand there
  lbl_stmt_unreached : {l : ℕ} {Γ : Env} {rest : List Stmt}
      → Follows P true (label_env P l) rest
      → Follows P false Γ (label_s l ∷ rest)

-- ---- Figure 9, declarations and the function

pub data Declares (ρ : Rows) : List Var → Type 0 where
  -- no declaration is left
  end_of_declarations : Declares ρ []
  -- FUN DEFN, a parameter
  parameter : {d : Var} {rest : List Var}
      → d.is_local ≡ false
      → Declares ρ rest
      → Declares ρ (d ∷ rest)
  -- VAR DECL with INT EXP
  int_local : {d : Var} {rest : List Var}
      → d.is_local ≡ true
      → d.kind ≡ Cint
      → Declares ρ rest
      → Declares ρ (d ∷ rest)
  -- VAR DECL with VAL INT EXP
  value_local : {d : Var} {r : ℕ} {rest : List Var}
      → d.is_local ≡ true
      → d.kind ≡ Value r
      → T (suits (psi_of ρ r) d.number)
      → Declares ρ rest
      → Declares ρ (d ∷ rest)

-- the last line is `goto` or `return`
pub data Ends : List Stmt → Type 0 where
  by_goto : {l : ℕ} → Ends (goto_s l ∷ [])
  by_return : {x : Expr} → Ends (return_s x ∷ [])
  later : {s : Stmt} {rest : List Stmt} → Ends rest → Ends (s ∷ rest)

-- FUN DEFN: a program that the rules derive
pub record Derivable (P : Prog) : Type 0 where
  pub declarations : Declares P.rows P.vars
  pub body : Follows P true (start_env P.vars) P.body
  pub ending : Ends P.body
