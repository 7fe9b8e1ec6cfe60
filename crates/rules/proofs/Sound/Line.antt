-- One line: a state that fits the line's environment does what the line's rule allows. Assumes nothing.
use Rattle.std.specs.Prelude.{T}
use Rattle.std.proofs.Math.Dec.{ltb→lt}
use Rattle.std.proofs.Common.{eqb→eq, arith as lin, get_or-set_same, get_or-set_other}
use Rattle.std.proofs.Math.ListN.{length-set}
use borrow.Author.Tests.{lt-ltb, ltb-true, ltb-false}
use Rattle.std.proofs.lemmas.List.{set-get_or}
use Rattle.std.proofs.Math.Decide.{ℕ_discrete}
use Rattle.std.specs.Prelude.{◌<◌, ◌≤◌, ◌&&◌, ◌≡◌}
use Rattle.rules.specs.Typing.{Judged}
use Rattle.rules.specs.Typing.{Addr}
use Rattle.rules.specs.Machine.{Given}
use Rattle.rules.specs.Prelude.{ℕ, zero, suc, Bool, true, false, not, List, refl, sym, ap, subst, ◌∙◌, ltb, pos, length, get_or, set, Num, Boxed, Offset, Tag, Entry, Env, Kind, Cint, Value, Err, Ok, Line, Datum, Int, Imm, Place, None, Some, Act}
use Rattle.rules.specs.Prelude.B
use Rattle.rules.specs.Prelude.I
use Rattle.rules.specs.Prelude.G
use Rattle.rules.specs.Prelude.D
use Rattle.rules.specs.When.{need}
use Rattle.rules.specs.Numbers.{num, zero_n, eq_z, same_num, among, suits}
use Rattle.rules.specs.Limits.{limits}
use Rattle.rules.specs.Program.{label_there, var_there, Rows, Stmt, bad_s, set_s, put_s, goto_s, if_s, ifimm_s, iftag_s, ifint_s, return_s, label_s, Prog, label_at, same_kind, loosest, no_entry, is_zero, psi_of, prods_of, field_of, kind_at, is_label}
use Rattle.rules.specs.Names.{expr_there, stmt_there}
use Rattle.rules.specs.Typing.{ty_var, address_of, type}
use Rattle.rules.specs.Environments.{covers_env, with_entry, with_boxed, with_tag, label_env, covers_boxed, covers_offset, covers_tag, covers_entry, covers_first, covers}
use Rattle.rules.specs.Body.{put_at, goes, refuse, jump, is_box, is_imm, rule_set, rule_put, rule_goto, rule_if, rule_ifimm, rule_iftag, rule_ifint, rule_return, rule_label, line_of}
use Rattle.rules.specs.Machine.{jump_if, store_at, moved, jump_on, row_in, act_if, Store, tag_in, cells_in, ev_var, eval, act_set, act_put, act_ifimm, act_iftag, act_ifint, act_return, act, set_cell}
use Rattle.rules.proofs.Laws.Tests.{held, and_both, eq_z→eq, same→eq}
use Rattle.rules.proofs.Sound.Facts.{Sound, Fits, AgreesI, AgreesT, MaySit, MayPoint, FitsImm, FitsPlace, FitsAll, pos_of, zero_offset}
use Rattle.rules.proofs.Sound.Expr.{NonZero, Meets, address, Aims, expr_sound, is_inside}
use Rattle.rules.proofs.Sound.Keeps.{put_sound, fits_keeps}

-- ---- the state fits an environment; what a line says and what it does agree

-- the store is sound and the variables fit
pub record Good (P : Prog) (Γ : Env) (δ : List Given) (s : Store) : Type 0 where
  pub store : Sound P.rows s
  pub vars : FitsAll P.rows s P.vars Γ δ

-- arrays of 32 entries
pub record Sized (P : Prog) : Type 0 where
  pub vars : length P.vars ≤ limits.variables
  pub labels : (l : ℕ) → l < length P.labels → length (label_at P.labels l).entries ≡ limits.variables

-- a label that is there, whose line is i, and which the state fits
pub record Reaches (P : Prog) (i : ℕ) (δ : List Given) (s : Store) : Type 0 where
  pub label : ℕ
  pub is : (label_at P.labels label).line ≡ i
  pub there : T (label_there P label)
  pub good : Good P (label_env P label) δ s

abbrev pub After : Prog → Line → List Given → Store → Act → Type 0
After P x δ s D.Stuck = ⊥
After P x δ s D.Fall = T x.live × Good P x.env δ s
After P x δ s (D.Jump i) = Reaches P i δ s
After P x δ s (D.SetVar v d) = T x.live × Good P x.env (set δ v (Some d)) s
After P x δ s (D.SetCell b o d) = T x.live × Good P x.env δ (set_cell s b o d)
After P x δ s (D.Give d) = Fits P.rows s P.ret loosest (Some d)

-- a refused line promises nothing
abbrev pub Promises : ℕ → Prog → Line → List Given → Store → Act → Type 0
Promises zero P x δ s a = After P x δ s a
Promises (suc n) P x δ s a = Unit

refused : (n : ℕ) (P : Prog) (Γ : Env) (δ : List Given) (s : Store) (a : Act) → NonZero n → Promises n P (refuse n Γ) δ s a
refused (suc n) P Γ δ s a h = tt
refused zero P Γ δ s a h = elim h [ ]

-- ---- covering

covers_boxed_sits : (l h : Boxed) → T (covers_boxed l h) → MaySit h → MaySit l
unfolding covers_boxed
covers_boxed_sits B.Either h t p = tt
covers_boxed_sits B.Imm B.Imm t p = tt
covers_boxed_sits B.Block B.Block t p = p
covers_boxed_sits B.Block B.Either t p = elim t [ ]
covers_boxed_sits B.Block B.Imm t p = elim t [ ]
covers_boxed_sits B.Imm B.Either t p = elim t [ ]
covers_boxed_sits B.Imm B.Block t p = elim t [ ]

covers_boxed_points : (l h : Boxed) → T (covers_boxed l h) → MayPoint h → MayPoint l
unfolding covers_boxed
covers_boxed_points B.Either h t p = tt
covers_boxed_points B.Block B.Block t p = tt
covers_boxed_points B.Imm B.Imm t p = p
covers_boxed_points B.Block B.Either t p = elim t [ ]
covers_boxed_points B.Block B.Imm t p = elim t [ ]
covers_boxed_points B.Imm B.Either t p = elim t [ ]
covers_boxed_points B.Imm B.Block t p = elim t [ ]

covers_offset_lem : (l h : Offset) (z : Num) → T (covers_offset l h) → AgreesI h z → AgreesI l z
unfolding covers_offset
covers_offset_lem I.Unknown h z t p = tt
covers_offset_lem (I.Known n) (I.Known m) z t p = same→eq n m t ∙ p
covers_offset_lem (I.Known n) I.Unknown z t p = elim t [ ]

covers_tag_lem : (l h : Tag) (z : Num) → T (covers_tag l h) → AgreesT h z → AgreesT l z
unfolding covers_tag
covers_tag_lem G.Unknown h z t p = tt
covers_tag_lem (G.Known n) (G.Known m) z t p = same→eq n m t ∙ p
covers_tag_lem (G.Known n) G.Unknown z t p = elim t [ ]

covers_fits : (ρ : Rows) (s : Store) (k : Kind) (l h : Entry) (g : Given) → T (covers_entry l h) → Fits ρ s k h g → Fits ρ s k l g
unfolding covers_entry
covers_fits ρ s k l h g t p = go k g p
  where
    h₁ : T (covers_boxed l.boxed h.boxed) × T (covers_offset l.offset h.offset && covers_tag l.tag h.tag)
    h₁ = and_both (covers_boxed l.boxed h.boxed) (covers_offset l.offset h.offset && covers_tag l.tag h.tag) t

    h₂ : T (covers_offset l.offset h.offset) × T (covers_tag l.tag h.tag)
    h₂ = and_both (covers_offset l.offset h.offset) (covers_tag l.tag h.tag) h₁.1

    go : (k : Kind) (g : Given) → Fits ρ s k h g → Fits ρ s k l g
    go Cint (Some (Int n)) p = covers_tag_lem l.tag h.tag n h₂.1 p
    go (Value r) (Some (Imm n)) p = record { loose = covers_boxed_sits l.boxed h.boxed h₁.0 p.loose; still = covers_offset_lem l.offset h.offset zero_n h₂.0 p.still; named = covers_tag_lem l.tag h.tag n h₂.1 p.named; suited = p.suited }
    go (Value r) (Some (Place b o)) p = record { loose = covers_boxed_points l.boxed h.boxed h₁.0 p.loose; there = p.there; row = p.row; offset = covers_offset_lem l.offset h.offset (num (pos o)) h₂.0 p.offset; tag = covers_tag_lem l.tag h.tag (num (pos (tag_in s b))) h₂.1 p.tag; inside = p.inside }
    go Cint None p = elim p [ ]
    go Cint (Some (Imm n)) p = elim p [ ]
    go Cint (Some (Place b o)) p = elim p [ ]
    go (Value r) None p = elim p [ ]
    go (Value r) (Some (Int n)) p = elim p [ ]

covers_at : (n : ℕ) (ls hs : List Entry) → T (covers_first n ls hs) → (v : ℕ) → v < n → T (covers_entry (get_or ls v no_entry) (get_or hs v no_entry))
unfolding covers_first
covers_at zero ls hs h v k = absurd (omega lin)
covers_at (suc n) ls hs h v k = go (ltb v n) refl (λ x. covers_at n ls hs (and_both (covers_first n ls hs) (covers_entry (get_or ls n no_entry) (get_or hs n no_entry)) h).0 v x)
  where
    go : (c : Bool) → ltb v n ≡ c → (v < n → T (covers_entry (get_or ls v no_entry) (get_or hs v no_entry))) → T (covers_entry (get_or ls v no_entry) (get_or hs v no_entry))
    go true q f = f (ltb-true v n q)
    go false q f =
        let z : n ≤ v = ltb-false v n q in
        let e : v ≡ n = omega lin in
        rw e (and_both (covers_first n ls hs) (covers_entry (get_or ls n no_entry) (get_or hs n no_entry)) h).1

-- ---- the same kind and row, offset 0

fits_kind : (ρ : Rows) (s : Store) (k l : Kind) (e : Entry) (g : Given) → T (same_kind k l) → Fits ρ s k e g → Fits ρ s l e g
fits_kind ρ s Cint Cint e g h p = p
fits_kind ρ s (Value q) (Value r) e g h p = subst (λ (z : ℕ). Fits ρ s (Value z) e g) (eqb→eq q r h) p
fits_kind ρ s Cint (Value r) e g h p = elim h [ ]
fits_kind ρ s (Value q) Cint e g h p = elim h [ ]

-- a value at offset 0 fits the loosest usual entry; so does every int
fits_loosest : (ρ : Rows) (s : Store) (k : Kind) (e : Entry) (g : Given) → T (is_zero e.offset) → Fits ρ s k e g → Fits ρ s k loosest g
fits_loosest ρ s Cint e (Some (Int n)) h p = tt
fits_loosest ρ s (Value r) e (Some (Imm n)) h p = record { loose = tt; still = refl; named = tt; suited = p.suited }
fits_loosest ρ s (Value r) e (Some (Place b o)) h p = record { loose = tt; there = p.there; row = p.row; offset = zero_offset e.offset (num (pos o)) h p.offset; tag = tt; inside = p.inside }
fits_loosest ρ s Cint e None h p = elim p [ ]
fits_loosest ρ s Cint e (Some (Imm n)) h p = elim p [ ]
fits_loosest ρ s Cint e (Some (Place b o)) h p = elim p [ ]
fits_loosest ρ s (Value r) e None h p = elim p [ ]
fits_loosest ρ s (Value r) e (Some (Int n)) h p = elim p [ ]

-- ---- lines

module _ (P : Prog) (Z : Sized P) (Γ : Env) (s : Store) (δ : List Given) (W : Sound P.rows s) (F : FitsAll P.rows s P.vars Γ δ) where
  set_each : (v : ℕ) (e : Entry) (g : Given) → v < length P.vars → Fits P.rows s (kind_at P.vars v) e g → (w : ℕ) → Dec (w ≡ v) → w < length P.vars → Fits P.rows s (kind_at P.vars w) (get_or (set Γ.entries v e) w no_entry) (get_or (set δ v g) w None)
  set_each v e g h p w (yes q) k =
      let f : length P.vars ≤ length Γ.entries = F.wide in
      let x : v < length Γ.entries = omega lin in
      let y : v < length δ = rw F.size h in
      rw (q, get_or-set_same Γ.entries v e no_entry x, get_or-set_same δ v g None y) p
  set_each v e g h p w (no q) k = rw (get_or-set_other Γ.entries v w e no_entry q, get_or-set_other δ v w g None q) (F.each w k)

  set_good : (v : ℕ) (e : Entry) (g : Given) → v < length P.vars → Fits P.rows s (kind_at P.vars v) e g → Good P (with_entry Γ v e) (set δ v g) s
  unfolding with_entry
  set_good v e g h p =
      record {
        store = W;
        vars = record {
          count = F.count;
          wide = rw (length-set Γ.entries v e) F.wide;
          size = length-set δ v g ∙ F.size;
          each = λ w k. set_each v e g h p w (ℕ_discrete w v) k;
        };
      }

  -- a variable's entry made sharper, its datum as it was
  refine_good : (v : ℕ) (k : Kind) (g : Given) (e : Entry) → kind_at P.vars v ≡ k → get_or δ v None ≡ g → v < length P.vars → Fits P.rows s k e g → Good P (with_entry Γ v e) δ s
  refine_good v k g e u w h p =
      let x : Good P (with_entry Γ v e) (set δ v (get_or δ v None)) s = set_good v e (get_or δ v None) h (rw (u, w) p) in
      rw (set-get_or δ v None) at x

  here : Good P Γ δ s
  here = record { store = W; vars = F }

-- what covers a label fits it
pub covers_good : (P : Prog) → Sized P → (l : ℕ) → l < length P.labels → (Δ : Env) (δ : List Given) (s : Store) → T (covers P.labels l Δ) → Good P Δ δ s → Good P (label_env P l) δ s
unfolding covers covers_env label_env
covers_good P Z l k Δ δ s h g =
    let a : length (label_at P.labels l).entries ≡ limits.variables = Z.labels l k in
    let b : length P.vars ≤ limits.variables = Z.vars in
    record {
      store = g.store;
      vars = record {
        count = refl;
        wide = omega lin;
        size = g.vars.size;
        each = λ v x. covers_fits P.rows s (kind_at P.vars v) (get_or (label_at P.labels l).entries v no_entry) (get_or Δ.entries v no_entry) (get_or δ v None)
            (covers_at Δ.count (label_at P.labels l).entries Δ.entries h v (rw g.vars.count x)) (g.vars.each v x);
      };
    }

there_in : (P : Prog) (l : ℕ) → T (label_there P l) → ltb l (length P.labels) ≡ true
unfolding label_there
there_in P l h = held (ltb l (length P.labels)) (and_both (ltb l (length P.labels)) (is_label l (get_or P.body (label_at P.labels l).line bad_s)) h).0

-- a jump that is covered reaches its label
pub jump_is : (P : Prog) (l : ℕ) → T (label_there P l) → (c : Bool) → jump_on P l c ≡ jump_if c P l
unfolding jump_on
jump_is P l t c = rw (held (label_there P l) t)

jumps : (P : Prog) → Sized P → (l : ℕ) → T (label_there P l) → (Δ Γ Γ' : Env) (b : Bool) (δ : List Given) (s : Store) → Good P Δ δ s → Promises (jump P.labels l Δ Γ (goes b Γ')).answer P (jump P.labels l Δ Γ (goes b Γ')) δ s (jump_on P l true)
jumps P Z l t Δ Γ Γ' b δ s g = rw (there_in P l t, jump_is P l t true) (go (covers P.labels l Δ) refl)
  where
    go : (c : Bool) → covers P.labels l Δ ≡ c → Promises (need (refuse 11 Γ) c (goes b Γ')).answer P (need (refuse 11 Γ) c (goes b Γ')) δ s (D.Jump (label_at P.labels l).line)
    go false q = tt
    go true q = record { label = l; is = refl; there = t; good = covers_good P Z l (ltb-true l (length P.labels) (there_in P l t)) Δ δ s (rw q tt) g }

-- where it does not jump, it goes on
stays : (P : Prog) (l : ℕ) → T (label_there P l) → (Δ Γ Γ' : Env) (b : Bool) (δ : List Given) (s : Store) → After P (goes b Γ') δ s D.Fall → Promises (jump P.labels l Δ Γ (goes b Γ')).answer P (jump P.labels l Δ Γ (goes b Γ')) δ s (jump_on P l false)
stays P l t Δ Γ Γ' b δ s h = rw (jump_is P l t false) (go (ltb l (length P.labels) && covers P.labels l Δ))
  where
    go : (c : Bool) → Promises (need (refuse 11 Γ) c (goes b Γ')).answer P (need (refuse 11 Γ) c (goes b Γ')) δ s D.Fall
    go false = tt
    go true = h

abbrev pub Obeys : Prog → Line → List Given → Store → Act → Type 0
Obeys P x δ s a = Promises x.answer P x δ s a

not_imm_lem : (b : Boxed) → T (is_box b) → MaySit b → ⊥
not_imm_lem B.Block h p = p
not_imm_lem B.Either h p = elim h [ ]
not_imm_lem B.Imm h p = elim h [ ]

not_place : (b : Boxed) → T (is_imm b) → MayPoint b → ⊥
not_place B.Imm h p = p
not_place B.Either h p = elim h [ ]
not_place B.Block h p = elim h [ ]

module _ (P : Prog) (Z : Sized P) (Γ : Env) (s : Store) (δ : List Given) (W : Sound P.rows s) (F : FitsAll P.rows s P.vars Γ δ) where
  abbrev good_here : Good P Γ δ s
  good_here = here P Z Γ s δ W F

  set_rule : (v : ℕ) → T (var_there P.vars v) → (x : Judged) (g : Given) → Meets P.rows s x g → Obeys P (rule_set P.vars v x Γ) δ s (act_set δ v g)
  unfolding rule_set act_set
  set_rule v t (Err n) g p = refused n P Γ δ s (act_set δ v g) p
  set_rule v t (Ok (k, e)) (Some d) p = go (same_kind k (kind_at P.vars v)) refl
    where
      h : v < length P.vars
      h = ltb→lt v (length P.vars) t

      go : (c : Bool) → same_kind k (kind_at P.vars v) ≡ c → Obeys P (need (refuse 6 Γ) c (goes true (with_entry Γ v e))) δ s (need D.Stuck (ltb v (length δ)) (D.SetVar v d))
      go false q = tt
      go true q = rw (F.size, lt-ltb v (length P.vars) h) (tt, set_good P Z Γ s δ W F v e (Some d) h (fits_kind P.rows s k (kind_at P.vars v) e (Some d) (rw q tt) p))
  set_rule v t (Ok (k, e)) None p = elim p [ ]

  if_rule : (l : ℕ) → T (label_there P l) → (x : Judged) (g : Given) → Meets P.rows s x g → Obeys P (rule_if P.labels l x Γ) δ s (act_if P l g)
  unfolding rule_if act_if
  if_rule l t (Err n) g p = refused n P Γ δ s (act_if P l g) p
  if_rule l t (Ok (Value r, e)) g p = tt
  if_rule l t (Ok (Cint, e)) (Some (Int n)) p = go (not (same_num n zero_n))
    where
      go : (c : Bool) → Obeys P (jump P.labels l Γ Γ (goes true Γ)) δ s (jump_on P l c)
      go true = jumps P Z l t Γ Γ Γ true δ s good_here
      go false = stays P l t Γ Γ Γ true δ s (tt, good_here)
  if_rule l t (Ok (Cint, e)) None p = elim p [ ]
  if_rule l t (Ok (Cint, e)) (Some (Imm _)) p = elim p [ ]
  if_rule l t (Ok (Cint, e)) (Some (Place _ _)) p = elim p [ ]

  return_rule : (x : Judged) (g : Given) → Meets P.rows s x g → Obeys P (rule_return P.ret x Γ) δ s (act_return g)
  unfolding rule_return
  return_rule (Err n) g p = refused n P Γ δ s (act_return g) p
  return_rule (Ok (k, e)) (Some d) p = go (same_kind k P.ret) (is_zero e.offset) refl refl
    where
      go : (a b : Bool) → same_kind k P.ret ≡ a → is_zero e.offset ≡ b → Obeys P (need (refuse 6 Γ) a (need (refuse 10 Γ) b (goes false Γ))) δ s (D.Give d)
      go false b h q = tt
      go true false h q = tt
      go true true h q = fits_loosest P.rows s P.ret e (Some d) (rw q tt) (fits_kind P.rows s k P.ret e (Some d) (rw h tt) p)
  return_rule (Ok (k, e)) None p = elim p [ ]

  -- the variable that a test names
  var_rule : (v : ℕ) → T (var_there P.vars v) → (R : Judged → Line) (A : Given → Act) → Obeys P (R (Ok (kind_at P.vars v, get_or Γ.entries v no_entry))) δ s (A (get_or δ v None)) → Obeys P (R (ty_var P.vars Γ v)) δ s (A (ev_var δ v))
  unfolding ty_var ev_var
  var_rule v t R A y = rw (F.count, lt-ltb v (length P.vars) (ltb→lt v (length P.vars) t)) y

  ifimm_rule : (l v : ℕ) → T (label_there P l) → v < length P.vars → (k : Kind) (e : Entry) (g : Given) → kind_at P.vars v ≡ k → get_or δ v None ≡ g → Fits P.rows s k e g → Obeys P (rule_ifimm P.labels l v (Ok (k, e)) Γ) δ s (act_ifimm P l g)
  unfolding rule_ifimm act_ifimm
  ifimm_rule l v t h Cint e g u w p = tt
  ifimm_rule l v t h (Value r) e (Some (Imm n)) u w p = go (is_zero e.offset)
    where
      go : (b : Bool) → Obeys P (need (refuse 10 Γ) b (jump P.labels l (with_entry Γ v (with_boxed e B.Imm)) Γ (goes true (with_entry Γ v (with_boxed e B.Block))))) δ s (jump_on P l true)
      go false = tt
      go true = jumps P Z l t (with_entry Γ v (with_boxed e B.Imm)) Γ (with_entry Γ v (with_boxed e B.Block)) true δ s (refine_good P Z Γ s δ W F v (Value r) (Some (Imm n)) (with_boxed e B.Imm) u w h (record { loose = tt; still = p.still; named = p.named; suited = p.suited }))
  ifimm_rule l v t h (Value r) e (Some (Place b o)) u w p = go (is_zero e.offset)
    where
      go : (c : Bool) → Obeys P (need (refuse 10 Γ) c (jump P.labels l (with_entry Γ v (with_boxed e B.Imm)) Γ (goes true (with_entry Γ v (with_boxed e B.Block))))) δ s (jump_on P l false)
      go false = tt
      go true = stays P l t (with_entry Γ v (with_boxed e B.Imm)) Γ (with_entry Γ v (with_boxed e B.Block)) true δ s (tt, refine_good P Z Γ s δ W F v (Value r) (Some (Place b o)) (with_boxed e B.Block) u w h (record { loose = tt; there = p.there; row = p.row; offset = p.offset; tag = p.tag; inside = p.inside }))
  ifimm_rule l v t h (Value r) e None u w p = elim p [ ]
  ifimm_rule l v t h (Value r) e (Some (Int _)) u w p = elim p [ ]

  iftag_rule : (l v : ℕ) (n : Num) → T (label_there P l) → v < length P.vars → (k : Kind) (e : Entry) (g : Given) → kind_at P.vars v ≡ k → get_or δ v None ≡ g → Fits P.rows s k e g → Obeys P (rule_iftag P.rows P.labels l v n (Ok (k, e)) Γ) δ s (act_iftag P s l n g)
  unfolding rule_iftag act_iftag
  iftag_rule l v n t h Cint e g u w p = tt
  iftag_rule l v n t h (Value r) e g u w p = go (is_zero e.offset) (is_box e.boxed) (among n.n (prods_of P.rows r)) refl refl g w p
    where
      leap : (b : ℕ) → FitsPlace s r e b 0 → get_or δ v None ≡ Some (Place b 0) → (c : Bool) → eq_z (pos (tag_in s b)) n.n ≡ c → Obeys P (jump P.labels l (with_entry Γ v (with_tag e n)) Γ (goes true Γ)) δ s (jump_on P l c)
      leap b p w true q = jumps P Z l t (with_entry Γ v (with_tag e n)) Γ Γ true δ s (refine_good P Z Γ s δ W F v (Value r) (Some (Place b 0)) (with_tag e n) u w h (record { loose = p.loose; there = p.there; row = p.row; offset = p.offset; tag = sym (ap num (eq_z→eq (pos (tag_in s b)) n.n (rw q tt))); inside = p.inside }))
      leap b p w false q = stays P l t (with_entry Γ v (with_tag e n)) Γ Γ true δ s (tt, good_here)

      go : (x y z : Bool) → is_zero e.offset ≡ x → is_box e.boxed ≡ y → (g : Given) → get_or δ v None ≡ g → Fits P.rows s (Value r) e g → Obeys P (need (refuse 10 Γ) x (need (refuse 7 Γ) y (need (refuse 8 Γ) z (jump P.labels l (with_entry Γ v (with_tag e n)) Γ (goes true Γ))))) δ s (act_iftag P s l n g)
      go false y z a c g w p = tt
      go true false z a c g w p = tt
      go true true false a c g w p = tt
      go true true true a c (Some (Imm m)) w p = absurd (not_imm_lem e.boxed (rw c tt) p.loose)
      go true true true a c (Some (Place b o)) w p =
          let z : 0 ≡ o = pos_of 0 o (zero_offset e.offset (num (pos o)) (rw a tt) p.offset) in
          let p' : FitsPlace s r e b 0 = rw (← z) at p in
          let w' : get_or δ v None ≡ Some (Place b 0) = rw (← z) at w in
          rw (← z, lt-ltb b (length s) p.there) (leap b p' w' (eq_z (pos (tag_in s b)) n.n) refl)
      go true true true a c None w p = elim p [ ]
      go true true true a c (Some (Int _)) w p = elim p [ ]

  ifint_rule : (l v : ℕ) (n : Num) → T (label_there P l) → v < length P.vars → (k : Kind) (e : Entry) (g : Given) → kind_at P.vars v ≡ k → get_or δ v None ≡ g → Fits P.rows s k e g → Obeys P (rule_ifint P.rows P.labels l v n (Ok (k, e)) Γ) δ s (act_ifint P l n g)
  unfolding rule_ifint act_ifint
  ifint_rule l v n t h Cint e g u w p = tt
  ifint_rule l v n t h (Value r) e g u w p = go (is_zero e.offset) (is_imm e.boxed) (suits (psi_of P.rows r) n) refl g w p
    where
      leap : (m : Num) → FitsImm P.rows r e m → get_or δ v None ≡ Some (Imm m) → (c : Bool) → same_num m n ≡ c → Obeys P (jump P.labels l (with_entry Γ v (with_tag e n)) Γ (goes true Γ)) δ s (jump_on P l c)
      leap m p w true q = jumps P Z l t (with_entry Γ v (with_tag e n)) Γ Γ true δ s (refine_good P Z Γ s δ W F v (Value r) (Some (Imm m)) (with_tag e n) u w h (record { loose = p.loose; still = p.still; named = sym (same→eq m n (rw q tt)); suited = p.suited }))
      leap m p w false q = stays P l t (with_entry Γ v (with_tag e n)) Γ Γ true δ s (tt, good_here)

      go : (x y z : Bool) → is_imm e.boxed ≡ y → (g : Given) → get_or δ v None ≡ g → Fits P.rows s (Value r) e g → Obeys P (need (refuse 10 Γ) x (need (refuse 7 Γ) y (need (refuse 9 Γ) z (jump P.labels l (with_entry Γ v (with_tag e n)) Γ (goes true Γ))))) δ s (act_ifint P l n g)
      go false y z c g w p = tt
      go true false z c g w p = tt
      go true true false c g w p = tt
      go true true true c (Some (Imm m)) w p = leap m p w (same_num m n) refl
      go true true true c (Some (Place b o)) w p = absurd (not_place e.boxed (rw c tt) p.loose)
      go true true true c None w p = elim p [ ]
      go true true true c (Some (Int _)) w p = elim p [ ]

  -- put
  put_good : (b o : ℕ) (d : Datum) → b < length s → o < cells_in s b → Fits P.rows s (Value (field_of P.rows (row_in s b) (tag_in s b) o)) loosest (Some d) → Good P Γ δ (set_cell s b o d)
  put_good b o d h k p =
      record {
        store = put_sound s b o d P.rows W h k p;
        vars = record { count = F.count; wide = F.wide; size = F.size; each = λ v x. fits_keeps s b o d P.rows (kind_at P.vars v) (get_or Γ.entries v no_entry) (get_or δ v None) (F.each v x) };
      }

  put_aim : (m : Num) (r : ℕ) (l : Kind) (e : Entry) (a d : Datum) → Fits P.rows s l e (Some d) → (x : Addr) → Aims P.rows s r a m x → Obeys P (put_at P.rows r l e x Γ) δ s (act_put s m (Some a) (Some d))
  unfolding act_put moved
  put_aim m r l e a d p (Err n) h = refused n P Γ δ s (act_put s m (Some a) (Some d)) h
  put_aim m r l e (Place b o) d p (Ok (t, o')) h = go (same_kind l (Value (field_of P.rows r t o'))) (is_zero e.offset) refl refl
    where
      store : (d : Datum) → Fits P.rows s (Value (field_of P.rows r t o')) loosest (Some d) → After P (goes true Γ) δ s (store_at b o' (Some d))
      store (Imm n) p = (tt, put_good b o' (Imm n) h.there h.inside (rw (h.row, h.tag) p))
      store (Place c i) p = (tt, put_good b o' (Place c i) h.there h.inside (rw (h.row, h.tag) p))
      store (Int _) p = elim p [ ]

      go : (x y : Bool) → same_kind l (Value (field_of P.rows r t o')) ≡ x → is_zero e.offset ≡ y → Obeys P (need (refuse 6 Γ) x (need (refuse 10 Γ) y (goes true Γ))) δ s (act_put s m (Some (Place b o)) (Some d))
      go false y u v = tt
      go true false u v = tt
      go true true u v = rw (h.moves, is_inside s b o' h.there h.inside) (store d (fits_loosest P.rows s (Value (field_of P.rows r t o')) e (Some d) (rw v tt) (fits_kind P.rows s l (Value (field_of P.rows r t o')) e (Some d) (rw u tt) p)))
  put_aim m r l e (Int _) d p (Ok (t, o')) h = elim h [ ]
  put_aim m r l e (Imm _) d p (Ok (t, o')) h = elim h [ ]

  put_rule : (m : Num) (x y : Judged) (g k : Given) → Meets P.rows s x g → Meets P.rows s y k → Obeys P (rule_put P.rows m x y Γ) δ s (act_put s m g k)
  unfolding rule_put
  put_rule m (Err n) y g k p q = refused n P Γ δ s (act_put s m g k) p
  put_rule m (Ok (l, e)) (Err n) g k p q = refused n P Γ δ s (act_put s m g k) q
  put_rule m (Ok (Cint, e)) (Ok (l, d)) g k p q = tt
  put_rule m (Ok (Value r, e)) (Ok (l, c)) (Some a) (Some d) p q = put_aim m r l c a d q (address_of P.rows r e (G.Known m)) (address P.rows s W r e a p (G.Known m) m refl)
  put_rule m (Ok (Value r, e)) (Ok (l, c)) None k p q = elim p [ ]
  put_rule m (Ok (Value r, e)) (Ok (l, c)) (Some a) None p q = elim q [ ]

  -- a line that is reached and whose names exist
  pub line_sound : (st : Stmt) → T (stmt_there P st) → Obeys P (line_of P true Γ st) δ s (act P s δ st)
  unfolding line_of act stmt_there rule_goto rule_label
  line_sound (set_s v x) t = set_rule v (and_both (var_there P.vars v) (expr_there P x) t).0 (type P.rows P.vars Γ x) (eval P.rows s δ x) (expr_sound P.rows s P.vars Γ δ W F x)
  line_sound (put_s x m y) t = put_rule m (type P.rows P.vars Γ x) (type P.rows P.vars Γ y) (eval P.rows s δ x) (eval P.rows s δ y) (expr_sound P.rows s P.vars Γ δ W F x) (expr_sound P.rows s P.vars Γ δ W F y)
  line_sound (goto_s l) t = jumps P Z l t Γ Γ Γ false δ s good_here
  line_sound (if_s l x) t = if_rule l (and_both (label_there P l) (expr_there P x) t).0 (type P.rows P.vars Γ x) (eval P.rows s δ x) (expr_sound P.rows s P.vars Γ δ W F x)
  line_sound (ifimm_s l v) t =
      let q = and_both (label_there P l) (var_there P.vars v) t in
      let h : v < length P.vars = ltb→lt v (length P.vars) q.1 in
      var_rule v q.1 (λ x. rule_ifimm P.labels l v x Γ) (act_ifimm P l) (ifimm_rule l v q.0 h (kind_at P.vars v) (get_or Γ.entries v no_entry) (get_or δ v None) refl refl (F.each v h))
  line_sound (iftag_s l v n) t =
      let q = and_both (label_there P l) (var_there P.vars v) t in
      let h : v < length P.vars = ltb→lt v (length P.vars) q.1 in
      var_rule v q.1 (λ x. rule_iftag P.rows P.labels l v n x Γ) (act_iftag P s l n) (iftag_rule l v n q.0 h (kind_at P.vars v) (get_or Γ.entries v no_entry) (get_or δ v None) refl refl (F.each v h))
  line_sound (ifint_s l v n) t =
      let q = and_both (label_there P l) (var_there P.vars v) t in
      let h : v < length P.vars = ltb→lt v (length P.vars) q.1 in
      var_rule v q.1 (λ x. rule_ifint P.rows P.labels l v n x Γ) (act_ifint P l n) (ifint_rule l v n q.0 h (kind_at P.vars v) (get_or Γ.entries v no_entry) (get_or δ v None) refl refl (F.each v h))
  line_sound (return_s x) t = return_rule (type P.rows P.vars Γ x) (eval P.rows s δ x) (expr_sound P.rows s P.vars Γ δ W F x)
  line_sound (label_s l) t = rw (jump_is P l t false) (go (covers P.labels l Γ) refl)
    where
      go : (c : Bool) → covers P.labels l Γ ≡ c → Obeys P (need (refuse 11 Γ) c (goes true (label_env P l))) δ s D.Fall
      go false q = tt
      go true q = (tt, covers_good P Z l (ltb-true l (length P.labels) (there_in P l t)) Γ δ s (rw q tt) good_here)
  line_sound bad_s t = elim t [ ]
