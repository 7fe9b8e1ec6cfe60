-- What a line decides can be done: a datum that an expression gives was read from a table, or made of a number, or is a place inside its block, so that it has a code of 64 bits;
-- and where a line decides anything there is a line. Assumes nothing.
use native.Mathlib.Omega.{arith as lin}
use native.Mathlib.Decide.{dec_lt}
use lib.Dec.{T, ltb→lt}
use lib.ListN.{get_or-eq_default}
use Rattle.std.specs.Prelude.{◌<◌, ◌≤◌, ◌&&◌, ◌+ℤ◌, ◌≡◌, Some, None}
use Rattle.rules.specs.Prelude.{ℕ, Bool, true, false, not, List, ℤ, pos, negsuc, ltb, eqb, get_or, length, refl, sym, subst}
use Rattle.rules.specs.declared.Num.{Num}
use Rattle.rules.specs.declared.Datum.TheVariants.{Int, Imm, Place}
use Rattle.rules.specs.Machine.{Given}
use Rattle.rules.specs.declared.Act.{Act}
use Rattle.rules.specs.declared.Act.TheVariants as D
use Rattle.rules.specs.Numbers.{zero_n, eq_z, same_num}
use Rattle.rules.specs.Program.{Rows, row_there, label_there, Expr, bad, lit, var, arith, val, int, fetch, step, Stmt, bad_s, set_s, put_s, goto_s, if_s, ifimm_s, iftag_s, ifint_s, return_s, label_s, Prog}
use Rattle.rules.specs.View.{body_from, program}
use Rattle.rules.proofs.Laws.Lists.{tab_length, up_to_le}
use Rattle.rules.proofs.Laws.Tests.{by_need, and_both}
use Rattle.rules.specs.Machine.{Store, tag_in, inside, cells_in, cell_at, need_int, need_imm, need_place, ev_var, ev_arith, ev_val, ev_int, ev_fetch, moved, ev_step, eval, jump_if, jump_on, act_set, store_at, act_put, act_if, act_ifimm, act_iftag, act_ifint, act_return, act, decide}
use Rattle.rules.specs.Machine.Tables.{store_of, vals_of}
use Rattle.entry.specs.Codes.{writable}
use Rattle.entry.specs.Again.{Held}
use Rattle.entry.proofs.Again.{place_writable, read_writable}
use Rattle.storage.proofs.Laws.{blocks_small, cells_small, cell_in, cell_out, val_in, val_out}
use Rattle.moves.specs.Moves.{lines, Words, Ready}

-- ---- a property of what is needed of a datum: of the refusal, and of the rest

by_int : {A : Type 0} (Q : A → Type 0) (stuck : A) (g : Given) (k : Num → A) → Q stuck → ((n : Num) → Q (k n)) → Q (need_int stuck g k)
by_int Q stuck None k r f = r
by_int Q stuck (Some (Int n)) k r f = f n
by_int Q stuck (Some (Imm n)) k r f = r
by_int Q stuck (Some (Place b o)) k r f = r

by_imm : {A : Type 0} (Q : A → Type 0) (stuck : A) (g : Given) (k : Num → A) → Q stuck → ((n : Num) → Q (k n)) → Q (need_imm stuck g k)
by_imm Q stuck None k r f = r
by_imm Q stuck (Some (Int n)) k r f = r
by_imm Q stuck (Some (Imm n)) k r f = f n
by_imm Q stuck (Some (Place b o)) k r f = r

by_place : {A : Type 0} (Q : A → Type 0) (stuck : A) (g : Given) (k : ℕ → ℕ → A) → Q stuck → ((b o : ℕ) → Q (k b o)) → Q (need_place stuck g k)
by_place Q stuck None k r f = r
by_place Q stuck (Some (Int n)) k r f = r
by_place Q stuck (Some (Imm n)) k r f = r
by_place Q stuck (Some (Place b o)) k r f = f b o

-- ---- over a store and variables whose data can be written

module _ (s : Store) (δ : List Given) (vars : (v : ℕ) → Held (ev_var δ v)) (cells : (b o : ℕ) → Held (cell_at s b o)) (here : (b o : ℕ) → T (inside s b o) → writable (Place b o) ≡ true) where
  moved_held : (b : ℕ) (z : ℤ) → Held (moved s b z)
  unfolding moved
  moved_held b (pos o) = by_need Held None (inside s b o) (Some (Place b o)) tt (here b o)
  moved_held b (negsuc o) = tt

  eval_held : (ρ : Rows) (x : Expr) → Held (eval ρ s δ x)
  unfolding eval ev_arith ev_val ev_int ev_fetch ev_step writable
  eval_held ρ bad = tt
  eval_held ρ (lit n) = refl
  eval_held ρ (var v) = vars v
  eval_held ρ (arith o x y) = by_int Held None (eval ρ s δ x) _ tt (λ a. by_int Held None (eval ρ s δ y) _ tt (λ c. refl))
  eval_held ρ (val r x) = by_int Held None (eval ρ s δ x) _ tt (λ n. by_need Held None (row_there ρ r) (Some (Imm n)) tt (λ _. refl))
  eval_held ρ (int x) = by_imm Held None (eval ρ s δ x) _ tt (λ n. refl)
  eval_held ρ (fetch x) = by_place Held None (eval ρ s δ x) _ tt (λ b o. by_need Held None (inside s b o) (cell_at s b o) tt (λ _. cells b o))
  eval_held ρ (step x y) = by_place Held None (eval ρ s δ x) _ tt (λ b o. by_int Held None (eval ρ s δ y) _ tt (λ m. moved_held b (pos o +ℤ m.n)))

  -- at a line that is there
  module _ (i : ℕ) (h : i < 512) where
    abbrev At : Act → Type 0
    At a = Ready a i

    jump_ready : (P : Prog) (l : ℕ) (c : Bool) → At (jump_on P l c)
    unfolding jump_on
    jump_ready P l true = by_need At D.Stuck (label_there P l) (jump_if true P l) tt (λ _. tt)
    jump_ready P l false = by_need At D.Stuck (label_there P l) (jump_if false P l) tt (λ _. h)

    set_ready : (v : ℕ) (g : Given) → Held g → At (act_set δ v g)
    unfolding act_set
    set_ready v None k = tt
    set_ready v (Some d) k = by_need At D.Stuck (ltb v (length δ)) (D.SetVar v d) tt (λ _. (h, k))

    store_ready : (b o : ℕ) (g : Given) → Held g → At (store_at b o g)
    store_ready b o None k = tt
    store_ready b o (Some (Int n)) k = tt
    store_ready b o (Some (Imm n)) k = (h, k)
    store_ready b o (Some (Place c j)) k = (h, k)

    imm_ready : (P : Prog) (l : ℕ) (g : Given) → At (act_ifimm P l g)
    unfolding act_ifimm
    imm_ready P l None = tt
    imm_ready P l (Some (Int n)) = tt
    imm_ready P l (Some (Imm n)) = jump_ready P l true
    imm_ready P l (Some (Place b o)) = jump_ready P l false

    return_ready : (g : Given) → Held g → At (act_return g)
    return_ready None k = tt
    return_ready (Some d) k = k

    act_ready : (P : Prog) (x : Stmt) → At (act P s δ x)
    unfolding act act_put act_if act_iftag act_ifint
    act_ready P bad_s = tt
    act_ready P (set_s v x) = set_ready v (eval P.rows s δ x) (eval_held P.rows x)
    act_ready P (put_s x n y) =
        by_place At D.Stuck (eval P.rows s δ x) _ tt (λ b o. by_place At D.Stuck (moved s b (pos o +ℤ n.n)) _ tt (λ c j. store_ready c j (eval P.rows s δ y) (eval_held P.rows y)))
    act_ready P (goto_s l) = jump_ready P l true
    act_ready P (if_s l x) = by_int At D.Stuck (eval P.rows s δ x) _ tt (λ n. jump_ready P l (not (same_num n zero_n)))
    act_ready P (ifimm_s l v) = imm_ready P l (ev_var δ v)
    act_ready P (iftag_s l v n) = by_place At D.Stuck (ev_var δ v) _ tt (λ b o. by_need At D.Stuck (eqb o 0 && ltb b (length s)) (jump_on P l (eq_z (pos (tag_in s b)) n.n)) tt (λ _. jump_ready P l (eq_z (pos (tag_in s b)) n.n)))
    act_ready P (ifint_s l v n) = by_imm At D.Stuck (ev_var δ v) _ tt (λ m. jump_ready P l (same_num m n))
    act_ready P (return_s x) = return_ready (eval P.rows s δ x) (eval_held P.rows x)
    act_ready P (label_s l) = jump_ready P l false

  line_ready : (P : Prog) → length P.body ≤ 512 → (i : ℕ) → Dec (i < 512) → Ready (decide P s δ i) i
  unfolding decide act
  line_ready P m i (yes h) = act_ready i h P (get_or P.body i bad_s)
  line_ready P m i (no h) = let past : length P.body ≤ i = omega (lin, m, h) in subst (λ (x : Stmt). Ready (act P s δ x) i) (sym (get_or-eq_default P.body bad_s past)) tt

-- ---- over tables of 64-bit numbers

module _ (S H C : List ℕ) (c : Words C) where
  cell_held : (b o : ℕ) → Held (cell_at (store_of S H C) b o)
  cell_held b o = go (dec_lt o (cells_in (store_of S H C) b))
    where
      go : Dec (o < cells_in (store_of S H C) b) → Held (cell_at (store_of S H C) b o)
      go (yes h) = subst Held (sym (cell_in S H C b o h)) (read_writable _ (c _))
      go (no h) = subst Held (sym (cell_out (store_of S H C) b o (omega (lin, h)))) tt

  inside_held : (b o : ℕ) → T (inside (store_of S H C) b o) → writable (Place b o) ≡ true
  inside_held b o h =
      let s : Store = store_of S H C in
      let both : T (ltb b (length s)) × T (ltb o (cells_in s b)) = and_both (ltb b (length s)) (ltb o (cells_in s b)) h in
      place_writable b o (omega (lin, ltb→lt b (length s) both.0, blocks_small S H C)) (omega (lin, ltb→lt o (cells_in s b) both.1, cells_small S H C b))

val_held : (n : ℕ) (W : List ℕ) → Words W → (v : ℕ) → Held (ev_var (vals_of n W) v)
val_held n W w v = go (dec_lt v n)
  where
    go : Dec (v < n) → Held (ev_var (vals_of n W) v)
    go (yes h) = subst Held (sym (val_in n W v h)) (read_writable _ (w v))
    go (no h) = subst Held (sym (val_out n W v (omega (lin, h)))) tt

body_small : (Z N L B R D : List ℕ) → length (lines Z N L B R D).body ≤ 512
unfolding program body_from
body_small Z N L B R D = subst (λ (n : ℕ). n ≤ 512) (sym (tab_length _ _)) (up_to_le 512 _)

pub ready : (Z N L B R D S H C W : List ℕ) (n i : ℕ) → Words C → Words W → Ready (decide (lines Z N L B R D) (store_of S H C) (vals_of n W) i) i
ready Z N L B R D S H C W n i c w =
    line_ready (store_of S H C) (vals_of n W) (val_held n W w) (cell_held S H C c) (inside_held S H C c) (lines Z N L B R D) (body_small Z N L B R D) i (dec_lt i 512)
