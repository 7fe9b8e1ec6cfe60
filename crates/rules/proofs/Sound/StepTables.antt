-- The machine's tables: a step on tables is a step on what they mean, whatever numbers stand in them. Assumes nothing.
use Rattle.std.proofs.Math.Dec.{T, ltb→lt}
use Rattle.rules.specs.declared.Form.{Form}
use Rattle.rules.specs.declared.Way.{Way}
use Rattle.rules.specs.declared.Form.TheVariants as M
use Rattle.rules.specs.declared.Way.TheVariants as Ws
use Rattle.std.proofs.Math.ListN.{length-set}
use Rattle.std.proofs.Common.{get_or-set_same, get_or-set_other}
use native.Mathlib.Omega.{arith as lin}
use Rattle.std.specs.Prelude.{◌+◌, ◌-◌, ◌*◌, ◌/◌, ◌%◌, ◌<◌, ◌≤◌, ◌&&◌, ◌≡◌, ◌+ℤ◌}
use Rattle.rules.specs.Machine.{Given}
use Rattle.rules.specs.Prelude.{ℕ, zero, suc, Bool, true, false, not, List, refl, ap, ◌∙◌, ltb, eqb, ℤ, pos, negsuc, length, get_or, set, Num, Op, Datum, Int, Imm, Place, None, Some, Act}
use Rattle.rules.specs.Prelude.D
use Rattle.rules.specs.When.{when}
use Rattle.rules.specs.Numbers.{eq_z, zero_n, same_num, num_code}
use Rattle.rules.specs.Limits.{limits}
use Rattle.rules.specs.declared.Tables.{Tables}
use Rattle.rules.specs.Text.Layout.{cell}
use Rattle.rules.specs.Program.{Rows, row_there, Expr, bad, lit, var, arith, val, int, fetch, step, Stmt, bad_s, set_s, put_s, goto_s, if_s, ifimm_s, iftag_s, ifint_s, return_s, label_s, label_there, Prog}
use Rattle.rules.specs.View.{body_from, vars_from, form_of, Walked, walked, one, two, tree_node, tree_at, with_one, with_two, tree_of, stmt_of, stmt_from, program, tab, up_to}
use Rattle.rules.specs.Machine.Tables.{block_width, head_width, run_t, datum_code, code_of, MTables, block_from, store_of, vals_of, machine, apply_t, step_from_t, step_t}
use Rattle.rules.specs.Machine.{tag_in, ev_arith, ev_val, ev_int, ev_fetch, ev_step, need_place, no_block, ev_var, moved, eval, jump_if, jump_on, store_at, act_set, act_put, act_if, act_ifimm, act_iftag, act_ifint, act_return, act, inside, cells_in, cell_at, run_of, Store, decide, set_cell, apply, step_from, step_of}
use Rattle.rules.proofs.Laws.Tests.{by_need, and_both}
use Rattle.rules.proofs.Laws.Lists.{tab_all, tab_length, tab_in, tab_ext, tab_set, up_to_le}
use Rattle.rules.proofs.Laws.Small.{Small, SmallN, datum_small, datum_again, arith_small, word_is_small}

vals_set : (n : ℕ) (W : List ℕ) (v c : ℕ) (g : Given) → v < length W → datum_code c ≡ g → vals_of n (set W v c) ≡ set (vals_of n W) v g
unfolding vals_of
vals_set n W v c g h e =
    tab_set n (λ i. datum_code (get_or W i 0)) (λ i. datum_code (get_or (set W v c) i 0)) v g (rw (get_or-set_same W v c 0 h) e) (λ j k ne. ap datum_code (get_or-set_other W v j c 0 ne))

module _ (Z H C : List ℕ) (b o c : ℕ) (d : Datum) (in_b : b < up_to limits.blocks (get_or Z 1 0)) (in_o : o < block_width) (in_c : b * block_width + o < length C) (e : datum_code c ≡ Some d) where
  same_block : tab (up_to block_width (cell H head_width b 2)) (λ j. datum_code (cell (set C (b * block_width + o) c) block_width b j)) ≡ set (tab (up_to block_width (cell H head_width b 2)) (λ j. datum_code (cell C block_width b j))) o (Some d)
  same_block =
      tab_set (up_to block_width (cell H head_width b 2)) (λ j. datum_code (cell C block_width b j)) (λ j. datum_code (cell (set C (b * block_width + o) c) block_width b j)) o (Some d)
      (rw (get_or-set_same C (b * block_width + o) c 0 in_c) e)
      (λ j k ne. ap datum_code (get_or-set_other C (b * block_width + o) (b * block_width + j) c 0 (λ q. ne (omega (lin, q)))))

  other_block : (k : ℕ) → (k ≡ b → ⊥) → block_from H (set C (b * block_width + o) c) k ≡ block_from H C k
  unfolding block_from
  other_block k ne = λ i. record { row = (block_from H C k).row; tag = (block_from H C k).tag; cells = others i }
    where
      others : tab (up_to block_width (cell H head_width k 2)) (λ j. datum_code (cell (set C (b * block_width + o) c) block_width k j)) ≡ tab (up_to block_width (cell H head_width k 2)) (λ j. datum_code (cell C block_width k j))
      others = tab_ext (up_to block_width (cell H head_width k 2)) _ _ (λ j x. let y : up_to block_width (cell H head_width k 2) ≤ block_width = up_to_le block_width (cell H head_width k 2) in ap datum_code (get_or-set_other C (b * block_width + o) (k * block_width + j) c 0 (λ q. ne (omega (lin, q, in_o)))))

  written : block_from H (set C (b * block_width + o) c) b ≡ record { row = (block_from H C b).row; tag = (block_from H C b).tag; cells = set (block_from H C b).cells o (Some d) }
  unfolding block_from
  written = λ i. record { row = cell H head_width b 0 - 1; tag = cell H head_width b 1; cells = same_block i }

  pub store_set : store_of Z H (set C (b * block_width + o) c) ≡ set_cell (store_of Z H C) b o d
  unfolding store_of set_cell
  store_set =
      tab_set (up_to limits.blocks (get_or Z 1 0)) (block_from H C) (block_from H (set C (b * block_width + o) c)) b _
      (rw (tab_in (up_to limits.blocks (get_or Z 1 0)) (block_from H C) b no_block in_b) written)
      (λ k x ne. other_block k ne)

-- an act that stays inside the tables, and whose datum can be written in one
abbrev pub Bounded : Act → MTables → Type 0
Bounded D.Stuck t = Unit
Bounded D.Fall t = Unit
Bounded (D.Jump i) t = Unit
Bounded (D.SetVar v d) t = (v < length t.vals) × (datum_code (code_of d) ≡ Some d)
Bounded (D.SetCell b o d) t = (b < up_to limits.blocks (get_or t.size 1 0)) × (o < block_width) × (b * block_width + o < length t.cells) × (datum_code (code_of d) ≡ Some d)
Bounded (D.Give d) t = datum_code (code_of d) ≡ Some d

pub apply_tables : (P : Prog) (t : MTables) (a : Act) → Bounded a t → machine P (apply_t a t) ≡ apply a (machine P t)
unfolding machine apply_t apply
apply_tables P t D.Stuck h = refl
apply_tables P t D.Fall h = refl
apply_tables P t (D.Jump i) h = refl
apply_tables P t (D.SetVar v d) h =
    let p = vals_set (length P.vars) t.vals v (code_of d) (Some d) h.0 h.1 in
    λ i. record { at = t.at + 1; steps = t.steps + 1; value = datum_code t.value; vals = p i; store = store_of t.size t.heads t.cells }
apply_tables P t (D.SetCell b o d) h =
    let p = store_set t.size t.heads t.cells b o (code_of d) d h.0 h.1 h.2 h.3 in
    λ i. record { at = t.at + 1; steps = t.steps + 1; value = datum_code t.value; vals = vals_of (length P.vars) t.vals; store = p i }
apply_tables P t (D.Give d) h = λ i. record { at = t.at; steps = t.steps + 1; value = h i; vals = vals_of (length P.vars) t.vals; store = store_of t.size t.heads t.cells }

-- ---- every act that is decided from tables stays inside them

-- the tables have their lengths
pub record Roomy (t : MTables) : Type 0 where
  pub vals : length t.vals ≡ limits.variables
  pub cells : length t.cells ≡ limits.blocks * block_width

-- the numbers of an expression, and of a line, are 32-bit
abbrev pub SmallE : Expr → Type 0
SmallE bad = Unit
SmallE (lit n) = SmallN n
SmallE (var v) = Unit
SmallE (arith o x y) = SmallE x × SmallE y
SmallE (val r x) = SmallE x
SmallE (int x) = SmallE x
SmallE (fetch x) = SmallE x
SmallE (step x y) = SmallE x × SmallE y

abbrev pub SmallS : Stmt → Type 0
SmallS bad_s = Unit
SmallS (set_s v x) = SmallE x
SmallS (put_s x n y) = SmallE x × SmallE y
SmallS (goto_s l) = Unit
SmallS (if_s l x) = SmallE x
SmallS (ifimm_s l v) = Unit
SmallS (iftag_s l v n) = Unit
SmallS (ifint_s l v n) = Unit
SmallS (return_s x) = SmallE x
SmallS (label_s l) = Unit

abbrev SmallW : Walked → Type 0
SmallW (walked x n) = SmallE x

one_small : (f : Expr → Expr) → ((x : Expr) → SmallE x → SmallE (f x)) → (w : Walked) → SmallW w → SmallW (one f w)
one_small f h (walked x n) p = h x p

two_small : (f : Expr → Expr → Expr) → ((x y : Expr) → SmallE x → SmallE y → SmallE (f x y)) → (g : ℕ → Walked) → ((k : ℕ) → SmallW (g k)) → (w : Walked) → SmallW w → SmallW (two f g w)
two_small f h g q (walked x n) p = one_small (f x) (λ y. h x y p) (g n) (q n)

node_small : (g : ℕ → Walked) → ((k : ℕ) → SmallW (g k)) → (k : ℕ) (φ : Form) (a : ℕ) → SmallW (tree_node g k φ a)
node_small g q k M.Absent a = tt
node_small g q k M.Lit a = word_is_small a
node_small g q k M.Var a = tt
node_small g q k M.Fetch a = one_small fetch (λ x p. p) (g (k + 1)) (q (k + 1))
node_small g q k M.Int a = one_small int (λ x p. p) (g (k + 1)) (q (k + 1))
node_small g q k M.Val a = one_small (val a) (λ x p. p) (g (k + 1)) (q (k + 1))
node_small g q k M.Step a = two_small step (λ x y p r. (p, r)) g q (g (k + 1)) (q (k + 1))
node_small g q k (M.Calc o) a = two_small (arith o) (λ x y p r. (p, r)) g q (g (k + 1)) (q (k + 1))

tree_small : (N : List ℕ) (d k : ℕ) → SmallW (tree_at N d k)
unfolding tree_at
tree_small N zero k = tt
tree_small N (suc d) k = go (ltb k limits.nodes) (λ j. tree_small N d j)
  where
    go : (c : Bool) → ((j : ℕ) → SmallW (tree_at N d j)) → SmallW (when c (λ _. tree_node (tree_at N d) k (form_of (get_or N k 0 / 4294967296)) (get_or N k 0 % 4294967296)) (λ _. walked bad k))
    go true q = node_small (tree_at N d) q k (form_of (get_or N k 0 / 4294967296)) (get_or N k 0 % 4294967296)
    go false q = tt

-- a line of one expression, and of two
one_line_lem : (f : Expr → Stmt) → ((x : Expr) → SmallE x → SmallS (f x)) → (w : Walked) → SmallW w → SmallS (with_one f w)
one_line_lem f h (walked x n) p = h x p

two_line : (N : List ℕ) (f : Expr → Expr → Stmt) → ((x y : Expr) → SmallE x → SmallE y → SmallS (f x y)) → (w : Walked) → SmallW w → SmallS (with_two N f w)
two_line N f h (walked x n) p = go (tree_at N limits.depth n) (tree_small N limits.depth n)
  where
    go : (w : Walked) → SmallW w → SmallS (f x (tree_of w))
    go (walked y m) q = h x y p q

line_small : (N : List ℕ) (way : Way) (l v w k : ℕ) → SmallS (stmt_of N way l v w k)
unfolding stmt_of
line_small N Ws.Absent l v w k = tt
line_small N Ws.Set l v w k = one_line_lem (set_s v) (λ x p. p) (tree_at N limits.depth k) (tree_small N limits.depth k)
line_small N Ws.Put l v w k = two_line N (λ x y. put_s x (num_code w) y) (λ x y p q. (p, q)) (tree_at N limits.depth k) (tree_small N limits.depth k)
line_small N Ws.Goto l v w k = tt
line_small N Ws.If l v w k = one_line_lem (if_s l) (λ x p. p) (tree_at N limits.depth k) (tree_small N limits.depth k)
line_small N Ws.IfImm l v w k = tt
line_small N Ws.IfTag l v w k = tt
line_small N Ws.IfInt l v w k = tt
line_small N Ws.Return l v w k = one_line_lem return_s (λ x p. p) (tree_at N limits.depth k) (tree_small N limits.depth k)
line_small N Ws.Label l v w k = tt

pub body_small : (T : Tables) (i : ℕ) → SmallS (get_or (program T).body i bad_s)
unfolding program body_from stmt_from
body_small T i = tab_all SmallS _ (stmt_from T.nodes T.body) bad_s tt (λ j. line_small T.nodes _ _ _ _ _) i

-- ---- what tables hold, and what expressions give

arith_gives : (o : Op) (g h : Given) → Small (ev_arith o g h)
unfolding ev_arith
arith_gives o None h = tt
arith_gives o (Some (Imm n)) h = tt
arith_gives o (Some (Place b i)) h = tt
arith_gives o (Some (Int a)) None = tt
arith_gives o (Some (Int a)) (Some (Imm n)) = tt
arith_gives o (Some (Int a)) (Some (Place b i)) = tt
arith_gives o (Some (Int a)) (Some (Int c)) = arith_small o a c

val_gives : (ρ : Rows) (r : ℕ) (g : Given) → Small g → Small (ev_val ρ r g)
unfolding ev_val
val_gives ρ r None p = tt
val_gives ρ r (Some (Int n)) p = by_need Small None (row_there ρ r) (Some (Imm n)) tt (λ h. p)
val_gives ρ r (Some (Imm n)) p = tt
val_gives ρ r (Some (Place b o)) p = tt

int_gives : (g : Given) → Small g → Small (ev_int g)
unfolding ev_int
int_gives None p = tt
int_gives (Some (Int n)) p = tt
int_gives (Some (Imm n)) p = p
int_gives (Some (Place b o)) p = tt

-- a place that lies inside, or nothing
abbrev InsideOf : Store → Given → Type 0
InsideOf s None = Unit
InsideOf s (Some (Int n)) = ⊥
InsideOf s (Some (Imm n)) = ⊥
InsideOf s (Some (Place b o)) = (b < length s) × (o < cells_in s b)

module _ (t : MTables) where
  abbrev σ : Store
  σ = store_of t.size t.heads t.cells

  store_length : length σ ≡ up_to limits.blocks (get_or t.size 1 0)
  unfolding store_of
  store_length = tab_length (up_to limits.blocks (get_or t.size 1 0)) _

  width_most : (b : ℕ) → cells_in σ b ≤ block_width
  unfolding store_of cells_in block_from
  width_most b = tab_all (λ K. length K.cells ≤ block_width) _ (block_from t.heads t.cells) no_block (omega lin) (λ k. rw (tab_length (up_to block_width (cell t.heads head_width k 2))) (up_to_le block_width (cell t.heads head_width k 2))) b

  cell_small : (b o : ℕ) → Small (cell_at σ b o)
  unfolding store_of cell_at block_from
  cell_small b o = tab_all (λ K. Small (get_or K.cells o None)) _ (block_from t.heads t.cells) no_block tt (λ k. tab_all Small _ _ None tt (λ j. datum_small (cell t.cells block_width k j)) o) b

  -- where a place lies inside
  inside_facts : (b o : ℕ) → T (inside σ b o) → (b < length σ) × (o < cells_in σ b)
  inside_facts b o h =
      let (u, w) = and_both (ltb b (length σ)) (ltb o (cells_in σ b)) h in
      (ltb→lt b (length σ) u, ltb→lt o (cells_in σ b) w)

  moved_inside : (b : ℕ) (z : ℤ) → InsideOf σ (moved σ b z)
  unfolding moved
  moved_inside b (pos o) = by_need (InsideOf σ) None (inside σ b o) (Some (Place b o)) tt (λ h. inside_facts b o h)
  moved_inside b (negsuc o) = tt

  moved_small : (g : Given) → InsideOf σ g → Small g
  moved_small None h = tt
  moved_small (Some (Place b o)) h = let x : cells_in σ b ≤ block_width = width_most b in let y : o < cells_in σ b = h.1 in omega lin
  moved_small (Some (Int _)) h = elim h [ ]
  moved_small (Some (Imm _)) h = elim h [ ]

  fetch_gives : (g : Given) → Small (ev_fetch σ g)
  unfolding ev_fetch
  fetch_gives None = tt
  fetch_gives (Some (Int n)) = tt
  fetch_gives (Some (Imm n)) = tt
  fetch_gives (Some (Place b o)) = by_need Small None (inside σ b o) (cell_at σ b o) tt (λ h. cell_small b o)

  step_gives : (g h : Given) → Small (ev_step σ g h)
  unfolding ev_step
  step_gives None h = tt
  step_gives (Some (Int n)) h = tt
  step_gives (Some (Imm n)) h = tt
  step_gives (Some (Place b o)) None = tt
  step_gives (Some (Place b o)) (Some (Imm n)) = tt
  step_gives (Some (Place b o)) (Some (Place c i)) = tt
  step_gives (Some (Place b o)) (Some (Int m)) = moved_small (moved σ b (pos o +ℤ m.n)) (moved_inside b (pos o +ℤ m.n))

  module _ (P : Prog) (δ : List Given) (hold : (v : ℕ) → Small (get_or δ v None)) where
    eval_small : (x : Expr) → SmallE x → Small (eval P.rows σ δ x)
    unfolding eval ev_var
    eval_small bad p = tt
    eval_small (lit n) p = p
    eval_small (var v) p = hold v
    eval_small (arith o x y) p = arith_gives o (eval P.rows σ δ x) (eval P.rows σ δ y)
    eval_small (val r x) p = val_gives P.rows r (eval P.rows σ δ x) (eval_small x p)
    eval_small (int x) p = int_gives (eval P.rows σ δ x) (eval_small x p)
    eval_small (fetch x) p = fetch_gives (eval P.rows σ δ x)
    eval_small (step x y) p = step_gives (eval P.rows σ δ x) (eval P.rows σ δ y)

    abbrev Stays : Act → Type 0
    Stays a = Bounded a t

    jump_stays : (l : ℕ) (c : Bool) → Stays (jump_on P l c)
    unfolding jump_on
    jump_stays l c = by_need Stays D.Stuck (label_there P l) (jump_if c P l) tt (λ h. go c)
      where
        go : (c : Bool) → Stays (jump_if c P l)
        go true = tt
        go false = tt

    module _ (R : Roomy t) (fits : length δ ≤ limits.variables) where
      set_stays : (v : ℕ) (g : Given) → Small g → Stays (act_set δ v g)
      unfolding act_set
      set_stays v None p = tt
      set_stays v (Some d) p =
          by_need Stays D.Stuck (ltb v (length δ)) (D.SetVar v d) tt
          (λ h. let x : v < length δ = ltb→lt v (length δ) h in let y : length t.vals ≡ limits.variables = R.vals in (omega lin, datum_again d p))

      room : (b o : ℕ) → b < length σ → o < cells_in σ b → (b < up_to limits.blocks (get_or t.size 1 0)) × (o < block_width) × (b * block_width + o < length t.cells)
      room b o h k =
          let x : b < up_to limits.blocks (get_or t.size 1 0) = rw store_length at h in
          let y : up_to limits.blocks (get_or t.size 1 0) ≤ limits.blocks = up_to_le limits.blocks (get_or t.size 1 0) in
          let z : cells_in σ b ≤ block_width = width_most b in
          let w : length t.cells ≡ limits.blocks * block_width = R.cells in
          (x, omega lin, omega lin)

      store_stays : (b o : ℕ) → b < length σ → o < cells_in σ b → (y : Given) → Small y → Stays (store_at b o y)
      store_stays b o h k None p = tt
      store_stays b o h k (Some (Int n)) p = tt
      store_stays b o h k (Some (Imm n)) p = let (x, y, z) = room b o h k in (x, y, z, datum_again (Imm n) p)
      store_stays b o h k (Some (Place c i)) p = let (x, y, z) = room b o h k in (x, y, z, datum_again (Place c i) p)

      put_stays : (m : Num) (x y : Given) → Small y → Stays (act_put σ m x y)
      unfolding act_put
      put_stays m None y p = tt
      put_stays m (Some (Int n)) y p = tt
      put_stays m (Some (Imm n)) y p = tt
      put_stays m (Some (Place b o)) y p = go (moved σ b (pos o +ℤ m.n)) (moved_inside b (pos o +ℤ m.n))
        where
          go : (g : Given) → InsideOf σ g → Stays (need_place D.Stuck g (λ c i. store_at c i y))
          go None h = tt
          go (Some (Place c i)) h = store_stays c i h.0 h.1 y p
          go (Some (Int _)) h = elim h [ ]
          go (Some (Imm _)) h = elim h [ ]

      if_stays : (l : ℕ) (g : Given) → Stays (act_if P l g)
      unfolding act_if
      if_stays l None = tt
      if_stays l (Some (Int n)) = jump_stays l (not (same_num n zero_n))
      if_stays l (Some (Imm n)) = tt
      if_stays l (Some (Place b o)) = tt

      iftag_stays : (l : ℕ) (n : Num) (g : Given) → Stays (act_iftag P σ l n g)
      unfolding act_iftag
      iftag_stays l n None = tt
      iftag_stays l n (Some (Int m)) = tt
      iftag_stays l n (Some (Imm m)) = tt
      iftag_stays l n (Some (Place b o)) = by_need Stays D.Stuck (eqb o 0 && ltb b (length σ)) (jump_on P l (eq_z (pos (tag_in σ b)) n.n)) tt (λ h. jump_stays l (eq_z (pos (tag_in σ b)) n.n))

      ifint_stays : (l : ℕ) (n : Num) (g : Given) → Stays (act_ifint P l n g)
      unfolding act_ifint
      ifint_stays l n None = tt
      ifint_stays l n (Some (Int m)) = tt
      ifint_stays l n (Some (Imm m)) = jump_stays l (same_num m n)
      ifint_stays l n (Some (Place b o)) = tt

      ifimm_stays : (l : ℕ) (g : Given) → Stays (act_ifimm P l g)
      unfolding act_ifimm
      ifimm_stays l None = tt
      ifimm_stays l (Some (Int n)) = tt
      ifimm_stays l (Some (Imm n)) = jump_stays l true
      ifimm_stays l (Some (Place b o)) = jump_stays l false

      return_stays : (g : Given) → Small g → Stays (act_return g)
      return_stays None p = tt
      return_stays (Some d) p = datum_again d p

      act_stays : (st : Stmt) → SmallS st → Stays (act P σ δ st)
      unfolding act
      act_stays bad_s p = tt
      act_stays (set_s v x) p = set_stays v (eval P.rows σ δ x) (eval_small x p)
      act_stays (put_s x n y) p = put_stays n (eval P.rows σ δ x) (eval P.rows σ δ y) (eval_small y p.1)
      act_stays (goto_s l) p = jump_stays l true
      act_stays (if_s l x) p = if_stays l (eval P.rows σ δ x)
      act_stays (ifimm_s l v) p = ifimm_stays l (ev_var δ v)
      act_stays (iftag_s l v n) p = iftag_stays l n (ev_var δ v)
      act_stays (ifint_s l v n) p = ifint_stays l n (ev_var δ v)
      act_stays (return_s x) p = return_stays (eval P.rows σ δ x) (eval_small x p)
      act_stays (label_s l) p = jump_stays l false

-- ---- steps and runs

-- the variables of the machine that tables mean
vals_small : (n : ℕ) (W : List ℕ) (v : ℕ) → Small (get_or (vals_of n W) v None)
unfolding vals_of
vals_small n W v = tab_all Small n _ None tt (λ i. datum_small (get_or W i 0)) v

pub vals_length : (n : ℕ) (W : List ℕ) → length (vals_of n W) ≡ n
unfolding vals_of
vals_length n W = tab_length n _

pub vars_most : (T : Tables) → length (program T).vars ≤ limits.variables
unfolding program vars_from
vars_most T = rw (tab_length (up_to limits.variables (get_or T.size 2 0))) (up_to_le limits.variables (get_or T.size 2 0))

module _ (T : Tables) where
  abbrev P : Prog
  P = program T

  pub decided_stays : (t : MTables) → Roomy t → Bounded (decide P (store_of t.size t.heads t.cells) (vals_of (length P.vars) t.vals) t.at) t
  unfolding decide
  decided_stays t R =
      act_stays t P (vals_of (length P.vars) t.vals) (vals_small (length P.vars) t.vals) R
      (rw (vals_length (length P.vars) t.vals) (vars_most T))
      (get_or P.body t.at bad_s) (body_small T t.at)

  -- a step on tables is a step on what they mean
  pub step_tables : (t : MTables) → Roomy t → machine P (step_t P t) ≡ step_of P (machine P t)
  unfolding step_t step_of machine
  step_tables t R = go (datum_code t.value)
    where
      go : (g : Given) → machine P (step_from_t P t g) ≡ step_from P (machine P t) g
      go None = apply_tables P t (decide P (store_of t.size t.heads t.cells) (vals_of (length P.vars) t.vals) t.at) (decided_stays t R)
      go (Some d) = refl

  -- and keeps the lengths
  apply_roomy : (a : Act) (t : MTables) → Roomy t → Roomy (apply_t a t)
  unfolding apply_t
  apply_roomy D.Stuck t R = R
  apply_roomy D.Fall t R = record { vals = R.vals; cells = R.cells }
  apply_roomy (D.Jump i) t R = record { vals = R.vals; cells = R.cells }
  apply_roomy (D.SetVar v d) t R = record { vals = length-set t.vals v (code_of d) ∙ R.vals; cells = R.cells }
  apply_roomy (D.SetCell b o d) t R = record { vals = R.vals; cells = length-set t.cells (b * block_width + o) (code_of d) ∙ R.cells }
  apply_roomy (D.Give d) t R = record { vals = R.vals; cells = R.cells }

  step_roomy : (t : MTables) → Roomy t → Roomy (step_t P t)
  unfolding step_t
  step_roomy t R = go (datum_code t.value)
    where
      go : (g : Given) → Roomy (step_from_t P t g)
      go None = apply_roomy _ t R
      go (Some d) = R

  -- a run on tables is a run on what they mean
  pub run_tables : (n : ℕ) (t : MTables) → Roomy t → machine P (run_t P n t) ≡ run_of P n (machine P t)
  unfolding run_t run_of
  run_tables zero t R = refl
  run_tables (suc n) t R = run_tables n (step_t P t) (step_roomy t R) ∙ ap (run_of P n) (step_tables t R)
