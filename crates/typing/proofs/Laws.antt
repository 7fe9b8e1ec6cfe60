-- An address that is found in viewed rows is small; and an expression's judgement from those of its operands. Assumes nothing.
use Rattle.std.specs.Prelude.{Result, Ok, Err}
use Rattle.rules.specs.declared.Form.{Form}
use Rattle.rules.specs.declared.Form.TheVariants as M
use Rattle.rules.specs.declared.Op.{Op}
use mathlib.Core.Path.{◌≡◌, refl, sym, ap, ap₂, subst, ◌∙◌}
use mathlib.Core.List.{List}
use Prim.Native.Nat.{ℕ, ◌<◌}
use native.Mathlib.Omega.{arith as lin}
use lib.Dec.{T}
use lib.IntN.{ℤ, pos, negsuc, ◌+ℤ◌}
use borrow.Author.Tests.{ltb-true}
use borrow.Author.Rules.{rules}
use Rattle.rules.specs.declared.Num.{Num}
use Rattle.rules.specs.declared.Tag.{Tag}
use Rattle.rules.specs.declared.Tag.TheVariants as G
use Rattle.rules.specs.declared.Entry.{Entry}
use Rattle.rules.specs.declared.Kind.TheVariants.{Cint, Value}
use mathlib.Core.Bool.{Bool}
use Rattle.rules.specs.declared.Env.{Env}
use Rattle.rules.specs.Typing.{Addr}
use Rattle.rules.specs.Typing.{Judged}
use Rattle.rules.specs.When.{need}
use Rattle.rules.specs.Numbers.{among, nat_of}
use Rattle.rules.specs.Program.{Rows, Var, Expr, bad, lit, var, arith, val, int, fetch, step, psi_of, prods_of, fields_of}
use Rattle.rules.specs.View.{rows_from, tree_of, tree_at}
use Rattle.rules.specs.Typing.{Spot, nowhere, spot, spot_of, lone, addr_at, addr_spot, address_of, fetched, stepped, ty_var, ty_arith, ty_val, ty_int, ty_fetch, ty_step, type}
use Rattle.rules.proofs.Laws.Tests.{held, by_need}
use Rattle.program.specs.Nodes.{after_of}
use Rattle.program.proofs.Laws.{prods_small, fields_small}
use Rattle.program.proofs.Walk.{Folds}
use Rattle.typing.specs.declared.Found.{Found}
use Rattle.typing.specs.Walk.{tag_only, arith_tags, Told, form, found_at}

-- ---- addresses

among_below : (z : ℤ) (n : ℕ) → T (among z n) → nat_of z < n
among_below (pos k) n h = ltb-true k n (held _ h)
among_below (negsuc k) n h = absurd h

abbrev Near : Addr → Type 0
Near (Ok (t, o)) = (t < 16) × (o < 16)
Near (Err n) = Unit

module _ (Z R : List ℕ) (r : ℕ) where
  near_at : (o t m : Num) → Near (addr_at (rows_from Z R) r o t m)
  near_at o t m =
      let a = Ok (nat_of t.n, nat_of (o.n +ℤ m.n)) in
      let b = among (o.n +ℤ m.n) (fields_of (rows_from Z R) r (nat_of t.n)) in
      by_need Near (Err 8) (among t.n (prods_of (rows_from Z R) r)) (need (Err 8) b a) tt
      (λ h. by_need Near (Err 8) b a tt
      (λ k. (omega (lin, among_below t.n _ h, prods_small Z R r), omega (lin, among_below (o.n +ℤ m.n) _ k, fields_small Z R r (nat_of t.n)))))

  near_spot : (s : Spot) (m : Tag) → Near (addr_spot (rows_from Z R) r s m)
  near_spot nowhere m = tt
  near_spot (spot o t) G.Unknown = tt
  near_spot (spot o t) (G.Known m) = near_at o t m

  pub near : (e : Entry) (m : Tag) (t o : ℕ) → address_of (rows_from Z R) r e m ≡ Ok (t, o) → (t < 16) × (o < 16)
  near e m t o h = subst Near h (near_spot (spot_of e.boxed e.offset e.tag (lone (psi_of (rows_from Z R) r) (prods_of (rows_from Z R) r))) m)

-- ---- no number that refuses is 0

told_need : {A : Type 0} (n : ℕ) (b : Bool) (x : Result A ℕ) → 0 < n → Told x → Told (need (Err n) b x)
told_need n b x h k = by_need Told (Err n) b x h (λ q. k)

module _ (ρ : Rows) where
  told_spot : (r : ℕ) (s : Spot) (m : Tag) → Told (addr_spot ρ r s m)
  told_spot r nowhere m = omega lin
  told_spot r (spot o t) G.Unknown = omega lin
  told_spot r (spot o t) (G.Known m) = search (rules, told_need)

  pub told_address : (r : ℕ) (e : Entry) (m : Tag) → Told (address_of ρ r e m)
  told_address r e m = told_spot r _ m

  told_fetched : (r : ℕ) (a : Addr) → Told a → Told (fetched ρ r a)
  told_fetched r (Err n) h = h
  told_fetched r (Ok (t, o)) h = tt

  told_stepped : (r : ℕ) (a : Addr) → Told a → Told (stepped r a)
  told_stepped r (Err n) h = h
  told_stepped r (Ok (t, o)) h = tt

  told_arith : (o : Op) (x y : Judged) → Told x → Told y → Told (ty_arith o x y)
  unfolding ty_arith
  told_arith o (Err n) y h k = h
  told_arith o (Ok (l, e)) (Err n) h k = k
  told_arith o (Ok (Value r, e)) (Ok (l, d)) h k = omega lin
  told_arith o (Ok (Cint, e)) (Ok (Value r, d)) h k = omega lin
  told_arith o (Ok (Cint, e)) (Ok (Cint, d)) h k = tt

  told_val : (r : ℕ) (x : Judged) → Told x → Told (ty_val ρ r x)
  unfolding ty_val
  told_val r (Err n) h = h
  told_val r (Ok (Value q, e)) h = omega lin
  told_val r (Ok (Cint, e)) h = search (rules, told_need)

  told_int : (x : Judged) → Told x → Told (ty_int ρ x)
  unfolding ty_int
  told_int (Err n) h = h
  told_int (Ok (Cint, e)) h = omega lin
  told_int (Ok (Value r, e)) h = search (rules, told_need)

  told_fetch : (x : Judged) → Told x → Told (ty_fetch ρ x)
  unfolding ty_fetch
  told_fetch (Err n) h = h
  told_fetch (Ok (Cint, e)) h = omega lin
  told_fetch (Ok (Value r, e)) h = told_fetched r _ (told_address r e _)

  told_step : (x y : Judged) → Told x → Told y → Told (ty_step ρ x y)
  unfolding ty_step
  told_step (Err n) y h k = h
  told_step (Ok (l, e)) (Err n) h k = k
  told_step (Ok (Cint, e)) (Ok (l, d)) h k = omega lin
  told_step (Ok (Value r, e)) (Ok (Value q, d)) h k = omega lin
  told_step (Ok (Value r, e)) (Ok (Cint, d)) h k = told_stepped r _ (told_address r e _)

pub told_var : (D : List Var) (Γ : Env) (v : ℕ) → Told (ty_var D Γ v)
unfolding ty_var
told_var D Γ v = search (rules, told_need)

pub told : (ρ : Rows) (D : List Var) (Γ : Env) (x : Expr) → Told (type ρ D Γ x)
unfolding type
told ρ D Γ bad = omega lin
told ρ D Γ (lit n) = tt
told ρ D Γ (var v) = told_var D Γ v
told ρ D Γ (arith o x y) = told_arith ρ o _ _ (told ρ D Γ x) (told ρ D Γ y)
told ρ D Γ (val r x) = told_val ρ r _ (told ρ D Γ x)
told ρ D Γ (int x) = told_int ρ _ (told ρ D Γ x)
told ρ D Γ (fetch x) = told_fetch ρ _ (told ρ D Γ x)
told ρ D Γ (step x y) = told_step ρ _ _ (told ρ D Γ x) (told ρ D Γ y)

-- ---- the walk

pub folds : (ρ : Rows) (D : List Var) (Γ : Env) → Folds (type ρ D Γ) (form ρ D Γ)
unfolding form type
folds ρ D Γ M.Absent a p q x y ex ey = refl
folds ρ D Γ M.Lit a p q x y ex ey = refl
folds ρ D Γ M.Var a p q x y ex ey = refl
folds ρ D Γ M.Fetch a p q x y ex ey = ap (ty_fetch ρ) (sym (ex (omega lin)))
folds ρ D Γ M.Int a p q x y ex ey = ap (ty_int ρ) (sym (ex (omega lin)))
folds ρ D Γ M.Val a p q x y ex ey = ap (ty_val ρ a) (sym (ex (omega lin)))
folds ρ D Γ M.Step a p q x y ex ey = ap₂ (ty_step ρ) (sym (ex (omega lin))) (sym (ey (omega lin)))
folds ρ D Γ (M.Calc o) a p q x y ex ey = ap₂ (ty_arith o) (sym (ex (omega lin))) (sym (ey (omega lin)))

-- a node of a form that stands in the table: what its judgement is, is told of the form
module _ (ρ : Rows) (D : List Var) (Γ : Env) {f : Form} (a : ℕ) (x y : Judged) {j : Judged} where
  pub of_form : {w : Form} → w ≡ f → j ≡ form ρ D Γ w a x y → j ≡ form ρ D Γ f a x y
  of_form e q = q ∙ ap (λ (w : Form). form ρ D Γ w a x y) e

  pub of_step : M.Step ≡ f → j ≡ ty_step ρ x y → j ≡ form ρ D Γ f a x y
  unfolding form
  of_step e q = of_form e q

  pub of_calc : {o : Op} {t : Judged} → M.Calc o ≡ f → t ≡ tag_only x → j ≡ ty_arith o t y → j ≡ form ρ D Γ f a x y
  unfolding form
  of_calc {o} e p q = of_form e (q ∙ ap (λ (t : Judged). ty_arith o t y) p ∙ arith_tags o x y)

-- what a walk gave is the judgement of the tree, and the node after it
module _ (ρ : Rows) (D : List Var) (Γ : Env) (N : List ℕ) (d k : ℕ) (f : Found) (e : f ≡ found_at ρ D Γ N d k) where
  pub tree_of_lem : f.judged ≡ type ρ D Γ (tree_of (tree_at N d k))
  unfolding found_at
  tree_of_lem = ap (λ (x : Found). x.judged) e

  pub after_of_lem : f.next ≡ after_of (tree_at N d k)
  unfolding found_at
  after_of_lem = ap (λ (x : Found). x.next) e

  pub told_found : Told f.judged
  told_found = rw tree_of_lem (told ρ D Γ (tree_of (tree_at N d k)))
