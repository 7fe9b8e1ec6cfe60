-- A line that is read once is filled as the rules say, and its shape ends where it says; one that is not has a wrong shape, or passes a limit. Assumes nothing.
use mathlib.Core.Logic.{⊎_elim}
use Rattle.rules.specs.declared.Key.{Key}
use Rattle.rules.specs.declared.Key.TheVariants as K
use native.Mathlib.Omega.{arith}
use borrow.Author.Tests.{ltb-true, eqb-true, eq-eqb}
use Rattle.std.specs.Prelude.{◌+◌, ◌<◌, ◌≡◌, Some, None, Ok, Err}
use Rattle.rules.specs.Prelude.{ℕ, Bool, true, false, List, refl, ap, sym, ◌∙◌, ltb, eqb}
use Rattle.rules.specs.declared.Count.{Count}
use Rattle.rules.specs.Text.Words.{Reading}
use Rattle.rules.specs.Text.Words.{Next}
use Rattle.rules.specs.When.{when}
use Rattle.rules.proofs.Laws.Tests.{by_when}
use Rattle.rules.specs.Text.Words.{byte_at, value_of, next_of, byte_is, plain_at, number_at, var_at}
use Rattle.rules.specs.Text.Shape.{after, over, space, expr_shape, key_of, line_shape}
use Rattle.rules.specs.declared.Tables.{Tables}
use Rattle.rules.specs.Text.Layout.{with_nodes, with_body, one_line}
use Rattle.rules.specs.Text.Fill.{Filled, filled, Out, out, expression, expr_line, fill_set, fill_put_two, fill_put, fill_if, fill_return, one_more, fill_line}
use Rattle.once.specs.Once.{expr_once, Onced, once, last_once, after_mark, set_once, if_once, rest_once, two_once, put_once, key_once, line_once, has_expr}
use Rattle.once.proofs.Keys.{none}
use Rattle.once.proofs.Shaped.{Limited, Read, expression_read, expression_full}

-- a limit is passed
abbrev pub Refuses : Filled → Type 0
Refuses (filled true c t) = ⊥
Refuses (filled false c t) = Unit

not_at : {A : Type 0} {x : Next} {p n : ℕ} → x ≡ Err p → x ≡ Ok n → A
not_at e q = let z : ◌≡◌ {A = ℕ} 0 1 = cc in absurd (omega arith)

no_byte : {A : Type 0} {b k : ℕ} → eqb b k ≡ false → b ≡ k → A
no_byte {b = b} {k} z h = let y : eqb b k ≡ true = eq-eqb b k h in let x : ◌≡◌ {A = ℕ} 0 1 = cc in absurd (omega arith)

module _ (s : List ℕ) (c : Count) (t : Tables) where
  -- what was read once, the line's shape, and what the rules fill
  abbrev pub Told : Onced → Next → Filled → Type 0
  Told (once (Some (n, free)) M B) x f = (x ≡ Ok n) × (byte_at s n ≡ 10) × (f ≡ filled true (one_line c free) (with_body (with_nodes t M) B))
  Told (once None M B) x f = (n : ℕ) → x ≡ Ok n → byte_at s n ≡ 10 → Refuses f

  -- ---- the last expression

  line_limited : (kind l v w : ℕ) (e : Out) → Limited e → Refuses (expr_line c t kind l v w e)
  line_limited kind l v w (out None M) h = tt
  line_limited kind l v w (out (Some (_, _)) M) h = elim h [ ]

  last_told : (kind l v w at : ℕ) (o e : Out) → Read s at o e → Told (last_once s c.lines c.nodes kind l v w t.body o) (expr_shape s at) (expr_line c t kind l v w e)
  unfolding last_once
  last_told kind l v w at (out (Some (n, free)) M) e (q, x) =
      by_when (λ (y : Onced). Told y (expr_shape s at) (expr_line c t kind l v w e)) (eqb (byte_at s n) 10) _ _
      (λ z. (x, eqb-true _ 10 z, ap (expr_line c t kind l v w) (sym q)))
      (λ z m y b. let k : n ≡ m = cc in no_byte z (ap (byte_at s) k ∙ b))
  last_told kind l v w at (out None M) e r = λ n y b. ⊎_elim (λ g. not_at g.1 y) (line_limited kind l v w e) r

  -- ---- a word, a space, and on

  module _ (M B : List ℕ) (go : ℕ → ℕ → Onced) (shape : ℕ → Next) (fill : ℕ → ℕ → Filled) (told : (x n : ℕ) → Told (go x n) (shape n) (fill x n)) where
    word_told : (r : Reading) → Told (after_mark s 32 (λ _. once None M B) go r) (after r (space s shape)) (fill (value_of r) (next_of r + 1))
    unfolding after_mark byte_is
    word_told (Err p) = λ n y b. not_at refl y
    word_told (Ok (x, n)) = by (eqb (byte_at s n) 32) refl
      where
        by : (b : Bool) → eqb (byte_at s n) 32 ≡ b → Told (when b (λ _. go x (n + 1)) (λ _. once None M B)) (over (when b (λ _. Ok (n + 1)) (λ _. Err n)) shape) (fill x (n + 1))
        by true q = told x (n + 1)
        by false q = λ m y b. not_at refl y

  -- ---- `put`

  rest_told : (n free : ℕ) (M : List ℕ) → Told (rest_once s c.lines c.nodes n free M t.body) (after (number_at s n) (space s (expr_shape s))) (expr_line c t 2 0 0 (value_of (number_at s n)) (expression s 16 (next_of (number_at s n) + 1) free M))
  unfolding rest_once
  rest_told n free M =
      word_told M t.body _ (expr_shape s) (λ w m. expr_line c t 2 0 0 w (expression s 16 m free M))
      (λ w m. last_told 2 0 0 w m (expr_once s 16 m free M) (expression s 16 m free M) (expression_read s 16 m free M))
      (number_at s n)

  abbrev put_shape : ℕ → Next
  put_shape = space s (λ n. after (number_at s n) (space s (expr_shape s)))

  two_limited : (e : Out) → Limited e → Refuses (fill_put_two s c t e)
  two_limited (out None M) h = tt
  two_limited (out (Some (_, _)) M) h = elim h [ ]

  two_told : (at : ℕ) (o e : Out) → Read s at o e → Told (two_once s c.lines c.nodes t.body o) (over (expr_shape s at) put_shape) (fill_put_two s c t e)
  unfolding two_once byte_is
  two_told at (out (Some (n, free)) M) e (q, x) = rw (x, sym q) (by (eqb (byte_at s n) 32) refl)
    where
      by : (b : Bool) → eqb (byte_at s n) 32 ≡ b → Told (when b (λ _. rest_once s c.lines c.nodes (n + 1) free M t.body) (λ _. once None M t.body))
          (over (when b (λ _. Ok (n + 1)) (λ _. Err n)) (λ m. after (number_at s m) (space s (expr_shape s))))
          (expr_line c t 2 0 0 (value_of (number_at s (n + 1))) (expression s 16 (next_of (number_at s (n + 1)) + 1) free M))
      by true z = rest_told (n + 1) free M
      by false z = λ m y b. not_at refl y
  two_told at (out None M) e r = λ n y b. ⊎_elim (λ g. not_at {p = g.0} (rw g.1 refl) y) (two_limited e) r

  -- ---- a line by its key

  abbrev stop : Onced
  stop = once None t.nodes t.body

  in_room : (x : Onced) (shape : Next) (f : Filled) → Told x shape f → (ltb c.nodes 4096 ≡ false → Refuses f)
      → Told (when (ltb c.lines 512) (λ _. when (ltb c.nodes 4096) (λ _. x) (λ _. stop)) (λ _. stop)) shape (one_more c t f)
  in_room x shape f told full = by (ltb c.lines 512) (ltb c.nodes 4096) refl
    where
      by : (a b : Bool) → ltb c.nodes 4096 ≡ b → Told (when a (λ _. when b (λ _. x) (λ _. stop)) (λ _. stop)) shape (when a (λ _. f) (λ _. filled false c t))
      by true true q = told
      by true false q = λ n y z. full q
      by false b q = λ n y z. tt

  -- one expression, after a word
  module _ (kind : ℕ) (l v : ℕ → ℕ) (r : Reading) where
    one_told : Told (when (ltb c.lines 512) (λ _. when (ltb c.nodes 4096) (λ _. after_mark s 32 (λ _. stop) (λ x n. last_once s c.lines c.nodes kind (l x) (v x) 0 t.body (expr_once s 16 n c.nodes t.nodes)) r) (λ _. stop)) (λ _. stop))
        (after r (space s (expr_shape s)))
        (one_more c t (expr_line c t kind (l (value_of r)) (v (value_of r)) 0 (expression s 16 (next_of r + 1) c.nodes t.nodes)))
    one_told =
        let e : ℕ → Out = λ n. expression s 16 n c.nodes t.nodes in
        let f : ℕ → ℕ → Filled = λ x n. expr_line c t kind (l x) (v x) 0 (e n) in
        in_room _ _ (f (value_of r) (next_of r + 1))
        (word_told t.nodes t.body _ (expr_shape s) f (λ x n. last_told kind (l x) (v x) 0 n (expr_once s 16 n c.nodes t.nodes) (e n) (expression_read s 16 n c.nodes t.nodes)) r)
        (λ q. line_limited kind (l (value_of r)) (v (value_of r)) 0 (e (next_of r + 1)) (expression_full s 16 (next_of r + 1) c.nodes t.nodes q))

  key_told : (vars at : ℕ) (k : Key) → has_expr k ≡ true
      → Told (when (ltb c.lines 512) (λ _. when (ltb c.nodes 4096) (λ _. key_once s k at c.lines c.nodes t.nodes t.body) (λ _. stop)) (λ _. stop)) (line_shape s vars k at) (fill_line s k at c t)
  unfolding has_expr key_once line_shape fill_line set_once fill_set put_once fill_put if_once fill_if fill_return
  key_told vars at K.Set h = one_told 1 (λ x. 0) (λ x. x) (var_at s at)
  key_told vars at K.Put h =
      in_room _ _ _ (two_told at (expr_once s 16 at c.nodes t.nodes) (expression s 16 at c.nodes t.nodes) (expression_read s 16 at c.nodes t.nodes))
      (λ q. two_limited (expression s 16 at c.nodes t.nodes) (expression_full s 16 at c.nodes t.nodes q))
  key_told vars at K.If h = one_told 4 (λ x. x) (λ x. 0) (plain_at s at)
  key_told vars at K.Return h =
      in_room _ _ _ (last_told 8 0 0 0 at (expr_once s 16 at c.nodes t.nodes) (expression s 16 at c.nodes t.nodes) (expression_read s 16 at c.nodes t.nodes))
      (λ q. line_limited 8 0 0 0 (expression s 16 at c.nodes t.nodes) (expression_full s 16 at c.nodes t.nodes q))
  key_told vars at K.Absent h = none (sym h)
  key_told vars at K.Ret h = none (sym h)
  key_told vars at K.Type h = none (sym h)
  key_told vars at K.Param h = none (sym h)
  key_told vars at K.Local h = none (sym h)
  key_told vars at K.Goto h = none (sym h)
  key_told vars at K.IfImm h = none (sym h)
  key_told vars at K.IfTag h = none (sym h)
  key_told vars at K.IfInt h = none (sym h)
  key_told vars at K.Label h = none (sym h)

  pub line_told : (vars key at : ℕ) → has_expr (key_of key) ≡ true
      → Told (line_once s key at c.lines c.nodes t.nodes t.body) (line_shape s vars (key_of key) at) (fill_line s (key_of key) at c t)
  unfolding line_once
  line_told vars key at h = key_told vars at (key_of key) h

-- so there was room for the line
pub line_room : (s : List ℕ) (key at i free : ℕ) (N B M C : List ℕ) (n f : ℕ) → once (Some (n, f)) M C ≡ line_once s key at i free N B → i < 512
unfolding line_once
line_room s key at i free N B M C n f q = by (ltb i 512) refl
  where
    by : (b : Bool) → ltb i 512 ≡ b → i < 512
    by true e = ltb-true i 512 e
    by false e = let h : once (Some (n, f)) M C ≡ once None N B = q ∙ rw e in let x : ◌≡◌ {A = ℕ} 0 1 = cc in absurd (omega arith)
