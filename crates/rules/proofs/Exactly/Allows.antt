-- Statements: the checker accepts exactly what the published rules allow, with what follows. Assumes nothing.
use Rattle.std.specs.Prelude.{T}
use Rattle.std.proofs.Common.{ltb→lt, arith as lin}
use Rattle.std.proofs.Math.IntN.{+ℤ_idr}
use borrow.Author.Tests.{lt-ltb}
use Rattle.std.specs.Prelude.{◌<◌, ◌&&◌, ◌≡◌, ◌↔◌}
use Rattle.rules.specs.Typing.{Judged}
use Rattle.rules.specs.Typing.{Addr}
use Rattle.rules.specs.Prelude.{ℕ, Bool, true, refl, sym, ap, subst, ◌∙◌, ltb, ℤ, pos, negsuc, length, Num, Boxed, Tag, Entry, Env, Kind, Cint, Value, Err, Ok, Line}
use Rattle.rules.specs.Prelude.B
use Rattle.rules.specs.Prelude.I
use Rattle.rules.specs.Prelude.G
use Rattle.rules.specs.When.{need}
use Rattle.rules.specs.Numbers.{num, zero_n, among, suits}
use Rattle.rules.specs.Program.{Expr, var, Stmt, bad_s, set_s, put_s, goto_s, if_s, ifimm_s, iftag_s, ifint_s, return_s, label_s, Prog, entry, zero_i, loosest, is_zero, psi_of, prods_of, field_of, agree, same_kind, kind_at}
use Rattle.rules.specs.Typing.{int_entry, address_of, fetched, ty_fetch, stepped, ty_step, type}
use Rattle.rules.specs.Environments.{with_entry, covers}
use Rattle.rules.specs.Body.{goes, refuse, jump, is_box, is_imm, rule_set, put_at, rule_put, rule_goto, rule_if, rule_ifimm, rule_iftag, rule_ifint, rule_return, rule_label, line_of}
use Rattle.rules.specs.Published.{Judges, Jumps, Allows, vset_stmt, lset_stmt, goto_stmt, if_stmt, if_unboxed_stmt, if_sum_tag_stmt, if_int_tag_stmt, ret_stmt, lbl_stmt}
use Rattle.rules.proofs.Laws.Tests.{held, and_both, by_need}
use Rattle.rules.proofs.Laws.Stages.{Zero}
use Rattle.rules.proofs.Exactly.Judges.{judged, derives, Derives, Finds, finds, found, inside, known, offset_is_zero, known_parts, stored}

-- ---- statements: what is accepted is allowed

-- if the line refuses nothing, the rules allow what it says of the next one
abbrev Permits : Prog → Env → Stmt → Line → Type 0
Permits P Γ s x = Zero x.answer → Allows P Γ s x.live x.env

is_box_lem : (b : Boxed) → T (is_box b) → b ≡ B.Block
is_box_lem B.Block h = refl
is_box_lem B.Either h = elim h [ ]
is_box_lem B.Imm h = elim h [ ]

is_imm_lem : (b : Boxed) → T (is_imm b) → b ≡ B.Imm
is_imm_lem B.Imm h = refl
is_imm_lem B.Either h = elim h [ ]
is_imm_lem B.Block h = elim h [ ]

module _ (P : Prog) (Γ : Env) where
  refusing : {s : Stmt} (n : ℕ) → 0 < n → Permits P Γ s (refuse n Γ)
  refusing n h z = absurd (omega lin)

  needing : {s : Stmt} (n : ℕ) → 0 < n → (b : Bool) (x : Line) → (T b → Permits P Γ s x) → Permits P Γ s (need (refuse n Γ) b x)
  needing {s} n h b x f = by_need (Permits P Γ s) (refuse n Γ) b x (refusing n h) f

  jumping : {s : Stmt} (l : ℕ) (Δ : Env) (x : Line) → (Jumps P l Δ → Permits P Γ s x) → Permits P Γ s (jump P.labels l Δ Γ x)
  jumping l Δ x f =
      needing 11 (omega lin) (ltb l (length P.labels) && covers P.labels l Δ) x
      (λ h. let (a, b) = and_both (ltb l (length P.labels)) (covers P.labels l Δ) h in f (record { there = ltb→lt l (length P.labels) a; covered = b }))

  permits_set : (v : ℕ) (x : Expr) (j : Judged) → Derives P.rows P.vars Γ x j → Permits P Γ (set_s v x) (rule_set P.vars v j Γ)
  unfolding rule_set
  permits_set v x (Err n) p = refusing n p
  permits_set v x (Ok (k, e)) p = needing 6 (omega lin) (same_kind k (kind_at P.vars v)) _ (λ h z. vset_stmt p h)

  permits_put_at : (x y : Expr) (n : Num) (r : ℕ) (e d : Entry) (l : Kind) → Judges P.rows P.vars Γ x (Value r) e → Judges P.rows P.vars Γ y l d
      → (a : Addr) → Finds P.rows r e (G.Known n) a → Permits P Γ (put_s x n y) (put_at P.rows r l d a Γ)
  permits_put_at x y n r e d l p q (Err m) h = refusing m h
  permits_put_at x y n r e d Cint p q (Ok (t, k)) h = refusing 6 (omega lin)
  permits_put_at x y n r e d (Value s) p q (Ok (t, k)) h =
      needing 6 (omega lin) (agree s (field_of P.rows r t k)) _
      (λ g. needing 10 (omega lin) (is_zero d.offset) _ (λ i z. lset_stmt (stored P.rows P.vars Γ p h) (rw (known_parts d refl (offset_is_zero d.offset i)) at q) g))

  permits_put : (x y : Expr) (n : Num) (i j : Judged) → Derives P.rows P.vars Γ x i → Derives P.rows P.vars Γ y j → Permits P Γ (put_s x n y) (rule_put P.rows n i j Γ)
  unfolding rule_put
  permits_put x y n (Err m) j p q = refusing m p
  permits_put x y n (Ok (k, e)) (Err m) p q = refusing m q
  permits_put x y n (Ok (Cint, e)) (Ok (l, d)) p q = refusing 6 (omega lin)
  permits_put x y n (Ok (Value r, e)) (Ok (l, d)) p q = permits_put_at x y n r e d l p q (address_of P.rows r e (G.Known n)) (finds P.rows r e.boxed e.offset e.tag (G.Known n))

  permits_goto : (l : ℕ) → Permits P Γ (goto_s l) (rule_goto P.labels l Γ)
  unfolding rule_goto
  permits_goto l = jumping l Γ _ (λ j z. goto_stmt j)

  permits_if : (l : ℕ) (x : Expr) (j : Judged) → Derives P.rows P.vars Γ x j → Permits P Γ (if_s l x) (rule_if P.labels l j Γ)
  unfolding rule_if
  permits_if l x (Err n) p = refusing n p
  permits_if l x (Ok (Value r, e)) p = refusing 6 (omega lin)
  permits_if l x (Ok (Cint, e)) p = jumping l Γ _ (λ j z. if_stmt p j)

  permits_ifimm : (l v : ℕ) (j : Judged) → Derives P.rows P.vars Γ (var v) j → Permits P Γ (ifimm_s l v) (rule_ifimm P.labels l v j Γ)
  unfolding rule_ifimm
  permits_ifimm l v (Err n) p = refusing n p
  permits_ifimm l v (Ok (Cint, e)) p = refusing 6 (omega lin)
  permits_ifimm l v (Ok (Value r, e)) p =
      needing 10 (omega lin) (is_zero e.offset) _
      (λ h. let i : e.offset ≡ zero_i = offset_is_zero e.offset h in rw i (jumping l _ _ (λ j z. if_unboxed_stmt (rw (known_parts e refl i) at p) j)))

  permits_iftag : (l v : ℕ) (n : Num) (j : Judged) → Derives P.rows P.vars Γ (var v) j → Permits P Γ (iftag_s l v n) (rule_iftag P.rows P.labels l v n j Γ)
  unfolding rule_iftag
  permits_iftag l v n (Err m) p = refusing m p
  permits_iftag l v n (Ok (Cint, e)) p = refusing 6 (omega lin)
  permits_iftag l v n (Ok (Value r, e)) p =
      needing 10 (omega lin) (is_zero e.offset) _
      (λ h. needing 7 (omega lin) (is_box e.boxed) _
      (λ g. let i : e.offset ≡ zero_i = offset_is_zero e.offset h in
      let b : e.boxed ≡ B.Block = is_box_lem e.boxed g in
      rw (i, b) (tag n.n (rw (known_parts e b i) at p))))
    where
      tag : (z : ℤ) → Judges P.rows P.vars Γ (var v) (Value r) (entry B.Block zero_i e.tag)
          → Permits P Γ (iftag_s l v (num z)) (need (refuse 8 Γ) (among z (prods_of P.rows r)) (jump P.labels l (with_entry Γ v (entry B.Block zero_i (G.Known (num z)))) Γ (goes true Γ)))
      tag (negsuc m) q = refusing 8 (omega lin)
      tag (pos m) q = needing 8 (omega lin) (ltb m (prods_of P.rows r)) _ (λ h. jumping l _ _ (λ j z. if_sum_tag_stmt q (ltb→lt m (prods_of P.rows r) h) j))

  permits_ifint : (l v : ℕ) (n : Num) (j : Judged) → Derives P.rows P.vars Γ (var v) j → Permits P Γ (ifint_s l v n) (rule_ifint P.rows P.labels l v n j Γ)
  unfolding rule_ifint
  permits_ifint l v n (Err m) p = refusing m p
  permits_ifint l v n (Ok (Cint, e)) p = refusing 6 (omega lin)
  permits_ifint l v n (Ok (Value r, e)) p =
      needing 10 (omega lin) (is_zero e.offset) _
      (λ h. needing 7 (omega lin) (is_imm e.boxed) _
      (λ g. let i : e.offset ≡ zero_i = offset_is_zero e.offset h in
      let b : e.boxed ≡ B.Imm = is_imm_lem e.boxed g in
      rw (i, b) (needing 9 (omega lin) (suits (psi_of P.rows r) n) _ (λ c. jumping l _ _ (λ j z. if_int_tag_stmt (rw (known_parts e b i) at p) c j)))))

  permits_return : (x : Expr) (j : Judged) → Derives P.rows P.vars Γ x j → Permits P Γ (return_s x) (rule_return P.ret j Γ)
  unfolding rule_return
  permits_return x (Err n) p = refusing n p
  permits_return x (Ok (k, e)) p =
      needing 6 (omega lin) (same_kind k P.ret) _
      (λ g. needing 10 (omega lin) (is_zero e.offset) _ (λ h z. ret_stmt (rw (known_parts e refl (offset_is_zero e.offset h)) at p) g))

  permits_label : (l : ℕ) → Permits P Γ (label_s l) (rule_label P l true Γ)
  unfolding rule_label
  permits_label l = needing 11 (omega lin) (covers P.labels l Γ) _ (λ h z. lbl_stmt h)

  permits : (s : Stmt) → Permits P Γ s (line_of P true Γ s)
  unfolding line_of type
  permits bad_s = refusing 4 (omega lin)
  permits (set_s v x) = permits_set v x _ (derives P.rows P.vars Γ x)
  permits (put_s x n y) = permits_put x y n _ _ (derives P.rows P.vars Γ x) (derives P.rows P.vars Γ y)
  permits (goto_s l) = permits_goto l
  permits (if_s l x) = permits_if l x _ (derives P.rows P.vars Γ x)
  permits (ifimm_s l v) = permits_ifimm l v _ (derives P.rows P.vars Γ (var v))
  permits (iftag_s l v n) = permits_iftag l v n _ (derives P.rows P.vars Γ (var v))
  permits (ifint_s l v n) = permits_ifint l v n _ (derives P.rows P.vars Γ (var v))
  permits (return_s x) = permits_return x _ (derives P.rows P.vars Γ x)
  permits (label_s l) = permits_label l

-- ---- statements: what is allowed is accepted, and what follows is the same

-- the row of a value that is judged right
abbrev row_judged : Judged → ℕ
row_judged (Ok (Value q, e)) = q
row_judged (Ok (Cint, e)) = 0
row_judged (Err n) = 0

module _ (P : Prog) (Γ : Env) where
  jumped : {l : ℕ} {Δ : Env} (x : Line) → Jumps P l Δ → jump P.labels l Δ Γ x ≡ x
  jumped {l} {Δ} x j = rw (lt-ltb l (length P.labels) j.there, held (covers P.labels l Δ) j.covered)

  -- *(e₁ +ₚ n) judged, and E of the row that it gives: `put` finds the same field
  put_passes : (n : Num) (q r : ℕ) (b : Boxed) (t : Tag) (j : Judged) → ty_fetch P.rows (ty_step P.rows j (Ok (Cint, int_entry (G.Known n)))) ≡ Ok (Value q, loosest) → T (agree r q) → rule_put P.rows n j (Ok (Value r, entry b zero_i t)) Γ ≡ goes true Γ
  unfolding rule_put ty_fetch ty_step
  put_passes n q r b t (Err m) h g = let z : ◌≡◌ {A = ℕ} 0 1 = cc in absurd (omega lin)
  put_passes n q r b t (Ok (Cint, e)) h g = let z : ◌≡◌ {A = ℕ} 0 1 = cc in absurd (omega lin)
  put_passes n q r b t (Ok (Value s, e)) h g = at (address_of P.rows s e (G.Known n)) (finds P.rows s e.boxed e.offset e.tag (G.Known n)) h
    where
      at : (a : Addr) → Finds P.rows s e (G.Known n) a → ty_fetch P.rows (stepped s a) ≡ Ok (Value q, loosest) → put_at P.rows s (Value r) (entry b zero_i t) a Γ ≡ goes true Γ
      at (Err m) f w = let z : ◌≡◌ {A = ℕ} 0 1 = cc in absurd (omega lin)
      at (Ok (u, k)) f w =
          let v : address_of P.rows s (entry B.Block (I.Known (num (pos k))) (G.Known (num (pos u)))) (G.Known zero_n) ≡ Ok (u, k) = found P.rows s (known (num (pos k)) zero_n (inside P.rows s f).0 (+ℤ_idr (pos k)) (inside P.rows s f).1) in
          let c : field_of P.rows s u k ≡ q = ap row_judged (sym (ap (fetched P.rows s) v) ∙ w) in
          rw (c, held (agree r q) g)

  passes_line : {s : Stmt} {b : Bool} {Δ : Env} → Allows P Γ s b Δ → line_of P true Γ s ≡ goes b Δ
  unfolding line_of type rule_set rule_goto rule_if rule_ifimm rule_iftag rule_ifint rule_return rule_label
  passes_line (vset_stmt {v} {k = k} p h) = rw (judged P.rows P.vars Γ p, held (same_kind k (kind_at P.vars v)) h)
  passes_line (lset_stmt {n = n} {q = q} {r = r} {b = b} {t = t} p o h) = rw (judged P.rows P.vars Γ o) (put_passes n q r b t _ (judged P.rows P.vars Γ p) h)
  passes_line (goto_stmt j) = jumped _ j
  passes_line (if_stmt p j) = rw (judged P.rows P.vars Γ p) (jumped _ j)
  passes_line (if_unboxed_stmt p j) = rw (judged P.rows P.vars Γ p) (jumped _ j)
  passes_line (if_sum_tag_stmt {r = r} {n = n} p h j) = rw (judged P.rows P.vars Γ p, lt-ltb n (prods_of P.rows r) h) (jumped _ j)
  passes_line (if_int_tag_stmt {r = r} {n = n} p h j) = rw (judged P.rows P.vars Γ p, held (suits (psi_of P.rows r) n) h) (jumped _ j)
  passes_line (ret_stmt {k = k} p h) = rw (judged P.rows P.vars Γ p, held (same_kind k P.ret) h)
  passes_line (lbl_stmt {l} h) = rw (held (covers P.labels l Γ) h)

-- a statement that is reached is accepted, with what follows it, exactly if the rules allow that
pub statement_exactly : (P : Prog) (Γ : Env) (s : Stmt) (b : Bool) (Δ : Env) → (line_of P true Γ s ≡ goes b Δ) ↔ Allows P Γ s b Δ
statement_exactly P Γ s b Δ = ((λ h. subst (λ (x : Line). Permits P Γ s x) h (permits P Γ s) refl), passes_line P Γ)

-- it is accepted at all exactly if the rules allow what follows it
pub statement_accepted : (P : Prog) (Γ : Env) (s : Stmt) → ((line_of P true Γ s).answer ≡ 0) ↔ Allows P Γ s (line_of P true Γ s).live (line_of P true Γ s).env
statement_accepted P Γ s = (permits P Γ s, λ a. ap (λ (x : Line). x.answer) (passes_line P Γ a))

-- the rules leave no choice of what follows
pub statement_determined : (P : Prog) (Γ : Env) (s : Stmt) (b c : Bool) (Δ Θ : Env) → Allows P Γ s b Δ → Allows P Γ s c Θ → goes b Δ ≡ goes c Θ
statement_determined P Γ s b c Δ Θ h k = sym (passes_line P Γ h) ∙ passes_line P Γ k
