-- A glue text: each line of each stage has a number of the first table, so the answer has a case of it. Assumes nothing.
use Rattle.std.specs.Prelude.{◌+◌, ◌&&◌, ◌∷◌, ◌++◌, ◌+ℤ◌}
use Rattle.rules.specs.Typing.{Judged}
use Rattle.rules.specs.Typing.{Addr}
use Rattle.rules.specs.Text.Words.{Reading}
use Rattle.rules.specs.Text.Words.{Next}
use Rattle.rules.specs.Prelude.{ℕ, zero, suc, Bool, true, false, List, [], map, refl, ltb, eqb, length, Num, Tag, Entry, Env, Kind, Cint, Value, Op, Err, Ok, Line, Count}
use Rattle.rules.specs.Prelude.G
use Rattle.rules.specs.Limits.{limits}
use Rattle.rules.specs.Numbers.{among, suits, nat_of, zero_n}
use Rattle.rules.specs.Answers.{answer, accepted, case_of}
use Rattle.rules.specs.Text.Words.{byte_at}
use Rattle.rules.specs.Text.Shape.{key_at, key_of, in_order, line_shape}
use Rattle.rules.specs.declared.Tables.{Tables}
use Rattle.rules.specs.Text.Layout.{nothing, zeros}
use Rattle.rules.specs.Text.Fill.{Filled, filled, fill_line}
use Rattle.rules.specs.Text.{Lined, lined, limited, shaped, keyed, line_at, TextOut, and_line, most_lines, lines_from, read_text}
use Rattle.rules.specs.Program.{Row, Rows, Var, Label, Expr, bad, lit, var, arith, val, int, fetch, step, Stmt, bad_s, set_s, put_s, goto_s, if_s, ifimm_s, iftag_s, ifint_s, return_s, label_s, Prog, is_zero, psi_of, prods_of, fields_of, field_of, same_kind, kind_at}
use Rattle.rules.specs.View.{program}
use Rattle.rules.specs.Names.{kind_there, stmt_there, products_there, label_suits, name_kind, name_row, name_var, name_stmt, names}
use Rattle.rules.specs.Typing.{ty_var, ty_arith, suits_tag, ty_val, immediate, ty_int, lone, Spot, nowhere, spot, spot_of, addr_spot, address_of, fetched, ty_fetch, stepped, ty_step, type}
use Rattle.rules.specs.Environments.{start_env, covers}
use Rattle.rules.specs.Body.{refuse, jump, is_box, is_imm, rule_set, put_at, rule_put, rule_goto, rule_if, rule_ifimm, rule_iftag, rule_ifint, rule_return, rule_label, reached, line_of, local_ok, local_line, body_numbers, types, last_of, is_end, last_line, ends}
use Rattle.rules.specs.Check.{check, checked, verdict}
use Rattle.rules.proofs.Laws.Tests.{by_need, by_when}
use Rattle.rules.proofs.Laws.Stages.{Each}
use Rattle.rules.proofs.Laws.Told.Numbers.{GlueNo, Told, InGlue, glue_no, accepted_told, first_told, then_told, each_all, each_then}

-- ---- 4 and 5

says_kind : (P : Prog) (k : Kind) → GlueNo (name_kind P k)
unfolding name_kind
says_kind P k = by_need GlueNo 4 (kind_there P k) 0 tt (λ h. tt)

says_row : (P : Prog) (r : Row) → GlueNo (name_row P r)
unfolding name_row
says_row P r = by_need GlueNo 4 (products_there P r.products) 0 tt (λ h. tt)

says_names : (P : Prog) (d : Var) → GlueNo (name_var P d)
unfolding name_var
says_names P d = says_kind P d.kind

says_stmt : (P : Prog) (st : Stmt) → GlueNo (name_stmt P st)
unfolding name_stmt
says_stmt P st = by_need GlueNo 4 (stmt_there P st) _ tt (λ h. by_need GlueNo 5 (label_suits P st) 0 tt (λ g. tt))

names_told : (P : Prog) → Told InGlue (names P)
unfolding names
names_told P =
    let body : List ℕ = map (name_stmt P) P.body in
    first_told InGlue GlueNo tt glue_no 1 _
    (says_kind P P.ret, each_then GlueNo (name_row P) (says_row P) P.rows (map (name_var P) P.vars ++ body) (each_then GlueNo (name_var P) (says_names P) P.vars body (each_all GlueNo (name_stmt P) (says_stmt P) P.body)))

-- ---- 6 to 10, of an expression

abbrev Says : Judged → Type 0
Says (Err n) = GlueNo n
Says (Ok (k, e)) = Unit

abbrev SaysAt : Addr → Type 0
SaysAt (Err n) = GlueNo n
SaysAt (Ok (t, k)) = Unit

says_var : (D : List Var) (Γ : Env) (v : ℕ) → Says (ty_var D Γ v)
unfolding ty_var
says_var D Γ v = by_need Says (Err 4) (ltb v Γ.count) _ tt (λ h. tt)

says_arith : (o : Op) (a b : Judged) → Says a → Says b → Says (ty_arith o a b)
unfolding ty_arith
says_arith o (Err n) b p q = p
says_arith o (Ok (k, e)) (Err n) p q = q
says_arith o (Ok (Value r, e)) (Ok (l, d)) p q = tt
says_arith o (Ok (Cint, e)) (Ok (Value r, d)) p q = tt
says_arith o (Ok (Cint, e)) (Ok (Cint, d)) p q = tt

module _ (ρ : Rows) where
  says_val : (r : ℕ) (a : Judged) → Says a → Says (ty_val ρ r a)
  unfolding ty_val
  says_val r (Err n) p = p
  says_val r (Ok (Value q, e)) p = tt
  says_val r (Ok (Cint, e)) p = by_need Says (Err 9) (suits_tag (psi_of ρ r) e.tag) _ tt (λ h. tt)

  says_int : (a : Judged) → Says a → Says (ty_int ρ a)
  unfolding ty_int
  says_int (Err n) p = p
  says_int (Ok (Cint, e)) p = tt
  says_int (Ok (Value r, e)) p = by_need Says (Err 7) (immediate e.boxed (prods_of ρ r)) _ tt (λ h. by_need Says (Err 10) (is_zero e.offset) _ tt (λ g. tt))

  says_spot : (r : ℕ) (x : Spot) (m : Tag) → SaysAt (addr_spot ρ r x m)
  says_spot r nowhere m = tt
  says_spot r (spot o t) G.Unknown = tt
  says_spot r (spot o t) (G.Known m) =
      by_need SaysAt (Err 8) (among t.n (prods_of ρ r)) _ tt
      (λ h. by_need SaysAt (Err 8) (among (o.n +ℤ m.n) (fields_of ρ r (nat_of t.n))) _ tt (λ g. tt))

  says_address : (r : ℕ) (e : Entry) (m : Tag) → SaysAt (address_of ρ r e m)
  says_address r e m = says_spot r (spot_of e.boxed e.offset e.tag (lone (psi_of ρ r) (prods_of ρ r))) m

  says_fetch : (a : Judged) → Says a → Says (ty_fetch ρ a)
  unfolding ty_fetch
  says_fetch (Err n) p = p
  says_fetch (Ok (Cint, e)) p = tt
  says_fetch (Ok (Value r, e)) p = go (address_of ρ r e (G.Known zero_n)) (says_address r e (G.Known zero_n))
    where
      go : (a : Addr) → SaysAt a → Says (fetched ρ r a)
      go (Err n) h = h
      go (Ok (t, k)) h = tt

  says_step : (a b : Judged) → Says a → Says b → Says (ty_step ρ a b)
  unfolding ty_step
  says_step (Err n) b p q = p
  says_step (Ok (k, e)) (Err n) p q = q
  says_step (Ok (Cint, e)) (Ok (l, d)) p q = tt
  says_step (Ok (Value r, e)) (Ok (Value s, d)) p q = tt
  says_step (Ok (Value r, e)) (Ok (Cint, d)) p q = go (address_of ρ r e d.tag) (says_address r e d.tag)
    where
      go : (a : Addr) → SaysAt a → Says (stepped r a)
      go (Err n) h = h
      go (Ok (t, k)) h = tt

  says : (D : List Var) (Γ : Env) (x : Expr) → Says (type ρ D Γ x)
  unfolding type
  says D Γ bad = tt
  says D Γ (lit n) = tt
  says D Γ (var v) = says_var D Γ v
  says D Γ (arith o x y) = says_arith o _ _ (says D Γ x) (says D Γ y)
  says D Γ (val r x) = says_val r _ (says D Γ x)
  says D Γ (int x) = says_int _ (says D Γ x)
  says D Γ (fetch x) = says_fetch _ (says D Γ x)
  says D Γ (step x y) = says_step _ _ (says D Γ x) (says D Γ y)

-- ---- 6 to 12, of a line

abbrev SaysLine : Line → Type 0
SaysLine x = GlueNo x.answer

module _ (Γ : Env) where
  says_jump : (L : List Label) (l : ℕ) (Δ : Env) (x : Line) → SaysLine x → SaysLine (jump L l Δ Γ x)
  says_jump L l Δ x h = by_need SaysLine (refuse 11 Γ) (ltb l (length L) && covers L l Δ) x tt (λ g. h)

  says_set : (D : List Var) (v : ℕ) (a : Judged) → Says a → SaysLine (rule_set D v a Γ)
  unfolding rule_set
  says_set D v (Err n) p = p
  says_set D v (Ok (k, e)) p = by_need SaysLine (refuse 6 Γ) (same_kind k (kind_at D v)) _ tt (λ h. tt)

  says_put_at : (ρ : Rows) (r : ℕ) (l : Kind) (d : Entry) (a : Addr) → SaysAt a → SaysLine (put_at ρ r l d a Γ)
  says_put_at ρ r l d (Err n) p = p
  says_put_at ρ r l d (Ok (t, o)) p = by_need SaysLine (refuse 6 Γ) (same_kind l (Value (field_of ρ r t o))) _ tt (λ h. by_need SaysLine (refuse 10 Γ) (is_zero d.offset) _ tt (λ g. tt))

  says_put : (ρ : Rows) (m : Num) (a b : Judged) → Says a → Says b → SaysLine (rule_put ρ m a b Γ)
  unfolding rule_put
  says_put ρ m (Err n) b p q = p
  says_put ρ m (Ok (k, e)) (Err n) p q = q
  says_put ρ m (Ok (Cint, e)) (Ok (l, d)) p q = tt
  says_put ρ m (Ok (Value r, e)) (Ok (l, d)) p q = says_put_at ρ r l d (address_of ρ r e (G.Known m)) (says_address ρ r e (G.Known m))

  says_goto : (L : List Label) (l : ℕ) → SaysLine (rule_goto L l Γ)
  unfolding rule_goto
  says_goto L l = says_jump L l Γ _ tt

  says_if : (L : List Label) (l : ℕ) (a : Judged) → Says a → SaysLine (rule_if L l a Γ)
  unfolding rule_if
  says_if L l (Err n) p = p
  says_if L l (Ok (Value r, e)) p = tt
  says_if L l (Ok (Cint, e)) p = says_jump L l Γ _ tt

  says_ifimm : (L : List Label) (l v : ℕ) (a : Judged) → Says a → SaysLine (rule_ifimm L l v a Γ)
  unfolding rule_ifimm
  says_ifimm L l v (Err n) p = p
  says_ifimm L l v (Ok (Cint, e)) p = tt
  says_ifimm L l v (Ok (Value r, e)) p = by_need SaysLine (refuse 10 Γ) (is_zero e.offset) _ tt (λ h. says_jump L l _ _ tt)

  says_iftag : (ρ : Rows) (L : List Label) (l v : ℕ) (n : Num) (a : Judged) → Says a → SaysLine (rule_iftag ρ L l v n a Γ)
  unfolding rule_iftag
  says_iftag ρ L l v n (Err m) p = p
  says_iftag ρ L l v n (Ok (Cint, e)) p = tt
  says_iftag ρ L l v n (Ok (Value r, e)) p =
      by_need SaysLine (refuse 10 Γ) (is_zero e.offset) _ tt
      (λ h. by_need SaysLine (refuse 7 Γ) (is_box e.boxed) _ tt
      (λ g. by_need SaysLine (refuse 8 Γ) (among n.n (prods_of ρ r)) _ tt (λ f. says_jump L l _ _ tt)))

  says_ifint : (ρ : Rows) (L : List Label) (l v : ℕ) (n : Num) (a : Judged) → Says a → SaysLine (rule_ifint ρ L l v n a Γ)
  unfolding rule_ifint
  says_ifint ρ L l v n (Err m) p = p
  says_ifint ρ L l v n (Ok (Cint, e)) p = tt
  says_ifint ρ L l v n (Ok (Value r, e)) p =
      by_need SaysLine (refuse 10 Γ) (is_zero e.offset) _ tt
      (λ h. by_need SaysLine (refuse 7 Γ) (is_imm e.boxed) _ tt
      (λ g. by_need SaysLine (refuse 9 Γ) (suits (psi_of ρ r) n) _ tt (λ f. says_jump L l _ _ tt)))

  says_return : (ret : Kind) (a : Judged) → Says a → SaysLine (rule_return ret a Γ)
  unfolding rule_return
  says_return ret (Err n) p = p
  says_return ret (Ok (k, e)) p = by_need SaysLine (refuse 6 Γ) (same_kind k ret) _ tt (λ h. by_need SaysLine (refuse 10 Γ) (is_zero e.offset) _ tt (λ g. tt))

  says_label : (P : Prog) (l : ℕ) (b : Bool) → SaysLine (rule_label P l b Γ)
  unfolding rule_label
  says_label P l true = by_need SaysLine (refuse 11 Γ) (covers P.labels l Γ) _ tt (λ h. tt)
  says_label P l false = tt

  says_reached : (b : Bool) (x : Line) → SaysLine x → SaysLine (reached b Γ x)
  says_reached true x h = h
  says_reached false x h = tt

  says_line : (P : Prog) (b : Bool) (st : Stmt) → SaysLine (line_of P b Γ st)
  unfolding line_of
  says_line P b bad_s = tt
  says_line P b (set_s v x) = says_reached b _ (says_set P.vars v _ (says P.rows P.vars Γ x))
  says_line P b (put_s x n y) = says_reached b _ (says_put P.rows n _ _ (says P.rows P.vars Γ x) (says P.rows P.vars Γ y))
  says_line P b (goto_s l) = says_reached b _ (says_goto P.labels l)
  says_line P b (if_s l x) = says_reached b _ (says_if P.labels l _ (says P.rows P.vars Γ x))
  says_line P b (ifimm_s l v) = says_reached b _ (says_ifimm P.labels l v _ (says_var P.vars Γ v))
  says_line P b (iftag_s l v n) = says_reached b _ (says_iftag P.rows P.labels l v n _ (says_var P.vars Γ v))
  says_line P b (ifint_s l v n) = says_reached b _ (says_ifint P.rows P.labels l v n _ (says_var P.vars Γ v))
  says_line P b (return_s x) = says_reached b _ (says_return P.ret _ (says P.rows P.vars Γ x))
  says_line P b (label_s l) = says_label P l b

says_body : (P : Prog) (body : List Stmt) (b : Bool) (Γ : Env) → Each GlueNo (body_numbers P body b Γ)
unfolding body_numbers
says_body P [] b Γ = tt
says_body P (st ∷ body) b Γ = (says_line Γ P b st, says_body P body _ _)

says_local : (ρ : Rows) (d : Var) → GlueNo (local_line ρ d)
unfolding local_line
says_local ρ d = by_when GlueNo d.is_local _ _ (λ z. go d.kind) (λ z. tt)
  where
    go : (k : Kind) → GlueNo (local_ok ρ k d.number)
    go Cint = tt
    go (Value r) = by_need GlueNo 9 (suits (psi_of ρ r) d.number) 0 tt (λ h. tt)

types_told : (P : Prog) → Told InGlue (types P)
unfolding types
types_told P =
    first_told InGlue GlueNo tt glue_no _ _
    (each_then GlueNo (local_line P.rows) (says_local P.rows) P.vars (body_numbers P P.body true (start_env P.vars)) (says_body P P.body true (start_env P.vars)))

-- ---- 13, and all of a program

ends_told : (P : Prog) → Told InGlue (ends P)
unfolding ends
ends_told P = by_need (Told InGlue) (answer 13 (last_line P)) (is_end (last_of P.body)) accepted (glue_no 13 tt refl (last_line P)) (λ h. accepted_told InGlue tt)

check_told : (P : Prog) → Told InGlue (check P)
unfolding check
check_told P = then_told InGlue (names P) _ (names_told P) (then_told InGlue (types P) _ (types_told P) (ends_told P))

-- ---- 1 to 3

abbrev SaysLined : Lined → Type 0
SaysLined (lined a n c t) = GlueNo a

module _ (s : List ℕ) (c : Count) (t : Tables) where
  says_limited : (k n : ℕ) (x : Filled) → SaysLined (limited k n x)
  says_limited k n (filled true d u) = tt
  says_limited k n (filled false d u) = tt

  says_shaped : (k at : ℕ) (x : Next) → SaysLined (shaped s k at c t x)
  says_shaped k at (Err p) = tt
  says_shaped k at (Ok n) = by_when SaysLined (eqb (byte_at s n) 10) _ _ (λ z. says_limited k (n + 1) (fill_line s (key_of k) at c t)) (λ z. tt)

  says_keyed : (start : ℕ) (x : Reading) → SaysLined (keyed s start c t x)
  says_keyed start (Err p) = tt
  says_keyed start (Ok (k, n)) = by_when SaysLined (in_order c.part k) _ _ (λ z. says_shaped k n (line_shape s c.vars (key_of k) n)) (λ z. tt)

abbrev ToldText : TextOut → Type 0
ToldText o = Told InGlue o.answer

lines_told : (s : List ℕ) (left line at : ℕ) (c : Count) (t : Tables) → ToldText (lines_from s left line at c t)
unfolding lines_from line_at
lines_told s zero line at c t = glue_no 3 tt refl line
lines_told s (suc left) line at c t =
    by_when ToldText (ltb at (length s)) _ _ (λ z. one (line_at s at c t) (says_keyed s c t at (key_at s at)) (λ n d u. lines_told s left (line + 1) n d u))
    (λ z. by_when ToldText (eqb c.part 0) _ _ (λ q. glue_no 2 tt refl 1) (λ q. accepted_told InGlue tt))
  where
    one : (x : Lined) → SaysLined x → ((n : ℕ) (d : Count) (u : Tables) → ToldText (lines_from s left (line + 1) n d u)) → ToldText (and_line (lines_from s left (line + 1)) line x)
    one (lined a n d u) h f = by_when ToldText (eqb a 0) _ _ (λ z. f n d u) (λ z. glue_no a h z line)

reading_told : (s : List ℕ) → ToldText (read_text s)
unfolding read_text case_of
reading_told s = by_when ToldText (ltb limits.bytes (length s)) _ _ (λ z. (refl, tt)) (λ z. lines_told s (most_lines + 1) 1 0 nothing zeros)

pub glue_told : (s : List ℕ) → Told InGlue (verdict s)
unfolding verdict checked
glue_told s = then_told InGlue (read_text s).answer _ (reading_told s) (check_told (program (read_text s).tables))
