-- How the parts of a run make the rules' result. Assumes nothing.
use borrow.Author.Tests.{eq-eqb, ne_eqb}
use native.Mathlib.Omega.{arith as lin}
use lib.ListN.{take-append-drop}
use lib.Seq.{take_all}
use borrow.Table.Elements.{length_app}
use lib.Seq.{length-take-le}
use Rattle.std.specs.Prelude.{◌-◌, ◌≤◌, ◌∷◌, ◌≡◌, Ok, Err}
use Rattle.std.specs.Prelude as Std
use Rattle.rules.specs.Prelude.{ℕ, suc, Bool, true, false, List, [], sym, ap, subst, ◌∙◌, eqb, length, get_or, take, drop}
use Rattle.rules.specs.declared.Answer.{Answer}
use Rattle.rules.specs.declared.Verdict.{Verdict}
use Rattle.rules.specs.When.{when}
use Rattle.rules.specs.Bytes.{bytes}
use Rattle.rules.specs.Answers.{outcome, answer_of, case_of}
use Rattle.rules.specs.Text.Words.{agreed}
use Rattle.rules.specs.Program.{Prog}
use Rattle.rules.specs.View.{program}
use Rattle.rules.specs.Check.{checked, verdict}
use Rattle.rules.specs.Machine.Tables.{datum_code, run_t, run_within}
use Rattle.rules.specs.Store.{read_store}
use Rattle.rules.specs.Run.{Result, refused, result_of, run_store, run_checked, glue_bytes}
use Rattle.rules.proofs.Laws.Told.{told_verdict, told_store}
use Rattle.rules.specs.declared.Tables.{Tables}
use Rattle.rules.specs.declared.StoreTables.{StoreTables}
use Rattle.table.proofs.Passes.{accepts, refuses}
use Rattle.checker.specs.Says as C
use Rattle.store.specs.Says as S
use Rattle.moves.specs.Moves.{parts}
use Rattle.runner.specs.Ran.{ended}

-- ---- the store

pub store_refused : (P : Prog) (s : List ℕ) (a : Answer) (v : Verdict) (x : Result) → Err a ≡ outcome (read_store P s).answer → v ≡ case_of a → x ≡ refused (answer_of v) → x ≡ run_store P (read_store P s)
store_refused P s a v x e h r =
    let w = refuses (read_store P s).answer e in
    let q : Err a ≡ Err (read_store P s).answer = e ∙ w.1 in
    let same : a ≡ (read_store P s).answer = cc in
    let told : answer_of v ≡ (read_store P s).answer = ap answer_of (h ∙ ap case_of same) ∙ told_store P s in
    rw (ne_eqb _ _ w.0) (r ∙ ap refused told)

pub store_ran : (P : Prog) (s : List ℕ) (a : Std.Result Unit Answer) (t : StoreTables) → S.Says (read_store P s) a t → a ≡ Ok tt → (x : Result) (C' W' : List ℕ) (i n v : ℕ)
    → parts t.size t.heads C' W' i n v ≡ run_within P (parts t.size t.heads t.cells t.vals 0 0 0) → x ≡ ended n (datum_code v) → x ≡ run_store P (read_store P s)
unfolding run_within
store_ran P s a t h z x C' W' i n v e r =
    let ok : (read_store P s).answer.number ≡ 0 = accepts (read_store P s).answer (sym z ∙ h.answer) in
    let none : get_or t.size 0 0 - 0 ≡ get_or t.size 0 0 = omega lin in
    rw (eq-eqb _ _ ok, sym h.tables) (r ∙ ap result_of (e ∙ ap (λ (k : ℕ). run_t P k (parts t.size t.heads t.cells t.vals 0 0 0)) none))

-- ---- the glue

pub glue_refused : (t s : List ℕ) (v : Verdict) (a : Answer) (x : Result) → v ≡ case_of (checked s).verdict → a ≡ answer_of v → (a.number ≡ 0 → ⊥) → x ≡ refused (answer_of v) → x ≡ run_checked t (checked s)
unfolding verdict
glue_refused t s v a x e h n r =
    let told : answer_of v ≡ (checked s).verdict = ap answer_of e ∙ told_verdict s in
    let no : ((checked s).verdict.number ≡ 0 → ⊥) = subst (λ (b : Answer). b.number ≡ 0 → ⊥) (h ∙ told) n in
    rw (ne_eqb _ _ no) (r ∙ ap refused told)

-- the bytes after the glue, as a part of the text that goes to its end
pub rest_is : (n : ℕ) (s : List ℕ) → n ≤ length s → take (length s - n) (drop n s) ≡ drop n s
rest_is n s h =
    let whole = sym (length_app (take n s) (drop n s)) ∙ ap (λ (l : List ℕ). length l) (take-append-drop n s) in
    take_all (length s - n) (drop n s) (omega (lin, whole, length-take-le n s h))

pub glue_ran : (t t' s : List ℕ) → t ≡ t' → (v : Verdict) (u : Tables) → C.Says (checked s) v u → (a : Answer) → a ≡ answer_of v → a.number ≡ 0 → (x : Result)
    → x ≡ run_store (program u) (read_store (program u) t) → x ≡ run_checked t' (checked s)
unfolding verdict
glue_ran t t' s p v u h a e z x r =
    let told : a ≡ (checked s).verdict = e ∙ ap answer_of h.answer ∙ told_verdict s in
    let ok : (checked s).verdict.number ≡ 0 = ap (λ (b : Answer). b.number) (sym told) ∙ z in
    rw (eq-eqb _ _ ok) (r ∙ (λ i. run_store (program (h.tables i)) (read_store (program (h.tables i)) (p i))))

-- ---- the glue is a part of the text

within_when : (c : Bool) (n m : ℕ) → n ≤ m → when c (λ _. 0) (λ _. suc n) ≤ suc m
within_when true n m h = omega lin
within_when false n m h = omega lin

pub glue_within : (fresh : Bool) (s : List ℕ) → glue_bytes fresh s ≤ length s
unfolding glue_bytes
glue_within fresh [] = omega lin
glue_within true (b ∷ s) = within_when (eqb (agreed (bytes "run=") (b ∷ s)) 4) _ _ (glue_within (eqb b 10) s)
glue_within false (b ∷ s) = let h = glue_within (eqb b 10) s in omega lin
