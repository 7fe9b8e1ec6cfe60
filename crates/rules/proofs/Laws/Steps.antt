-- Steps: what is stuck changes nothing, what has returned stays, each other step counts one, and no step changes a block's row, tag or length. Assumes nothing.
use Rattle.std.proofs.Common.{arith as lin}
use Rattle.std.specs.Prelude.{◌+◌, ◌<◌, ◌≡◌}
use Rattle.rules.specs.Machine.{Given}
use Rattle.rules.specs.Prelude.{ℕ, zero, suc, refl, sym, ap, subst, ◌∙◌, Datum, None, Some, Act, Stepped}
use Rattle.rules.specs.Prelude.D
use Rattle.rules.specs.Prelude.S
use Rattle.rules.specs.Program.{Prog}
use Rattle.rules.specs.Machine.{Store, decide, Machine, apply, step_from, step_of, run_of, says_act, says_from, says}
use Rattle.rules.specs.Wrong.{SameBlocks}
use Rattle.rules.proofs.Sound.Keeps.{row_keeps, tag_keeps, len_keeps, count_keeps}

-- ---- what a step says of itself

abbrev IsStuck : Stepped → Type 0
IsStuck S.Stuck = Unit
IsStuck S.Moved = ⊥
IsStuck S.Returned = ⊥
IsStuck S.Spent = ⊥

abbrev IsMoved : Stepped → Type 0
IsMoved S.Stuck = ⊥
IsMoved S.Moved = Unit
IsMoved S.Returned = ⊥
IsMoved S.Spent = ⊥

abbrev IsReturned : Stepped → Type 0
IsReturned S.Stuck = ⊥
IsReturned S.Moved = ⊥
IsReturned S.Returned = Unit
IsReturned S.Spent = ⊥

nothing_done : (a : Act) (m : Machine) → IsStuck (says_act a) → apply a m ≡ m
unfolding apply
nothing_done D.Stuck m h = refl
nothing_done D.Fall m h = elim h [ ]
nothing_done (D.Jump _) m h = elim h [ ]
nothing_done (D.SetVar _ _) m h = elim h [ ]
nothing_done (D.SetCell _ _ _) m h = elim h [ ]
nothing_done (D.Give _) m h = elim h [ ]

-- a stuck step changes nothing
pub stuck_changes_nothing : (P : Prog) (m : Machine) → says P m ≡ S.Stuck → step_of P m ≡ m
unfolding says step_of
stuck_changes_nothing P m h = go m.value (subst IsStuck (sym h) tt)
  where
    go : (g : Given) → IsStuck (says_from P m g) → step_from P m g ≡ m
    go None h = nothing_done (decide P m.store m.vals m.at) m h
    go (Some _) h = elim h [ ]

never_returned : (a : Act) → IsReturned (says_act a) → ⊥
never_returned D.Stuck h = h
never_returned D.Fall h = h
never_returned (D.Jump i) h = h
never_returned (D.SetVar v d) h = h
never_returned (D.SetCell b o d) h = h
never_returned (D.Give d) h = h

-- a returned machine stays as it is and counts no more
pub returned_stays : (P : Prog) (m : Machine) → says P m ≡ S.Returned → step_of P m ≡ m
unfolding says step_of
returned_stays P m h = go m.value (subst IsReturned (sym h) tt)
  where
    go : (g : Given) → IsReturned (says_from P m g) → step_from P m g ≡ m
    go None h = absurd (never_returned (decide P m.store m.vals m.at) h)
    go (Some d) h = refl

one_more_lem : (a : Act) (m : Machine) → IsMoved (says_act a) → (apply a m).steps ≡ m.steps + 1
unfolding apply
one_more_lem D.Fall m h = refl
one_more_lem (D.Jump i) m h = refl
one_more_lem (D.SetVar v d) m h = refl
one_more_lem (D.SetCell b o d) m h = refl
one_more_lem (D.Give d) m h = refl
one_more_lem D.Stuck m h = elim h [ ]

-- any other step counts one
pub moved_counts : (P : Prog) (m : Machine) → says P m ≡ S.Moved → (step_of P m).steps ≡ m.steps + 1
unfolding says step_of
moved_counts P m h = go m.value (subst IsMoved (sym h) tt)
  where
    go : (g : Given) → IsMoved (says_from P m g) → (step_from P m g).steps ≡ m.steps + 1
    go None h = one_more_lem (decide P m.store m.vals m.at) m h
    go (Some _) h = elim h [ ]

-- ---- runs

-- a run of m + n steps is a run of n after a run of m
pub run_adds : (P : Prog) (m n : ℕ) (k : Machine) → run_of P (m + n) k ≡ run_of P n (run_of P m k)
unfolding run_of
run_adds P zero n k = let z : 0 + n ≡ n = omega lin in rw z
run_adds P (suc m) n k = let z : suc m + n ≡ suc (m + n) = omega lin in rw z (run_adds P m n (step_of P k))

-- a returned machine stays so through any run
returned_run : (P : Prog) (n : ℕ) (m : Machine) (d : Datum) → m.value ≡ Some d → run_of P n m ≡ m
unfolding run_of step_of
returned_run P zero m d e = refl
returned_run P (suc n) m d e = ap (run_of P n) (ap (step_from P m) e) ∙ returned_run P n m d e

-- until the return the count is the number of steps, if no step is stuck
pub count_until_return : (P : Prog) (n : ℕ) (m : Machine) → ((k : ℕ) → k < n → (run_of P k m).value ≡ None → says P (run_of P k m) ≡ S.Moved) → (run_of P n m).value ≡ None → (run_of P n m).steps ≡ m.steps + n
unfolding run_of
count_until_return P zero m h e = omega lin
count_until_return P (suc n) m h e = go m.value refl (λ f. count_until_return P n (step_of P m) (λ k l q. h (suc k) (omega lin) q) f)
  where
    go : (g : Given) → m.value ≡ g → ((run_of P n (step_of P m)).value ≡ None → (run_of P n (step_of P m)).steps ≡ (step_of P m).steps + n) → (run_of P n (step_of P m)).steps ≡ m.steps + suc n
    go None q f =
        let a : (run_of P n (step_of P m)).steps ≡ (step_of P m).steps + n = f e in
        let b : (step_of P m).steps ≡ m.steps + 1 = moved_counts P m (h 0 (omega lin) q) in
        omega lin
    go (Some d) q f =
        let w : (run_of P (suc n) m).value ≡ Some d = ap (λ (x : Machine). x.value) (returned_run P (suc n) m d q) ∙ q in
        let z : ◌≡◌ {A = ℕ} 0 1 = cc in
        absurd (omega lin)

-- ---- blocks keep their row, tag and length

same : (s : Store) → SameBlocks s s
same s = record { count = refl; row = λ b. refl; tag = λ b. refl; length = λ b. refl }

apply_same : (a : Act) (m : Machine) → SameBlocks m.store (apply a m).store
unfolding apply
apply_same D.Stuck m = same m.store
apply_same D.Fall m = same m.store
apply_same (D.Jump i) m = same m.store
apply_same (D.SetVar v d) m = same m.store
apply_same (D.SetCell b o d) m = record { count = count_keeps m.store b o d; row = row_keeps m.store b o d; tag = tag_keeps m.store b o d; length = len_keeps m.store b o d }
apply_same (D.Give d) m = same m.store

step_same : (P : Prog) (m : Machine) → SameBlocks m.store (step_of P m).store
unfolding step_of
step_same P m = go m.value
  where
    go : (g : Given) → SameBlocks m.store (step_from P m g).store
    go None = apply_same (decide P m.store m.vals m.at) m
    go (Some d) = same m.store

pub run_same : (P : Prog) (n : ℕ) (m : Machine) → SameBlocks m.store (run_of P n m).store
unfolding run_of
run_same P zero m = same m.store
run_same P (suc n) m =
    let a = run_same P n (step_of P m) in
    let b = step_same P m in
    record { count = a.count ∙ b.count; row = λ c. a.row c ∙ b.row c; tag = λ c. a.tag c ∙ b.tag c; length = λ c. a.length c ∙ b.length c }
