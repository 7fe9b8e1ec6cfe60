-- Covering is reflexive and transitive, of entries and of environments. Assumes nothing.
use Rattle.std.specs.Prelude.{T}
use Rattle.std.specs.Prelude.{◌&&◌, ◌≡◌}
use Rattle.rules.specs.Prelude.{ℕ, zero, suc, List, subst, get_or, Num, Boxed, Offset, Tag, Entry, Env}
use Rattle.rules.specs.Prelude.B
use Rattle.rules.specs.Prelude.I
use Rattle.rules.specs.Prelude.G
use Rattle.rules.specs.Numbers.{same_num}
use Rattle.rules.specs.Program.{no_entry}
use Rattle.rules.specs.Environments.{covers_boxed, covers_offset, covers_tag, covers_entry, covers_first, covers_env}
use Rattle.rules.proofs.Laws.Tests.{and_held, and_both, same→eq, same_refl}

-- ---- parts

boxed_refl : (b : Boxed) → T (covers_boxed b b)
unfolding covers_boxed
boxed_refl B.Either = tt
boxed_refl B.Block = tt
boxed_refl B.Imm = tt

boxed_trans : (a b c : Boxed) → T (covers_boxed a b) → T (covers_boxed b c) → T (covers_boxed a c)
unfolding covers_boxed
boxed_trans B.Either b c h k = tt
boxed_trans B.Block B.Block B.Block h k = tt
boxed_trans B.Imm B.Imm B.Imm h k = tt
boxed_trans B.Block B.Either c h k = elim h [ ]
boxed_trans B.Block B.Block B.Either h k = elim k [ ]
boxed_trans B.Block B.Block B.Imm h k = elim k [ ]
boxed_trans B.Block B.Imm c h k = elim h [ ]
boxed_trans B.Imm B.Either c h k = elim h [ ]
boxed_trans B.Imm B.Block c h k = elim h [ ]
boxed_trans B.Imm B.Imm B.Either h k = elim k [ ]
boxed_trans B.Imm B.Imm B.Block h k = elim k [ ]

same_trans : (a b c : Num) → T (same_num a b) → T (same_num b c) → T (same_num a c)
same_trans a b c h k = subst (λ (x : Num). T (same_num a x)) (same→eq b c k) h

offset_refl : (i : Offset) → T (covers_offset i i)
unfolding covers_offset
offset_refl I.Unknown = tt
offset_refl (I.Known n) = same_refl n

offset_trans : (a b c : Offset) → T (covers_offset a b) → T (covers_offset b c) → T (covers_offset a c)
unfolding covers_offset
offset_trans I.Unknown b c h k = tt
offset_trans (I.Known n) (I.Known m) (I.Known l) h k = same_trans n m l h k
offset_trans (I.Known n) I.Unknown c h k = elim h [ ]
offset_trans (I.Known n) (I.Known m) I.Unknown h k = elim k [ ]

tag_refl : (t : Tag) → T (covers_tag t t)
unfolding covers_tag
tag_refl G.Unknown = tt
tag_refl (G.Known n) = same_refl n

tag_trans : (a b c : Tag) → T (covers_tag a b) → T (covers_tag b c) → T (covers_tag a c)
unfolding covers_tag
tag_trans G.Unknown b c h k = tt
tag_trans (G.Known n) (G.Known m) (G.Known l) h k = same_trans n m l h k
tag_trans (G.Known n) G.Unknown c h k = elim h [ ]
tag_trans (G.Known n) (G.Known m) G.Unknown h k = elim k [ ]

-- ---- entries

pub entry_refl : (e : Entry) → T (covers_entry e e)
unfolding covers_entry
entry_refl e = and_held (covers_boxed e.boxed e.boxed) _ (boxed_refl e.boxed) (and_held (covers_offset e.offset e.offset) _ (offset_refl e.offset) (tag_refl e.tag))

pub entry_trans : (a b c : Entry) → T (covers_entry a b) → T (covers_entry b c) → T (covers_entry a c)
unfolding covers_entry
entry_trans a b c h k =
    let h₁ = and_both (covers_boxed a.boxed b.boxed) (covers_offset a.offset b.offset && covers_tag a.tag b.tag) h in
    let h₂ = and_both (covers_offset a.offset b.offset) (covers_tag a.tag b.tag) h₁.1 in
    let k₁ = and_both (covers_boxed b.boxed c.boxed) (covers_offset b.offset c.offset && covers_tag b.tag c.tag) k in
    let k₂ = and_both (covers_offset b.offset c.offset) (covers_tag b.tag c.tag) k₁.1 in
    and_held (covers_boxed a.boxed c.boxed) _ (boxed_trans a.boxed b.boxed c.boxed h₁.0 k₁.0)
    (and_held (covers_offset a.offset c.offset) (covers_tag a.tag c.tag) (offset_trans a.offset b.offset c.offset h₂.0 k₂.0) (tag_trans a.tag b.tag c.tag h₂.1 k₂.1))

-- ---- environments

first_refl : (n : ℕ) (es : List Entry) → T (covers_first n es es)
unfolding covers_first
first_refl zero es = tt
first_refl (suc n) es = and_held (covers_first n es es) (covers_entry (get_or es n no_entry) (get_or es n no_entry)) (first_refl n es) (entry_refl (get_or es n no_entry))

first_trans : (n : ℕ) (as' bs cs : List Entry) → T (covers_first n as' bs) → T (covers_first n bs cs) → T (covers_first n as' cs)
unfolding covers_first
first_trans zero as' bs cs h k = tt
first_trans (suc n) as' bs cs h k =
    let a = and_both (covers_first n as' bs) (covers_entry (get_or as' n no_entry) (get_or bs n no_entry)) h in
    let b = and_both (covers_first n bs cs) (covers_entry (get_or bs n no_entry) (get_or cs n no_entry)) k in
    and_held (covers_first n as' cs) (covers_entry (get_or as' n no_entry) (get_or cs n no_entry)) (first_trans n as' bs cs a.0 b.0) (entry_trans (get_or as' n no_entry) (get_or bs n no_entry) (get_or cs n no_entry) a.1 b.1)

pub env_refl : (Γ : Env) → T (covers_env Γ Γ)
unfolding covers_env
env_refl Γ = first_refl Γ.count Γ.entries

pub env_trans : (Θ Δ Γ : Env) → Δ.count ≡ Γ.count → T (covers_env Θ Δ) → T (covers_env Δ Γ) → T (covers_env Θ Γ)
unfolding covers_env
env_trans Θ Δ Γ e h k = first_trans Γ.count Θ.entries Δ.entries Γ.entries (rw e at h) k
