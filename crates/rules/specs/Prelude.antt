-- What the other files import: the library's names under their own names, and the declared types of src with their variants. It defines nothing. Assumes nothing.
pub use Rattle.std.specs.Prelude.{ℕ, zero, suc, ◌+◌, ◌-◌, ◌*◌, ◌/◌, ◌%◌, ◌<◌, ◌≤◌, max, Bool, true, false, not, ◌&&◌, ◌||◌, List, [], ◌∷◌, ◌++◌, map, ◌≡◌, refl, ◌↔◌, ltb, leb, eqb, ℤ, pos, negsuc, ◌+ℤ◌, ◌-ℤ◌, ◌*ℤ◌, length, get_or, set, take, drop, replicate, Option, None, Some, Result, Ok, Err}
pub use Rattle.std.proofs.Common.{sym, ap, ap₂, subst, ◌∙◌}
-- numbers, entries, environments
pub use Rattle.rules.specs.declared.Num.{Num}
pub use Rattle.rules.specs.declared.Boxed.{Boxed}
pub use Rattle.rules.specs.declared.Boxed.TheVariants as B
pub use Rattle.rules.specs.declared.Offset.{Offset}
pub use Rattle.rules.specs.declared.Offset.TheVariants as I
pub use Rattle.rules.specs.declared.Tag.{Tag}
pub use Rattle.rules.specs.declared.Tag.TheVariants as G
pub use Rattle.rules.specs.declared.Entry.{Entry}
pub use Rattle.rules.specs.declared.Env.{Env}
pub use Rattle.rules.specs.declared.Limits.{Limits}
pub use Rattle.rules.specs.declared.Kind.{Kind}
pub use Rattle.rules.specs.declared.Kind.TheVariants.{Cint, Value}
pub use Rattle.rules.specs.declared.Psi.{Psi}
pub use Rattle.rules.specs.declared.Psi.TheVariants.{Inf, Upto}
pub use Rattle.rules.specs.declared.Op.{Op}
pub use Rattle.rules.specs.declared.Op.TheVariants as O
-- answers
pub use Rattle.rules.specs.declared.Answer.{Answer}
pub use Rattle.rules.specs.declared.Verdict.{Verdict}
pub use Rattle.rules.specs.declared.Verdict.TheVariants as C
pub use Rattle.rules.specs.declared.Line.{Line}
-- how much was read
pub use Rattle.rules.specs.declared.Count.{Count}
pub use Rattle.rules.specs.declared.StoreCount.{StoreCount}
-- the machine
pub use Rattle.rules.specs.declared.Datum.{Datum}
pub use Rattle.rules.specs.declared.Datum.TheVariants.{Int, Imm, Place}
pub use Rattle.rules.specs.declared.Act.{Act}
pub use Rattle.rules.specs.declared.Act.TheVariants as D
pub use Rattle.rules.specs.declared.Stepped.{Stepped}
pub use Rattle.rules.specs.declared.Stepped.TheVariants as S
pub use Rattle.rules.specs.declared.State.{State}
pub use Rattle.rules.specs.declared.State.TheVariants as Q
