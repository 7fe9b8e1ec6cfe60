-- The starred bench examples, from quoted text, under one statement. Assumes nothing.
use Prim.Native.String.{String}
use Rattle.std.specs.Prelude.{◌++◌, ◌≡◌}
use Rattle.rules.specs.Prelude.{ℕ, List, refl}
use Rattle.rules.specs.Bytes.{bytes}
use Rattle.rules.specs.Answers.{answer}
use Rattle.rules.specs.Check.{checks, verdict}

-- the rows and v0 where not said; a lone expression stands in a `return=`, with `ret` of its own row
abbrev pub standard : List ℕ
standard = bytes "type=inf:\ntype=0:0|0,0\ntype=2:\ntype=0:0,0\nparam=value 3\n"

abbrev pub lone : String → String → List ℕ
lone row x = bytes "ret=value " ++ bytes row ++ bytes "\n" ++ standard ++ bytes "return=" ++ bytes x ++ bytes "\n"

pub record Starred : Type 0 where
  pub e1 : verdict (bytes "ret=int\ntype=inf:\ntype=0:0|0,0\nparam=value 1\nifimm=0 v0\niftag=1 v0 1\nlabel=any,0,any\nreturn=-1\nlabel=box,0,1\nreturn=add int fetch v0 int fetch step v0 1\n") ≡ answer 0 0
  pub e2 : verdict (bytes "ret=int\ntype=inf:\ntype=0:0,0|0\nparam=value 1\nifimm=0 v0\niftag=1 v0 1\nlabel=any,0,any\nreturn=-1\nlabel=box,0,1\nreturn=add int fetch v0 int fetch step v0 1\n") ≡ answer 8 10
  pub e3 : verdict (lone "2" "val 2 1") ≡ answer 0 0
  pub e4 : verdict (lone "2" "val 2 2") ≡ answer 9 7
  pub e5 : verdict (lone "2" "val 2 -1") ≡ answer 9 7
  pub e6 : verdict (lone "0" "fetch step v0 1") ≡ answer 0 0
  pub e7 : verdict (lone "0" "fetch step v0 2") ≡ answer 8 7
  pub e8 : verdict (lone "0" "fetch step step v0 1 -1") ≡ answer 0 0
  pub e9 : verdict (lone "3" "step v0 1") ≡ answer 10 7
  pub e9b : verdict (lone "3" "step v0 0") ≡ answer 0 0
  pub e10 : verdict (lone "2" "val 2 mul 65536 65536") ≡ answer 0 0
  pub e11 : verdict (bytes "ret=int\n" ++ standard ++ bytes "goto=0\nlabel=box,0,0\nreturn=1\n") ≡ answer 11 7

pub starred : Starred
unfolding checks
starred = record { e1 = refl; e2 = refl; e3 = refl; e4 = refl; e5 = refl; e6 = refl; e7 = refl; e8 = refl; e9 = refl; e9b = refl; e10 = refl; e11 = refl }
