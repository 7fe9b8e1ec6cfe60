-- Glue texts and their answers, by the rulings that they show. Assumes nothing.
use Rattle.std.specs.Prelude.{◌∷◌, ◌++◌, ◌≡◌}
use Rattle.rules.specs.Prelude.{ℕ, List, [], refl}
use Rattle.rules.specs.Bytes.{bytes}
use Rattle.rules.proofs.Starred.{standard}
use Rattle.rules.specs.Run.{runs}
use Prim.Native.String.{String}
use Rattle.rulings.specs.Cases.{Case, glue, times, differing}

abbrev fresh : String → List ℕ
fresh x = bytes "ret=int\n" ++ standard ++ bytes x

abbrev cases : List Case
cases =
    -- rulings 1 and 2: line ends, and a line's shape before its limits
    glue (bytes "") 2 1 ∷
    glue (bytes "ret=int\nreturn=1") 2 2 ∷
    glue (bytes "ret=int\n\nreturn=1\n") 2 2 ∷
    glue (bytes "ret=int\r\nreturn=1\n") 2 1 ∷
    glue (bytes "ret=int\nreturn=" ++ times 15 (bytes "add 1 ") (bytes "1\n")) 0 0 ∷
    glue (bytes "ret=int\nreturn=" ++ times 16 (bytes "add 1 ") (bytes "1\n")) 3 2 ∷
    glue (bytes "ret=int\nreturn=" ++ times 16 (bytes "add 1 ") (bytes "1 1\n")) 2 2 ∷
    glue (bytes "ret=int\nreturn=" ++ times 16 (bytes "add 1 ") (bytes "1\nreturn=x\n")) 3 2 ∷
    glue (bytes "ret=int\ntype=0:" ++ times 15 (bytes "0|") (bytes "0\nreturn=1\n")) 0 0 ∷
    glue (bytes "ret=int\ntype=0:" ++ times 16 (bytes "0|") (bytes "0\nreturn=1\n")) 3 2 ∷
    glue (bytes "ret=int\ntype=0:" ++ times 16 (bytes "0|") (bytes "\nreturn=1\n")) 2 2 ∷
    glue (bytes "ret=int\ntype=0:" ++ times 16 (bytes "0,") (bytes "0\nreturn=1\n")) 3 2 ∷
    glue (bytes "ret=int\n" ++ times 33 (bytes "param=int\n") (bytes "return=1\n")) 3 34 ∷
    glue (bytes "ret=int\n" ++ times 32 (bytes "param=int\n") (bytes "param=in\nreturn=1\n")) 2 34 ∷
    glue (bytes "ret=int\n" ++ times 65 (bytes "type=0:\n") (bytes "return=1\n")) 3 66 ∷
    -- 3 to 6: key order, numbers, empty fields, label entries
    glue (bytes "return=1\n") 2 1 ∷
    glue (bytes "ret=int\nret=int\n") 2 2 ∷
    glue (bytes "ret=int\nparam=int\ntype=0:\nreturn=1\n") 2 3 ∷
    glue (bytes "ret=int\nreturn=1\nrun=1\n") 2 3 ∷
    glue (bytes "ret=int\nreturn=2147483648\n") 2 2 ∷
    glue (bytes "ret=int\nreturn=-2147483648\n") 0 0 ∷
    glue (bytes "ret=int\nreturn=-0\n") 2 2 ∷
    glue (bytes "ret=int\nreturn=+1\n") 2 2 ∷
    glue (bytes "ret=int\nreturn=01\n") 2 2 ∷
    glue (bytes "ret=int\nreturn=v\n") 2 2 ∷
    glue (bytes "ret=int\nreturn=v-1\n") 2 2 ∷
    glue (bytes "ret=int\ngoto=2147483647\n") 4 2 ∷
    glue (bytes "ret=int\ntype=0:0,\nreturn=1\n") 2 2 ∷
    glue (bytes "ret=int\ntype=0:0||0\nreturn=1\n") 2 2 ∷
    glue (bytes "ret=int\nlabel=\nreturn=1\n") 0 0 ∷
    glue (bytes "ret=int\nlabel=any,0,any\nreturn=1\n") 2 2 ∷
    glue (bytes "ret=int\nparam=int\nlabel=\nreturn=1\n") 2 3 ∷
    glue (bytes "ret=int\nreturn=add 1  1\n") 2 2 ∷
    -- 10 and 11: names and entries
    glue (bytes "ret=value 1\ntype=0:1\ntype=inf:\nreturn=val 1 5\n") 0 0 ∷
    glue (bytes "ret=int\ntype=0:1\nreturn=1\n") 4 2 ∷
    glue (bytes "ret=int\nreturn=1\nreturn=v0\n") 4 3 ∷
    glue (bytes "ret=int\ntype=0:\nlocal=value 0 7\nreturn=v1\n") 4 4 ∷
    glue (bytes "ret=int\nparam=int\nlabel=any,any,3\nreturn=1\n") 5 3 ∷
    glue (fresh "return=1\nlabel=box,7,99\nreturn=1\n") 0 0 ∷
    -- 12 to 16: the order of the tests, addresses, locals, 12
    glue (fresh "ifimm=0 v0\nput=v0 0 val 0 1\nlabel=any,0,any\nreturn=1\n") 7 8 ∷
    glue (fresh "put=v0 1 val 0 1\nreturn=1\n") 0 0 ∷
    glue (fresh "put=v0 2 val 0 1\nreturn=1\n") 8 7 ∷
    glue (fresh "put=v0 1 v0\nreturn=1\n") 6 7 ∷
    glue (fresh "put=v0 1 5\nreturn=1\n") 6 7 ∷
    glue (fresh "goto=0\nlabel=any,0,any\nreturn=1\nlabel=box,7,0\nreturn=int fetch step v0 -6\n") 0 0 ∷
    glue (bytes "ret=int\ntype=2:\nlocal=value 0 2\nreturn=1\n") 9 3 ∷
    glue (bytes "ret=int\ntype=2:\nlocal=value 0 1\nlocal=int -5\nreturn=add v1 int v0\n") 0 0 ∷
    glue (bytes "ret=int\ntype=inf:\nreturn=1\nreturn=val 0 1\n") 12 4 ∷
    glue (fresh "label=box,0,any\nreturn=1\n") 11 7 ∷
    glue (fresh "iftag=0 v0 0\nlabel=any,0,any\nreturn=1\n") 7 7 ∷
    glue (bytes "ret=int\ntype=2:\nlocal=value 0 1\nifint=0 v0 2\nlabel=any,0,any\nreturn=1\n") 9 4 ∷
    glue (bytes "ret=int\nlocal=int 1\nset=v0 2\nlabel=any,0,1\nreturn=1\n") 11 4 ∷
    -- bench examples 12 and 13
    glue (bytes "ret=int\nreturn=1\nreturn=1\n") 12 3 ∷
    glue (bytes "ret=int\n") 13 1 ∷
    glue (bytes "ret=int\nreturn=1\nlabel=\n") 13 3 ∷
    -- bad input: bytes above 127, NUL, no line feed at all
    glue (128 ∷ 255 ∷ 0 ∷ 10 ∷ []) 2 1 ∷
    glue (bytes "ret=int\nreturn=" ++ (200 ∷ 10 ∷ [])) 2 2 ∷
    glue (bytes "ret=int\n" ++ (0 ∷ 10 ∷ [])) 2 2 ∷
    glue (bytes "ret=int") 2 1 ∷
    []

pub glue_texts : differing 0 cases ≡ []
unfolding runs differing
glue_texts = refl
