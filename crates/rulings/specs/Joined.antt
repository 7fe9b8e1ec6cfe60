-- Glue text and store text joined: the listing, bench example 14, store texts that are refused, and what the running program prints. Assumes nothing.
use Rattle.std.specs.Prelude.{◌∷◌, ◌++◌, ◌≡◌}
use Rattle.rules.specs.Prelude.{ℕ, List, [], refl}
use Rattle.rules.specs.Bytes.{bytes}
use Rattle.rules.specs.Run.{runs}
use Rattle.rulings.specs.Cases.{Case, refused, runs_to, times, differing}

abbrev P : List ℕ
P = bytes "ret=int\ntype=inf:\ntype=0:0|0,0\nparam=value 1\nifimm=0 v0\niftag=1 v0 1\nlabel=any,0,any\nreturn=-1\nlabel=box,0,1\nreturn=add int fetch v0 int fetch step v0 1\n"

-- a product of 16 fields, and a block line of 16 cells that is not ended
abbrev sixteen : List ℕ → List ℕ
sixteen rest =
    bytes "ret=int\ntype=inf:\ntype=0:" ++ times 15 (bytes "0,") (bytes "0\nparam=value 1\nreturn=int fetch step v0 15\nrun=2\nblock=1 0" ++ times 16 (bytes " i7") rest)

abbrev cases : List Case
cases =
    runs_to (P ++ bytes "run=10\nblock=1 1 i300 i20\narg=b0\n") "state=done\nsteps=4\nvalue=c320\n" ∷
    runs_to (P ++ bytes "run=3\nblock=1 1 i300 i20\narg=b0\n") "state=running\nsteps=3\nvalue=none\n" ∷
    runs_to (P ++ bytes "run=4\nblock=1 1 i300 i20\narg=b0\n") "state=done\nsteps=4\nvalue=c320\n" ∷
    runs_to (P ++ bytes "run=0\nblock=1 1 i300 i20\narg=b0\n") "state=running\nsteps=0\nvalue=none\n" ∷
    runs_to (P ++ bytes "run=10\nblock=1 0 i300\narg=b0\n") "state=done\nsteps=4\nvalue=c-1\n" ∷
    refused (bytes "ret=int\nrun=2000000\n") 13 1 ∷
    refused (P) 22 1 ∷
    refused (P ++ bytes "run=10\n") 22 2 ∷
    refused (P ++ bytes "run=10\nblock=1 0 i300\narg=b0\narg=b0\n") 22 4 ∷
    refused (P ++ bytes "run=10\nblock=1 0\narg=b0\n") 22 2 ∷
    refused (P ++ bytes "run=10\nblock=1 0 c1\narg=b0\n") 22 2 ∷
    refused (P ++ bytes "run=10\narg=b0\nblock=1 0 i1\n") 22 3 ∷
    refused (P ++ bytes "run=1000001\nblock=1 0 i300\narg=b0\n") 23 1 ∷
    refused (P ++ bytes "run=2147483648\n") 22 1 ∷
    refused (P ++ bytes "run=10\nblock=2 0 i300\narg=b0\n") 24 2 ∷
    refused (P ++ bytes "run=10\nblock=1 0 b1\narg=b0\n") 24 2 ∷
    refused (P ++ bytes "run=10\nblock=1 7 i300\narg=b1\n") 24 3 ∷
    refused (P ++ bytes "run=10\nblock=1 2 i300\narg=b0\n") 25 2 ∷
    refused (P ++ bytes "run=10\nblock=1 -1 i300\narg=b0\n") 25 2 ∷
    refused (P ++ bytes "run=10\nblock=1 0 b1\nblock=1 0 i1 i1 i1 i1 i1 i1 i1 i1 i1 i1 i1 i1 i1 i1 i1 i1 i1\narg=b0\n") 26 2 ∷
    refused (P ++ bytes "run=10\nblock=1 0 b0\narg=b0\n") 26 2 ∷
    refused (P ++ bytes "run=10\nblock=1 0 i300\narg=c1\n") 27 3 ∷
    refused (P ++ bytes "run=10\nblock=1 0 i300\narg=i1\n") 27 3 ∷
    -- a block that holds itself, a local between two parameters, `put` and a loop
    runs_to (bytes "ret=value 0\ntype=1:0\nparam=value 0\nreturn=v0\nrun=1\nblock=0 0 b0\narg=b0\n") "state=done\nsteps=1\nvalue=b0\n" ∷
    runs_to (bytes "ret=int\ntype=inf:\nparam=int\nlocal=value 0 7\nparam=int\nreturn=sub add v0 int v1 v2\nrun=1\narg=c10\narg=c20\n") "state=done\nsteps=1\nvalue=c-3\n" ∷
    runs_to (bytes "ret=int\ntype=inf:\ntype=0:0,0\nparam=value 1\nput=v0 1 val 0 5\nreturn=int fetch step v0 1\nrun=9\nblock=1 0 i1 i2\narg=b0\n") "state=done\nsteps=2\nvalue=c5\n" ∷
    runs_to (bytes "ret=int\nparam=int\nparam=int\nlabel=any,0,any any,0,any\nset=v1 mul v1 v0\nset=v0 sub v0 1\nif=0 v0\nreturn=v1\nrun=100\narg=c5\narg=c1\n") "state=done\nsteps=21\nvalue=c120\n" ∷
    -- a cell is judged by the row of the block that it names, also where that block has too many cells; 24 before 25, also past the last cell that is kept
    refused (P ++ bytes "run=10\nblock=1 0 i1\nblock=0 0 i1\narg=b0\n") 25 3 ∷
    refused (bytes "ret=int\ntype=0:0\nparam=value 0\nreturn=1\nrun=1\nblock=0 0 b1\nblock=0 0 b0 b0 b0 b0 b0 b0 b0 b0 b0 b0 b0 b0 b0 b0 b0 b0 b0 b0\narg=b0\n") 25 3 ∷
    refused (bytes "ret=int\ntype=0:0\nparam=value 0\nreturn=1\nrun=1\nblock=0 0 b0\nblock=0 0 b0 b0 b0 b0 b0 b0 b0 b0 b0 b0 b0 b0 b0 b0 b0 b0 b0 b0 b0 b9\narg=b0\n") 24 3 ∷
    -- 16 fields are filled by 16 cells, and not by 17
    runs_to (sixteen (bytes "\narg=b0\n")) "state=done\nsteps=1\nvalue=c7\n" ∷
    refused (sixteen (bytes " i7\narg=b0\n")) 25 2 ∷
    -- numbers at the ends of their range
    runs_to (bytes "ret=int\nparam=int\nreturn=sub v0 1\nrun=1\narg=c-2147483648\n") "state=done\nsteps=1\nvalue=c2147483647\n" ∷
    runs_to (bytes "ret=value 0\ntype=inf:\nreturn=val 0 -2147483648\nrun=1\n") "state=done\nsteps=1\nvalue=i-2147483648\n" ∷
    -- the first line that starts with `run=` begins the store; an empty input
    refused (bytes "run=1\nret=int\n") 2 1 ∷
    refused (bytes "") 2 1 ∷
    []

pub joined_texts : differing 0 cases ≡ []
unfolding runs differing
joined_texts = refl
