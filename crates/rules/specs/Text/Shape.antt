-- The glue text: the shape of each line, however much it holds: the byte after it, or the first wrong byte. Nothing is kept. Assumes nothing.
use Rattle.std.specs.Prelude.{◌+◌, ◌-◌, ◌&&◌, ◌||◌, ◌∷◌}
use Rattle.rules.specs.declared.Key.{Key}
use Rattle.rules.specs.declared.Key.TheVariants as K
use Rattle.rules.specs.Text.Words.{Reading}
use Rattle.rules.specs.Text.Words.{Next}
use Rattle.rules.specs.Text.Words.{Head}
use Rattle.rules.specs.Prelude.{ℕ, zero, suc, max, Bool, List, [], ltb, leb, eqb, length, get_or, Ok, Err}
use Rattle.rules.specs.When.{One, when}
use Rattle.rules.specs.Bytes.{bytes}
use Rattle.rules.specs.Text.Words.{words, byte_at, plain_at, number_at, or_word, byte_is, var_at, arity, head_at}

-- ---- one after the other

-- on from what was read
abbrev pub after : Reading → (ℕ → Next) → Next
after (Ok (v, n)) go = go n
after (Err p) go = Err p

abbrev pub over : Next → (ℕ → Next) → Next
over (Ok n) go = go n
over (Err p) go = Err p

abbrev pub end : Reading → Next
end (Ok (v, n)) = Ok n
end (Err p) = Err p

-- on after one space
abbrev pub space : List ℕ → (ℕ → Next) → ℕ → Next
space s go n = over (byte_is s n 32) go

-- ---- expressions

-- how many expressions are still to come after a word
abbrev pub needed : ℕ → ℕ → ℕ
needed need op = (need + arity op) - 1

abbrev pub expr_on : List ℕ → (ℕ → ℕ → Next) → ℕ → Head → Next
expr_on s rest need (Err p) = Err p
expr_on s rest need (Ok (op, a, n)) =
    when (eqb (needed need op) 0)
    (λ _. Ok n)
    (λ _. space s (rest (needed need op)) n)

-- `need` expressions from `at` on, in at most `left` words (a word has a byte or more)
unfoldable pub exprs_shape : List ℕ → ℕ → ℕ → ℕ → Next
exprs_shape s zero need at = Err at
exprs_shape s (suc left) need at = expr_on s (exprs_shape s left) need (head_at s at)

-- E
unfoldable pub expr_shape : List ℕ → ℕ → Next
expr_shape s at = exprs_shape s (length s) 1 at

-- ---- the forms of the lines, after their key

-- `int` or `value R`: 0 is `int`, 1 is `value `
unfoldable pub kind_word : List ℕ → ℕ → Reading
kind_word s at = or_word s at (bytes "value ") 1 (or_word s at (bytes "int") 0 (Err at))

abbrev pub kind_on : List ℕ → Reading → Next
kind_on s (Err p) = Err p
kind_on s (Ok (k, n)) = when (eqb k 0) (λ _. Ok n) (λ _. end (plain_at s n))

-- ret=, param=
unfoldable pub kind_shape : List ℕ → ℕ → Next
kind_shape s at = kind_on s (kind_word s at)

-- local=int N, local=value R N
unfoldable pub local_shape : List ℕ → ℕ → Next
local_shape s at = over (kind_shape s at) (space s (λ n. end (number_at s n)))

-- a word, or else a number, which stands raised by `more` in a table
abbrev pub or_raised : ℕ → Reading → Reading → Reading
or_raised more (Ok (k, n)) r = Ok (k, n)
or_raised more (Err p) (Ok (v, n)) = Ok (v + more, n)
or_raised more (Err p) (Err q) = Err (max p q)

-- PSI: `inf`, or a number; `inf` is 1 in a table, n is n + 2
unfoldable pub inf_word : List ℕ → ℕ → Reading
inf_word s at = or_word s at (bytes "inf") 1 (Err at)

unfoldable pub psi_at : List ℕ → ℕ → Reading
psi_at s at = or_raised 2 (inf_word s at) (plain_at s at)

-- field rows, with a comma or a bar between two
abbrev pub fields_on : List ℕ → (ℕ → Next) → Reading → Next
fields_on s rest (Err p) = Err p
fields_on s rest (Ok (r, n)) = when (eqb (byte_at s n) 44 || eqb (byte_at s n) 124) (λ _. rest (n + 1)) (λ _. Ok n)

unfoldable pub fields_shape : List ℕ → ℕ → ℕ → Next
fields_shape s zero at = Err at
fields_shape s (suc left) at = fields_on s (fields_shape s left) (plain_at s at)

-- none after the colon means no products
unfoldable pub products_shape : List ℕ → ℕ → Next
products_shape s at = when (eqb (byte_at s at) 10) (λ _. Ok at) (λ _. fields_shape s (length s) at)

-- type=PSI:PRODUCTS
unfoldable pub type_shape : List ℕ → ℕ → Next
type_shape s at = after (psi_at s at) (λ n. over (byte_is s n 58) (products_shape s))

-- B: 0 is `any`, 1 `box`, 2 `imm`
unfoldable pub boxed_at : List ℕ → ℕ → Reading
boxed_at s at = or_word s at (bytes "imm") 2 (or_word s at (bytes "box") 1 (or_word s at (bytes "any") 0 (Err at)))

-- I and T: 0 is `any`, the word w is w + 1
unfoldable pub any_word : List ℕ → ℕ → Reading
any_word s at = or_word s at (bytes "any") 0 (Err at)

unfoldable pub offset_at : List ℕ → ℕ → Reading
offset_at s at = or_raised 1 (any_word s at) (plain_at s at)

unfoldable pub tag_at : List ℕ → ℕ → Reading
tag_at s at = or_raised 1 (any_word s at) (number_at s at)

-- B,I,T
unfoldable pub entry_shape : List ℕ → ℕ → Next
entry_shape s at =
    after (boxed_at s at) (λ n. over (byte_is s n 44) (λ n. after (offset_at s n) (λ n. over (byte_is s n 44) (λ n. end (tag_at s n)))))

abbrev pub more_entries : List ℕ → (ℕ → Next) → ℕ → ℕ → Next
more_entries s rest zero n = Ok n
more_entries s rest (suc more) n = space s rest n

-- label=: one entry for each variable
unfoldable pub label_shape : List ℕ → ℕ → ℕ → Next
label_shape s zero at = Ok at
label_shape s (suc more) at = over (entry_shape s at) (more_entries s (label_shape s more) more)

-- ---- a line by its key

-- keys have numbers from 1 in this order; those of body lines less 4 are the kinds in the table
unfoldable pub key_at : List ℕ → ℕ → Reading
key_at s at =
    or_word s at (bytes "label=") 13
    (or_word s at (bytes "return=") 12
    (or_word s at (bytes "ifint=") 11
    (or_word s at (bytes "iftag=") 10
    (or_word s at (bytes "ifimm=") 9
    (or_word s at (bytes "if=") 8
    (or_word s at (bytes "goto=") 7
    (or_word s at (bytes "put=") 6
    (or_word s at (bytes "set=") 5
    (or_word s at (bytes "local=") 4
    (or_word s at (bytes "param=") 3
    (or_word s at (bytes "type=") 2
    (or_word s at (bytes "ret=") 1 (Err at)))))))))))))

unfoldable pub key_of : ℕ → Key
key_of k =
    get_or (K.Absent ∷ K.Ret ∷ K.Type ∷ K.Param ∷ K.Local ∷ K.Set ∷ K.Put ∷ K.Goto ∷ K.If ∷ K.IfImm ∷ K.IfTag ∷ K.IfInt ∷ K.Return ∷ K.Label ∷ []) k K.Absent

-- one `ret=`; any `type=`; any `param=` and `local=`; then body lines. Part 0: nothing read yet; 1, 2, 3: what came last
unfoldable pub part_of : ℕ → ℕ
part_of k = when (ltb k 3) (λ _. 1) (λ _. when (ltb k 5) (λ _. 2) (λ _. 3))

unfoldable pub in_order : ℕ → ℕ → Bool
in_order part k = when (eqb k 1) (λ _. eqb part 0) (λ _. ltb 0 part && leb part (part_of k))

-- what stands after the key, where there are `vars` variables
unfoldable pub line_shape : List ℕ → ℕ → Key → ℕ → Next
line_shape s vars K.Absent at = Err at
line_shape s vars K.Ret at = kind_shape s at
line_shape s vars K.Type at = type_shape s at
line_shape s vars K.Param at = kind_shape s at
line_shape s vars K.Local at = local_shape s at
line_shape s vars K.Set at = after (var_at s at) (space s (expr_shape s))
line_shape s vars K.Put at = over (expr_shape s at) (space s (λ n. after (number_at s n) (space s (expr_shape s))))
line_shape s vars K.Goto at = end (plain_at s at)
line_shape s vars K.If at = after (plain_at s at) (space s (expr_shape s))
line_shape s vars K.IfImm at = after (plain_at s at) (space s (λ n. end (var_at s n)))
line_shape s vars K.IfTag at = after (plain_at s at) (space s (λ n. after (var_at s n) (space s (λ n. end (number_at s n)))))
line_shape s vars K.IfInt at = after (plain_at s at) (space s (λ n. after (var_at s n) (space s (λ n. end (number_at s n)))))
line_shape s vars K.Return at = expr_shape s at
line_shape s vars K.Label at = label_shape s vars at

-- to compute with what stands here
unfoldable pub shapes : One
unfolding words exprs_shape expr_shape kind_word kind_shape local_shape inf_word psi_at fields_shape products_shape type_shape boxed_at any_word offset_at tag_at entry_shape label_shape key_at key_of part_of in_order line_shape
shapes = tt
