-- A body line with expressions, read once: what is written while its shape and its limits are tested, up to the first test that fails. Assumes nothing.
use Rattle.std.specs.Prelude.{◌+◌, ◌*◌, Some, None, Ok, Err}
use Rattle.rules.specs.declared.Key.{Key}
use Rattle.rules.specs.declared.Key.TheVariants as K
use Rattle.rules.specs.Prelude.{ℕ, zero, suc, Bool, true, false, List, ltb, eqb, set}
use Rattle.rules.specs.Text.Words.{Reading}
use Rattle.rules.specs.Text.Words.{Head}
use Rattle.rules.specs.Text.Fill.{Filling}
use Rattle.rules.specs.When.{when}
use Rattle.rules.specs.Limits.{limits}
use Rattle.rules.specs.Text.Words.{byte_at, plain_at, number_at, var_at, arity, head_at}
use Rattle.rules.specs.Text.Shape.{key_of}
use Rattle.rules.specs.Text.Fill.{Out, out, onward, put_line}

-- on from what was read and the byte b after it, or stopped at the wrong byte
unfoldable pub after_mark : {A : Type 0} → List ℕ → ℕ → (ℕ → A) → (ℕ → ℕ → A) → Reading → A
after_mark s b stop go (Err p) = stop p
after_mark s b stop go (Ok (x, n)) = when (eqb (byte_at s n) b) (λ _. go x (n + 1)) (λ _. stop n)

-- ---- expressions: as `Text.Fill.expression` writes them, and a space stands before each operand

unfoldable pub operands_once : List ℕ → (ℕ → ℕ → List ℕ → Out) → ℕ → ℕ → ℕ → List ℕ → Out
operands_once s one zero at free N = out (Some (at, free)) N
operands_once s one (suc n) at free N =
    when (eqb (byte_at s at) 32)
    (λ _. onward (one (at + 1) free N) (operands_once s one n))
    (λ _. out None N)

abbrev pub node_once : List ℕ → (ℕ → ℕ → List ℕ → Out) → Head → ℕ → List ℕ → Out
node_once s one (Err p) free N = out None N
node_once s one (Ok (op, a, n)) free N =
    when (ltb free limits.nodes)
    (λ _. operands_once s one (arity op) n (free + 1) (set N free (op * 4294967296 + a)))
    (λ _. out None N)

unfoldable pub expr_once : List ℕ → ℕ → ℕ → ℕ → List ℕ → Out
expr_once s zero at free N = out None N
expr_once s (suc depth) at free N = node_once s (expr_once s depth) (head_at s at) free N

-- ---- lines

-- where the line feed stands and the next free node, or no line; with the nodes and the body's table
pub data Onced : Type 0 where
  once : Filling → List ℕ → List ℕ → Onced

-- the last expression was read, and a line feed stands after it: body line i, whose first node is k
unfoldable pub last_once : List ℕ → ℕ → ℕ → ℕ → ℕ → ℕ → ℕ → List ℕ → Out → Onced
last_once s i k kind l v w B (out (Some (n, free)) N) =
    when (eqb (byte_at s n) 10)
    (λ _. once (Some (n, free)) N (put_line B i kind l v w k))
    (λ _. once None N B)
last_once s i k kind l v w B (out None N) = once None N B

unfoldable pub set_once : List ℕ → ℕ → ℕ → ℕ → List ℕ → List ℕ → Onced
set_once s i k at N B = after_mark s 32 (λ _. once None N B) (λ v n. last_once s i k 1 0 v 0 B (expr_once s limits.depth n k N)) (var_at s at)

unfoldable pub if_once : List ℕ → ℕ → ℕ → ℕ → List ℕ → List ℕ → Onced
if_once s i k at N B = after_mark s 32 (λ _. once None N B) (λ l n. last_once s i k 4 l 0 0 B (expr_once s limits.depth n k N)) (plain_at s at)

-- N and the second E of a `put`, at n
unfoldable pub rest_once : List ℕ → ℕ → ℕ → ℕ → ℕ → List ℕ → List ℕ → Onced
rest_once s i k n free N B = after_mark s 32 (λ _. once None N B) (λ w m. last_once s i k 2 0 0 w B (expr_once s limits.depth m free N)) (number_at s n)

unfoldable pub two_once : List ℕ → ℕ → ℕ → List ℕ → Out → Onced
two_once s i k B (out (Some (n, free)) N) = when (eqb (byte_at s n) 32) (λ _. rest_once s i k (n + 1) free N B) (λ _. once None N B)
two_once s i k B (out None N) = once None N B

unfoldable pub put_once : List ℕ → ℕ → ℕ → ℕ → List ℕ → List ℕ → Onced
put_once s i k at N B = two_once s i k B (expr_once s limits.depth at k N)

-- the lines that have one
unfoldable pub has_expr : Key → Bool
has_expr K.Absent = false
has_expr K.Ret = false
has_expr K.Type = false
has_expr K.Param = false
has_expr K.Local = false
has_expr K.Set = true
has_expr K.Put = true
has_expr K.Goto = false
has_expr K.If = true
has_expr K.IfImm = false
has_expr K.IfTag = false
has_expr K.IfInt = false
has_expr K.Return = true
has_expr K.Label = false

unfoldable pub key_once : List ℕ → Key → ℕ → ℕ → ℕ → List ℕ → List ℕ → Onced
key_once s K.Absent at i k N B = once None N B
key_once s K.Ret at i k N B = once None N B
key_once s K.Type at i k N B = once None N B
key_once s K.Param at i k N B = once None N B
key_once s K.Local at i k N B = once None N B
key_once s K.Set at i k N B = set_once s i k at N B
key_once s K.Put at i k N B = put_once s i k at N B
key_once s K.Goto at i k N B = once None N B
key_once s K.If at i k N B = if_once s i k at N B
key_once s K.IfImm at i k N B = once None N B
key_once s K.IfTag at i k N B = once None N B
key_once s K.IfInt at i k N B = once None N B
key_once s K.Return at i k N B = last_once s i k 8 0 0 0 B (expr_once s limits.depth at k N)
key_once s K.Label at i k N B = once None N B

-- body line i from the place after its key on, whose first node is the first that is free
unfoldable pub line_once : List ℕ → ℕ → ℕ → ℕ → ℕ → List ℕ → List ℕ → Onced
line_once s key at i free N B =
    when (ltb i limits.lines)
    (λ _. when (ltb free limits.nodes) (λ _. key_once s (key_of key) at i free N B) (λ _. once None N B))
    (λ _. once None N B)
