-- The tables of a program, and where each number stands in them. 0 means nothing; what is unused is 0. Assumes nothing.
use Rattle.rules.specs.declared.Tables.{Tables}
use Rattle.std.specs.Prelude.{◌+◌, ◌*◌, ◌∷◌}
use Rattle.rules.specs.Prelude.{ℕ, List, [], get_or, replicate, Count}
use Rattle.rules.specs.When.{One}
use Rattle.rules.specs.Limits.{limits}

-- size: kind code of `ret`, rows, variables, labels, body lines, nodes
-- nodes: 4,096 times operation * 2^32 + argument, each node before its operands
-- rows: 64 times 274: PSI's code, products, 16 field counts, 16 times 16 field rows
-- vars: 32 times 3: kind code, 1 param or 2 local, the local's word
-- labels: 64 times 97: body line + 1, then B, I, T for each variable
-- body: 512 times 5: kind, label, variable, word, first node
abbrev pub row_width : ℕ
row_width = 274

abbrev pub var_width : ℕ
var_width = 3

abbrev pub label_width : ℕ
label_width = 97

abbrev pub line_width : ℕ
line_width = 5

unfoldable pub zeros : Tables
zeros =
    record {
      size = replicate 6 0;
      nodes = replicate limits.nodes 0;
      rows = replicate (limits.rows * row_width) 0;
      vars = replicate (limits.variables * var_width) 0;
      labels = replicate (limits.labels * label_width) 0;
      body = replicate (limits.lines * line_width) 0;
    }

-- number i of a table that has so many places for each of its things
abbrev pub cell : List ℕ → ℕ → ℕ → ℕ → ℕ
cell t width thing i = get_or t (thing * width + i) 0

abbrev pub with_nodes : Tables → List ℕ → Tables
with_nodes t N = record { size = t.size; nodes = N; rows = t.rows; vars = t.vars; labels = t.labels; body = t.body }

abbrev pub with_rows : Tables → List ℕ → Tables
with_rows t R = record { size = t.size; nodes = t.nodes; rows = R; vars = t.vars; labels = t.labels; body = t.body }

abbrev pub with_vars : Tables → List ℕ → Tables
with_vars t D = record { size = t.size; nodes = t.nodes; rows = t.rows; vars = D; labels = t.labels; body = t.body }

abbrev pub with_labels : Tables → List ℕ → Tables
with_labels t L = record { size = t.size; nodes = t.nodes; rows = t.rows; vars = t.vars; labels = L; body = t.body }

abbrev pub with_body : Tables → List ℕ → Tables
with_body t B = record { size = t.size; nodes = t.nodes; rows = t.rows; vars = t.vars; labels = t.labels; body = B }

-- the sizes are written last
abbrev pub sized : Tables → Count → Tables
sized t c =
    record {
      size = c.ret ∷ c.rows ∷ c.vars ∷ c.labels ∷ c.lines ∷ c.nodes ∷ [];
      nodes = t.nodes;
      rows = t.rows;
      vars = t.vars;
      labels = t.labels;
      body = t.body;
    }

-- ---- how much was read so far

abbrev pub nothing : Count
nothing = record { part = 0; ret = 0; rows = 0; fields = 0; vars = 0; labels = 0; lines = 0; nodes = 0 }

abbrev pub in_part : Count → ℕ → Count
in_part c p = record { part = p; ret = c.ret; rows = c.rows; fields = c.fields; vars = c.vars; labels = c.labels; lines = c.lines; nodes = c.nodes }

abbrev pub with_ret : Count → ℕ → Count
with_ret c k = record { part = c.part; ret = k; rows = c.rows; fields = c.fields; vars = c.vars; labels = c.labels; lines = c.lines; nodes = c.nodes }

abbrev pub one_row : Count → ℕ → Count
one_row c total = record { part = c.part; ret = c.ret; rows = c.rows + 1; fields = total; vars = c.vars; labels = c.labels; lines = c.lines; nodes = c.nodes }

abbrev pub one_var : Count → Count
one_var c = record { part = c.part; ret = c.ret; rows = c.rows; fields = c.fields; vars = c.vars + 1; labels = c.labels; lines = c.lines; nodes = c.nodes }

abbrev pub one_label : Count → Count
one_label c = record { part = c.part; ret = c.ret; rows = c.rows; fields = c.fields; vars = c.vars; labels = c.labels + 1; lines = c.lines; nodes = c.nodes }

abbrev pub one_line : Count → ℕ → Count
one_line c free = record { part = c.part; ret = c.ret; rows = c.rows; fields = c.fields; vars = c.vars; labels = c.labels; lines = c.lines + 1; nodes = free }

-- to compute with what stands here
unfoldable pub tables : One
unfolding zeros
tables = tt
