-- The limits of a glue text and of a store text, in one place: each definition cites them by name. Assumes nothing.
use Rattle.rules.specs.Prelude.{Limits}

-- at most 32,768 bytes, 64 rows, 16 products a row, 16 fields a product, 1,024 fields, 32 variables, 64 labels, 512 body lines, 4,096 nodes, depth 16;
-- of a store 16,384 bytes, 256 blocks, 2,048 cells, a budget of 1,000,000
abbrev pub limits : Limits
limits =
    record {
      bytes = 32768;
      rows = 64;
      products = 16;
      width = 16;
      fields = 1024;
      variables = 32;
      labels = 64;
      lines = 512;
      nodes = 4096;
      depth = 16;
      store = 16384;
      blocks = 256;
      cells = 2048;
      budget = 1000000;
    }
