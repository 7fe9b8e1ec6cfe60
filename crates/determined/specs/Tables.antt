-- The contracts of table, program and storage determine. Assumes nothing.
use denote.Param.Laws.{Laws, IsCopy}
use denote.RattleType.{RattleType}
use mir.Syntax.{Dict}
use Rattle.std.specs.declared.clone.Clone.{Ghosts}
use Rattle.rules.specs.Prelude.{ℕ, List, [], refl, ap}
use Rattle.determined.specs.Determined.{Determined, one, result, lent}
use Rattle.table.specs.contracts as table_clauses
use Rattle.table.proofs as table
use Rattle.program.specs.contracts as program_clauses
use Rattle.program.proofs as program
use Rattle.storage.specs.contracts as storage_clauses
use Rattle.storage.proofs as storage

-- ---- table

pub table_at : (T : RattleType) (l : Laws T) (p : IsCopy T) (g : Ghosts T.Denot) (d : Dict) → Determined (table_clauses.at.ended T g d) (table.at.Reads.Learnt T l p g d)
table_at T l p g d κs a x y s t = result

pub table_put : (T : RattleType) (l : Laws T) (p : IsCopy T) (g : Ghosts T.Denot) (d : Dict) → Determined (table_clauses.put.ended T g d) (table.put.Reads.Learnt T l p g d)
table_put T l p g d κs a x y s t = lent

pub table_cell : (T : RattleType) (l : Laws T) (p : IsCopy T) (g : Ghosts T.Denot) (d : Dict) → Determined (table_clauses.cell.ended T g d) (table.cell.Reads.Learnt T l p g d)
table_cell T l p g d κs a x y s t = result

pub table_put_cell : (T : RattleType) (l : Laws T) (p : IsCopy T) (g : Ghosts T.Denot) (d : Dict) → Determined (table_clauses.put_cell.ended T g d) (table.put_cell.Reads.Learnt T l p g d)
table_put_cell T l p g d κs a x y s t = lent

pub table_up_to : Determined table_clauses.up_to.ended table.up_to.Reads.Learnt
table_up_to κs a x y s t = result

-- ---- program

pub program_form_of : Determined program_clauses.form_of.ended program.form_of.Reads.Learnt
program_form_of κs a x y s t = result

pub program_way_of : Determined program_clauses.way_of.ended program.way_of.Reads.Learnt
program_way_of κs a x y s t = result

pub program_row_count : Determined program_clauses.row_count.ended program.row_count.Reads.Learnt
program_row_count κs a x y s t h k = result (h []) (k [])

pub program_var_count : Determined program_clauses.var_count.ended program.var_count.Reads.Learnt
program_var_count κs a x y s t h k = result (h []) (k [])

pub program_label_count : Determined program_clauses.label_count.ended program.label_count.Reads.Learnt
program_label_count κs a x y s t h k = result (h []) (k [])

pub program_line_count : Determined program_clauses.line_count.ended program.line_count.Reads.Learnt
program_line_count κs a x y s t h k = result (h [] []) (k [] [])

pub program_row_there : Determined program_clauses.row_there.ended program.row_there.Reads.Learnt
program_row_there κs a x y s t h k = result (h []) (k [])

pub program_var_there : Determined program_clauses.var_there.ended program.var_there.Reads.Learnt
program_var_there κs a x y s t h k = result (h []) (k [])

pub program_psi_of : Determined program_clauses.psi_of.ended program.psi_of.Reads.Learnt
program_psi_of κs a x y s t = result

pub program_prods_of : Determined program_clauses.prods_of.ended program.prods_of.Reads.Learnt
program_prods_of κs a x y s t = result

pub program_fields_of : Determined program_clauses.fields_of.ended program.fields_of.Reads.Learnt
program_fields_of κs a x y s t = result

pub program_field_of : Determined program_clauses.field_of.ended program.field_of.Reads.Learnt
program_field_of κs a x y s t = result

pub program_kind_of : Determined program_clauses.kind_of.ended program.kind_of.Reads.Learnt
program_kind_of κs a x y s t = result

pub program_is_local : Determined program_clauses.is_local.ended program.is_local.Reads.Learnt
program_is_local κs a x y s t = result

pub program_local_number : Determined program_clauses.local_number.ended program.local_number.Reads.Learnt
program_local_number κs a x y s t = result

pub program_ret_kind : Determined program_clauses.ret_kind.ended program.ret_kind.Reads.Learnt
program_ret_kind κs a x y s t = result

pub program_label_line : Determined program_clauses.label_line.ended program.label_line.Reads.Learnt
program_label_line κs a x y s t = result

pub program_label_entry : Determined program_clauses.label_entry.ended program.label_entry.Reads.Learnt
program_label_entry κs a x y s t = result

pub program_label_covers : Determined program_clauses.label_covers.ended program.label_covers.Reads.Learnt
program_label_covers κs a x y s t h k = result (h 0) (k 0)

pub program_label_codes : Determined program_clauses.label_codes.ended program.label_codes.Reads.Learnt
program_label_codes κs a x y s t = result

pub program_operation : Determined program_clauses.operation.ended program.operation.Reads.Learnt
program_operation κs a x y s t = result

pub program_argument : Determined program_clauses.argument.ended program.argument.Reads.Learnt
program_argument κs a x y s t = result

pub program_operands : Determined program_clauses.operands.ended program.operands.Reads.Learnt
program_operands κs a x y s t = result

pub program_is_within : Determined program_clauses.is_within.ended program.is_within.Reads.Learnt
program_is_within κs a x y s t = result

pub program_is_leaf : Determined program_clauses.is_leaf.ended program.is_leaf.Reads.Learnt
program_is_leaf κs a x y s t = result

pub program_line_at : Determined program_clauses.line_at.ended program.line_at.Reads.Learnt
program_line_at κs a x y s t = result

pub program_label_there : Determined program_clauses.label_there.ended program.label_there.Reads.Learnt
program_label_there κs a x y s t h k = result (h [] [] []) (k [] [] [])

pub program_put_node : Determined program_clauses.put_node.ended program.put_node.Reads.Learnt
program_put_node κs a x y s t = lent

pub program_put_psi : Determined program_clauses.put_psi.ended program.put_psi.Reads.Learnt
program_put_psi κs a x y s t = lent

pub program_put_field : Determined program_clauses.put_field.ended program.put_field.Reads.Learnt
program_put_field κs a x y s t = lent

pub program_put_var : Determined program_clauses.put_var.ended program.put_var.Reads.Learnt
program_put_var κs a x y s t = lent

pub program_put_label_line : Determined program_clauses.put_label_line.ended program.put_label_line.Reads.Learnt
program_put_label_line κs a x y s t = lent

pub program_put_entry : Determined program_clauses.put_entry.ended program.put_entry.Reads.Learnt
program_put_entry κs a x y s t = lent

pub program_put_line : Determined program_clauses.put_line.ended program.put_line.Reads.Learnt
program_put_line κs a x y s t = lent

pub program_put_sizes : Determined program_clauses.put_sizes.ended program.put_sizes.Reads.Learnt
program_put_sizes κs a x y s t = lent

pub program_clear : Determined program_clauses.clear.ended program.clear.Reads.Learnt
program_clear κs a x y s t = lent

-- ---- storage

pub storage_budget : Determined storage_clauses.budget.ended storage.budget.Reads.Learnt
storage_budget κs a x y s t = result

pub storage_block_count : Determined storage_clauses.block_count.ended storage.block_count.Reads.Learnt
storage_block_count κs a x y s t h k = result (h [] []) (k [] [])

pub storage_block_row : Determined storage_clauses.block_row.ended storage.block_row.Reads.Learnt
storage_block_row κs a x y s t h k = result (h []) (k [])

pub storage_block_tag : Determined storage_clauses.block_tag.ended storage.block_tag.Reads.Learnt
storage_block_tag κs a x y s t h k = result (h []) (k [])

pub storage_cell_count : Determined storage_clauses.cell_count.ended storage.cell_count.Reads.Learnt
storage_cell_count κs a x y s t h k = result (h []) (k [])

pub storage_is_inside : Determined storage_clauses.is_inside.ended storage.is_inside.Reads.Learnt
storage_is_inside κs a x y s t h k = result (h []) (k [])

pub storage_cell_at : Determined storage_clauses.cell_at.ended storage.cell_at.Reads.Learnt
storage_cell_at κs a x y s t = result

pub storage_val_at : Determined storage_clauses.val_at.ended storage.val_at.Reads.Learnt
storage_val_at κs a x y s t = result

pub storage_put_head : Determined storage_clauses.put_head.ended storage.put_head.Reads.Learnt
storage_put_head κs a x y s t = lent

pub storage_put_cell : Determined storage_clauses.put_cell.ended storage.put_cell.Reads.Learnt
storage_put_cell κs a x y s t = lent

pub storage_put_val : Determined storage_clauses.put_val.ended storage.put_val.Reads.Learnt
storage_put_val κs a x y s t = lent

pub storage_put_sizes : Determined storage_clauses.put_sizes.ended storage.put_sizes.Reads.Learnt
storage_put_sizes κs a x y s t = lent

pub storage_clear_size : Determined storage_clauses.clear_size.ended storage.clear_size.Reads.Learnt
storage_clear_size κs a x y s t = lent

pub storage_clear_heads : Determined storage_clauses.clear_heads.ended storage.clear_heads.Reads.Learnt
storage_clear_heads κs a x y s t = lent

pub storage_clear_cells : Determined storage_clauses.clear_cells.ended storage.clear_cells.Reads.Learnt
storage_clear_cells κs a x y s t = lent

pub storage_clear_vals : Determined storage_clauses.clear_vals.ended storage.clear_vals.Reads.Learnt
storage_clear_vals κs a x y s t = lent

pub storage_clear : Determined storage_clauses.clear.ended storage.clear.Reads.Learnt
storage_clear κs a x y s t = lent
