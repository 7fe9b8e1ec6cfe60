-- The contracts of text, shape and joined determine. Assumes nothing.
use Rattle.determined.specs.Determined.{Determined, result}
use Rattle.text.specs.contracts as text_clauses
use Rattle.text.proofs as text
use Rattle.shape.specs.contracts as shape_clauses
use Rattle.shape.proofs as shape
use Rattle.joined.specs.contracts as joined_clauses
use Rattle.joined.proofs as joined

-- ---- text

pub text_byte_at : Determined text_clauses.byte_at.ended text.byte_at.Reads.Learnt
text_byte_at κs a x y s t = result

pub text_value_of : Determined text_clauses.value_of.ended text.value_of.Reads.Learnt
text_value_of κs a x y s t = result

pub text_next_of : Determined text_clauses.next_of.ended text.next_of.Reads.Learnt
text_next_of κs a x y s t = result

pub text_plain_at : Determined text_clauses.plain_at.ended text.plain_at.Reads.Learnt
text_plain_at κs a x y s t = result

pub text_number_at : Determined text_clauses.number_at.ended text.number_at.Reads.Learnt
text_number_at κs a x y s t = result

pub text_or_word : Determined text_clauses.or_word.ended text.or_word.Reads.Learnt
text_or_word κs a x y s t = result

pub text_byte_is : Determined text_clauses.byte_is.ended text.byte_is.Reads.Learnt
text_byte_is κs a x y s t = result

pub text_var_at : Determined text_clauses.var_at.ended text.var_at.Reads.Learnt
text_var_at κs a x y s t = result

pub text_arity : Determined text_clauses.arity.ended text.arity.Reads.Learnt
text_arity κs a x y s t = result

pub text_head_at : Determined text_clauses.head_at.ended text.head_at.Reads.Learnt
text_head_at κs a x y s t = result

-- ---- shape

pub shape_kind_word : Determined shape_clauses.kind_word.ended shape.kind_word.Reads.Learnt
shape_kind_word κs a x y s t = result

pub shape_psi_at : Determined shape_clauses.psi_at.ended shape.psi_at.Reads.Learnt
shape_psi_at κs a x y s t = result

pub shape_boxed_at : Determined shape_clauses.boxed_at.ended shape.boxed_at.Reads.Learnt
shape_boxed_at κs a x y s t = result

pub shape_offset_at : Determined shape_clauses.offset_at.ended shape.offset_at.Reads.Learnt
shape_offset_at κs a x y s t = result

pub shape_tag_at : Determined shape_clauses.tag_at.ended shape.tag_at.Reads.Learnt
shape_tag_at κs a x y s t = result

pub shape_between : Determined shape_clauses.between.ended shape.between.Reads.Learnt
shape_between κs a x y s t = result

pub shape_key_at : Determined shape_clauses.key_at.ended shape.key_at.Reads.Learnt
shape_key_at κs a x y s t = result

pub shape_part_of : Determined shape_clauses.part_of.ended shape.part_of.Reads.Learnt
shape_part_of κs a x y s t = result

pub shape_in_order : Determined shape_clauses.in_order.ended shape.in_order.Reads.Learnt
shape_in_order κs a x y s t = result

pub shape_key_of : Determined shape_clauses.key_of.ended shape.key_of.Reads.Learnt
shape_key_of κs a x y s t = result

pub shape_line_shape : Determined shape_clauses.line_shape.ended shape.line_shape.Reads.Learnt
shape_line_shape κs a x y s t = result

-- ---- joined

pub joined_glue_bytes : Determined joined_clauses.glue_bytes.ended joined.glue_bytes.Reads.Learnt
joined_glue_bytes κs a x y s t = result
