-- The contracts of rules, number and entry determine. Assumes nothing.
use Rattle.determined.specs.Determined.{Determined, result}
use Rattle.rules.specs.contracts as rules_clauses
use Rattle.rules.proofs as rules
use Rattle.number.specs.contracts as number_clauses
use Rattle.number.proofs as number
use Rattle.entry.specs.contracts as entry_clauses
use Rattle.entry.proofs as entry

-- ---- rules

pub rules_Entry_loosest : Determined rules_clauses.Entry.loosest.ended rules.Entry.loosest.Reads.Learnt
rules_Entry_loosest κs a x y s t = result

pub rules_Limits_all : Determined rules_clauses.Limits.all.ended rules.Limits.all.Reads.Learnt
rules_Limits_all κs a x y s t = result

-- ---- number

pub number_sign_of : Determined number_clauses.sign_of.ended number.sign_of.Reads.Learnt
number_sign_of κs a x y s t = result

pub number_word : Determined number_clauses.word.ended number.word.Reads.Learnt
number_word κs a x y s t = result

pub number_number : Determined number_clauses.number.ended number.number.Reads.Learnt
number_number κs a x y s t = result

pub number_number_of : Determined number_clauses.number_of.ended number.number_of.Reads.Learnt
number_number_of κs a x y s t = result

pub number_same : Determined number_clauses.same.ended number.same.Reads.Learnt
number_same κs a x y s t = result

pub number_is_zero : Determined number_clauses.is_zero.ended number.is_zero.Reads.Learnt
number_is_zero κs a x y s t = result

pub number_arith : Determined number_clauses.arith.ended number.arith.Reads.Learnt
number_arith κs a x y s t = result

pub number_place_in : Determined number_clauses.place_in.ended number.place_in.Reads.Learnt
number_place_in κs a x y s t = result

pub number_index_in : Determined number_clauses.index_in.ended number.index_in.Reads.Learnt
number_index_in κs a x y s t = result

pub number_sum_in : Determined number_clauses.sum_in.ended number.sum_in.Reads.Learnt
number_sum_in κs a x y s t = result

pub number_suits : Determined number_clauses.suits.ended number.suits.Reads.Learnt
number_suits κs a x y s t = result

-- ---- entry

pub entry_covers_entry : Determined entry_clauses.covers_entry.ended entry.covers_entry.Reads.Learnt
entry_covers_entry κs a x y s t = result

pub entry_entry_at : Determined entry_clauses.entry_at.ended entry.entry_at.Reads.Learnt
entry_entry_at κs a x y s t = result

pub entry_with_entry : Determined entry_clauses.with_entry.ended entry.with_entry.Reads.Learnt
entry_with_entry κs a x y s t = result

pub entry_with_boxed : Determined entry_clauses.with_boxed.ended entry.with_boxed.Reads.Learnt
entry_with_boxed κs a x y s t = result

pub entry_with_tag : Determined entry_clauses.with_tag.ended entry.with_tag.Reads.Learnt
entry_with_tag κs a x y s t = result

pub entry_int_entry : Determined entry_clauses.int_entry.ended entry.int_entry.Reads.Learnt
entry_int_entry κs a x y s t = result

pub entry_imm_entry : Determined entry_clauses.imm_entry.ended entry.imm_entry.Reads.Learnt
entry_imm_entry κs a x y s t = result

pub entry_zero_offset : Determined entry_clauses.zero_offset.ended entry.zero_offset.Reads.Learnt
entry_zero_offset κs a x y s t = result

pub entry_entry_of : Determined entry_clauses.entry_of.ended entry.entry_of.Reads.Learnt
entry_entry_of κs a x y s t = result

pub entry_codes_of : Determined entry_clauses.codes_of.ended entry.codes_of.Reads.Learnt
entry_codes_of κs a x y s t = result

pub entry_datum_of : Determined entry_clauses.datum_of.ended entry.datum_of.Reads.Learnt
entry_datum_of κs a x y s t = result

pub entry_code_of : Determined entry_clauses.code_of.ended entry.code_of.Reads.Learnt
entry_code_of κs a x y s t = result
