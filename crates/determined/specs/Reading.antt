-- The contracts of names, once, reader, tally, fits and store determine. Assumes nothing.
use Rattle.std.specs.Prelude.{◌≡◌, Result}
use Rattle.rules.specs.Prelude.{ℕ, List, [], refl, ap}
use Rattle.rules.specs.declared.Answer.{Answer}
use Rattle.rules.specs.Text.{TextOut}
use Rattle.rules.specs.Store.{StoreOut}
use Rattle.rules.specs.Text.Fill.{Filling}
use Rattle.once.specs.Once.{Onced, once as made}
use Rattle.reader.specs.Read.{Holds}
use Rattle.store.specs.Says.{Says}
use Rattle.determined.specs.Determined.{Determined, one, result, both, skip}
use Rattle.names.specs.contracts as names_clauses
use Rattle.names.proofs as names
use Rattle.once.specs.contracts as once_clauses
use Rattle.once.proofs as once
use Rattle.reader.specs.contracts as reader_clauses
use Rattle.reader.proofs as reader
use Rattle.tally.specs.contracts as tally_clauses
use Rattle.tally.proofs as tally
use Rattle.fits.specs.contracts as fits_clauses
use Rattle.fits.proofs as fits
use Rattle.store.specs.contracts as store_clauses
use Rattle.store.proofs as store

-- ---- names

pub names_named : Determined names_clauses.named.ended names.named.Reads.Learnt
names_named κs a x y s t = result

-- ---- once

-- what `once` was made of
abbrev filling_in : Onced → Filling
filling_in (made f N B) = f

abbrev nodes_in : Onced → List ℕ
nodes_in (made f N B) = N

abbrev body_in : Onced → List ℕ
body_in (made f N B) = B

pub once_line_once : Determined once_clauses.line_once.ended once.line_once.Reads.Learnt
once_line_once κs a x y s t h k =
    let e = one h k in
    (ap filling_in e, skip (skip (skip (skip (skip (both (ap nodes_in e) (both (ap body_in e) refl)))))))

-- ---- reader

pub reader_read : Determined reader_clauses.read.ended reader.read.Reads.Learnt
reader_read κs a x y s t h k = (one h.answer k.answer, skip (both (one h.tables k.tables) refl))

-- ---- tally

pub tally_cell_word : Determined tally_clauses.cell_word.ended tally.cell_word.Reads.Learnt
tally_cell_word κs a x y s t = result

pub tally_arg_word : Determined tally_clauses.arg_word.ended tally.arg_word.Reads.Learnt
tally_arg_word κs a x y s t = result

pub tally_block_words : Determined tally_clauses.block_words.ended tally.block_words.Reads.Learnt
tally_block_words κs a x y s t = result

pub tally_tallied : Determined tally_clauses.tallied.ended tally.tallied.Reads.Learnt
tally_tallied κs a x y s t = result

-- ---- fits

pub fits_fitted : Determined fits_clauses.fitted.ended fits.fitted.Reads.Learnt
fits_fitted κs a x y s t h k = result (h [] [] []) (k [] [] [])

-- ---- store

pub store_read : Determined store_clauses.read.ended store.read.Reads.Learnt
store_read κs a x y s t h k = (one (h [] [] []).answer (k [] [] []).answer, skip (skip (skip (skip (both (one (h [] [] []).tables (k [] [] []).tables) refl)))))
