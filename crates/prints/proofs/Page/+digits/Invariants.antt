-- The measure: the digits that may still be written.
use Rattle.prints.proofs.Page.+digits.Given as goal

abbrev pub decreases-digits : goal.decreases-digits
decreases-digits l = l.most
