-- The proof of the cycle of calls {put_last_digits}. The measure is how many digits are left.
use Rattle.decimal.proofs.writing.+put_last_digits.Given as goal

abbrev pub decreases-put_last_digits : goal.decreases-put_last_digits
decreases-put_last_digits l = l.k
