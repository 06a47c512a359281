-- The measure of put_hex_digits is how many digits are left.
use Rattle.text.proofs.writing.Writer.+put_hex_digits.Given as goal

abbrev pub decreases-put_hex_digits : goal.decreases-put_hex_digits
decreases-put_hex_digits l = l.k
