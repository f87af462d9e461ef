-- `lay_digits` calls itself for all digits but the last. The measure is the number.
use Rattle.lines.proofs.+lay_digits.Given as goal

abbrev pub decreases-lay_digits : goal.decreases-lay_digits
decreases-lay_digits l = l.n
