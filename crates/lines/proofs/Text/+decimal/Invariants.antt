-- `Text::decimal` meets its contract: a number below ten is its digit, and any other the digits of a tenth of it, which the call of itself appends, and its
-- last digit. The measure is the number.
use Rattle.lines.proofs.Text.+decimal.Given as goal

abbrev pub decreases-decimal : goal.decreases-decimal
decreases-decimal l = l.x
