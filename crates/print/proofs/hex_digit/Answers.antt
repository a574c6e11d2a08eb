-- `print::hex_digit` meets its contract. Assumes nothing.
use Rattle.print.proofs.Hex.{digit_decimal, digit_letter}
use Rattle.print.proofs.hex_digit.Goals as goal

pub returns-then-d-lt10 : goal.returns-then-d-lt10
returns-then-d-lt10 c = digit_decimal _ c.if-d-lt10.true

pub returns-else-d-lt10 : goal.returns-else-d-lt10
returns-else-d-lt10 c = digit_letter _ c.if-d-lt10.false
