-- `print::width` meets its contract. Assumes nothing.
use mathlib.Core.Path.{sym, ap}
use native.Mathlib.Omega.{arith}
use lib.ListN.{length}
use Rattle.print.proofs.Numbers.{number_short, width_of}
use Rattle.print.proofs.width.Goals as goal

pub returns-in-Some : goal.returns-in-Some
returns-in-Some c = let e = c.in-Some.ensures in sym (width_of c.in-Some.k c.args.n (omega arith) e.power_le e.next_power_gt)

pub returns-in-None : goal.returns-in-None
returns-in-None c = sym (ap length (number_short c.args.n (omega (arith, c.in-None.ensures.none))))
