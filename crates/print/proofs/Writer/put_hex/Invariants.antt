-- What the loop of `print::Writer::put_hex` keeps. Assumes nothing.
use lib.ListN.{take}
use Rattle.print.specs.Print.{Puts, hex_text}
use Rattle.print.proofs.Writer.put_hex.Given as goal

abbrev pub invariant-loop-b : goal.invariant-loop-b
invariant-loop-b l = Puts l.initial.self (hex_text (take l.b-index l.bytes)) l.self
