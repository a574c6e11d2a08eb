-- `trace::whole_from` meets its contract. Assumes nothing.
use native.Mathlib.Omega.{arith}
use Rattle.print.proofs.Wrote.{puts_room}
use Rattle.trace_line.proofs.Steps.{prints_then}
use Rattle.trace.specs.Trace.{whole_from}
use Rattle.trace.proofs.Room.{lines_le}
use Rattle.trace.proofs.whole_from.Goals as goal

pub finish-requires : goal.finish-requires
finish-requires c =
    let a = c.args in
    puts_room c.lines-last.ensures.text _ (omega (arith, lines_le a.run a.text.now))

pub returns : goal.returns
unfolding whole_from
returns c = prints_then c.lines-last.ensures (rw c.lines-last.ensures.run at c.finish.ensures)
