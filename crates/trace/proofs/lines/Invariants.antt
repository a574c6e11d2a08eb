-- What the loop of `trace::lines` keeps, and what falls in each turn. Assumes nothing.
use Prim.Native.Nat.{◌-◌, ◌+◌, ◌*◌}
use lib.ListN.{length, drop}
use Rattle.print.specs.Print.{HasRoom}
use Rattle.text.specs.Lines.{lines_of}
use Rattle.trace_line.specs.TraceLine.{room}
use Rattle.call_lines.proofs.Going.{Going}
use Rattle.trace.proofs.lines.Given as goal

abbrev pub invariant-loop-first : goal.invariant-loop-first
invariant-loop-first l =
    Going l.initial.now (lines_of l.text) l.initial.w l.w l.now (lines_of (drop l.at l.text))
    × HasRoom l.w (room * (length l.text - l.at))

abbrev pub decreases-loop-first : goal.decreases-loop-first
decreases-loop-first l = length l.text + 1 - l.at
