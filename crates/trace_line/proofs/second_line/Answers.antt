-- `trace_line::second_line` meets its contract. Assumes nothing.
use native.Mathlib.Omega.{arith}
use Rattle.print.proofs.Wrote.{puts_room}
use Rattle.trace_line.specs.TraceLine.{second_line}
use Rattle.trace_line.proofs.Steps.{prints_then}
use Rattle.config_lines.proofs.Room.{begun_length}
use Rattle.trace_line.proofs.second_line.Goals as goal

pub returns : goal.returns
unfolding second_line
returns c =
    rw (← c.is_partial.ensures, c.if-is_partial.false) (prints_then c.begin-begun.ensures (rw c.begin-begun.ensures.run at c.follow.ensures))

pub follow-requires : goal.follow-requires
follow-requires c = let r = c.args.run in puts_room c.begin-begun.ensures.text _ (omega (arith, begun_length r.channel.own.config r.lines))
