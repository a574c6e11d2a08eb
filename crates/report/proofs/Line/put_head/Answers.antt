-- `report::Line::put_head` meets its contract. Assumes nothing.
use native.Mathlib.Omega.{arith}
use Rattle.print.proofs.Numbers.{length_number}
use Rattle.print.proofs.Wrote.{puts_room, puts_then}
use Rattle.report.specs.Report.{head_text}
use Rattle.report.proofs.Line.put_head.Goals as goal

pub put_pair-requires : goal.put_pair-requires
put_pair-requires c = puts_room c.put_number.ensures 2 (omega (arith, length_number c.args.self.now.number))

pub put_pair-requires-2 : goal.put_pair-requires-2
put_pair-requires-2 c = puts_room c.put_pair.ensures 2 (puts_room c.put_number.ensures 4 (omega (arith, length_number c.args.self.now.number)))

pub put-requires : goal.put-requires
put-requires c = puts_room c.put_pair-2.ensures 1 (puts_room c.put_pair.ensures 3 (puts_room c.put_number.ensures 5 (omega (arith, length_number c.args.self.now.number))))

pub returns : goal.returns
unfolding head_text
returns c =
    puts_then (puts_then (puts_then c.put_number.ensures c.put_pair.ensures) c.put_pair-2.ensures) c.put.ensures
