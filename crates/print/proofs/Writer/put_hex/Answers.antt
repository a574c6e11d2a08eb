-- `print::Writer::put_hex` meets its contract. Assumes nothing.
use native.Mathlib.Omega.{arith}
use lib.ListN.{length-take}
use Rattle.print.specs.Print.{hex_text}
use Rattle.print.proofs.Hex.{hex_more, length_hex}
use Rattle.print.proofs.Wrote.{puts_none, puts_room, puts_then}
use Rattle.print.proofs.Writer.put_hex.Goals as goal

pub loop-b-init : goal.loop-b-init
unfolding hex_text
loop-b-init c = puts_none _

pub put_pair-requires : goal.put_pair-requires
put_pair-requires c =
    let l = c.loop-b in
    puts_room l.invariant 2 (simp (length_hex, length-take) (omega arith))

pub loop-b-preserved : goal.loop-b-preserved
unfolding hex_text
loop-b-preserved c =
    let l = c.loop-b in
    rw (hex_more c.args.bytes.now l.b-index (omega arith), ← c.hex_digit.ensures, ← c.hex_digit-in-loop-b.ensures) (puts_then l.invariant c.put_pair.ensures)
