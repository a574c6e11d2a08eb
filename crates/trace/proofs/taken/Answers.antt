-- `trace::taken` meets its contract. Assumes nothing.
use mathlib.Core.Path.{◌≡◌}
use native.Mathlib.Omega.{arith}
use lib.ListN.{length, length-take}
use Rattle.blocks.specs.Blocks.{finished_lines}
use Rattle.call_lines.specs.CallLines.{lines_from}
use Rattle.trace.proofs.taken.Goals as goal

pub returns : goal.returns
returns c =
    let w = c.finished_len-end.ensures in
    let g = rw (c.part.ensures, w) at c.put_lines-s.ensures in
    let a = c.args in
    let n : c.put_lines-s.result.at ≡ length (lines_from a.run (finished_lines a.text.now)).text = omega (arith, g.text.next) in
    record { reply = rw (c.keeping.ensures, c.part-2.ensures, w, g.run, n); list = g.text.list }

pub put_lines-s-requires : goal.put_lines-s-requires
put_lines-s-requires c = rw (c.part.ensures, length-take) (omega arith)
