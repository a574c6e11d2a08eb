-- `call_lines::running` meets its contract. Assumes nothing.
use mathlib.Core.Path.{sym, ◌∙◌}
use Prim.Native.Nat.{◌-◌}
use native.Mathlib.Omega.{arith}
use lib.ListN.{take, drop}
use Rattle.print.proofs.Wrote.{puts_room}
use Rattle.text.specs.Lines.{lines_of}
use Rattle.text.proofs.Lines.{lines_at, lines_none, span_line, span_end}
use Rattle.replay.specs.Replay.{run_in}
use Rattle.trace_line.specs.TraceLine.{line_in}
use Rattle.trace_line.proofs.Room.{line_le}
use Rattle.call_lines.proofs.Going.{going_on, going_end, prints_running}
use Rattle.call_lines.proofs.running.Goals as goal

pub later_line_in_place-requires : goal.later_line_in_place-requires
later_line_in_place-requires c =
    let b = c.loop-first in
    let f = span_line c.args.text.now b.at (sym c.line_at.ensures ∙ c.in-Some.is) in
    omega (arith, f.0, b.invariant.1)

pub loop-first-preserved : goal.loop-first-preserved
unfolding line_in
loop-first-preserved c =
    let b = c.loop-first in
    let s = c.args.text.now in
    let end = c.in-Some.end in
    let f = span_line s b.at (sym c.line_at.ensures ∙ c.in-Some.is) in
    let g = rw f.1 at c.later_line_in_place.ensures in (
      rw c.counted-n.ensures (going_on (rw (lines_at s b.at end f.0 f.2) at b.invariant.0) g),
      puts_room g.text _ (omega (arith, f.0, f.2, b.invariant.1, line_le (run_in b.n b.k) (take (end - b.at) (drop b.at s)))),
    )

pub returns : goal.returns
returns c =
    let b = c.loop-first in
    let text = c.args.text.now in
    let none = lines_none text b.at (span_end text b.at (sym c.line_at.ensures ∙ c.in_default.is)) in
    rw c.k.view_is (prints_running c.args.run (lines_of (drop c.args.from text)) c.requires.0 (going_end (rw (none, c.new-k.ensures) at b.invariant.0)))
