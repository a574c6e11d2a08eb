-- `trace::lines` meets its contract: the lines before the calls one by one, then the calls. Assumes nothing.
use mathlib.Core.Path.{sym, ◌∙◌}
use Prim.Native.Nat.{◌-◌}
use native.Mathlib.Omega.{arith}
use lib.ListN.{take, drop}
use Rattle.print.proofs.Wrote.{puts_room}
use Rattle.text.proofs.Lines.{lines_at, lines_none, span_line, span_end}
use Rattle.trace_line.proofs.Room.{line_le}
use Rattle.trace_line.proofs.Steps.{running_true}
use Rattle.call_lines.proofs.Going.{going_start, going_on, going_end}
use Rattle.trace.proofs.lines.Goals as goal

pub running-requires : goal.running-requires
running-requires c =
    let b = c.loop-first in
    (running_true _ (sym c.is_running.ensures ∙ c.if-is_running.true), b.invariant.1)

pub returns-then-is_running : goal.returns-then-is_running
returns-then-is_running c = c.loop-first.invariant.0.rest _ _ c.running.ensures

pub loop-first-init : goal.loop-first-init
loop-first-init c = (going_start _ _ _, omega arith)

pub overflow_add-at : goal.overflow_add-at
overflow_add-at c =
    let f = span_line c.args.text.now c.loop-first.at (sym c.line_at.ensures ∙ c.in-Some.is) in omega (arith, c.well_formed.1.0, f.3)

pub loop-first-smaller : goal.loop-first-smaller
loop-first-smaller c =
    let f = span_line c.args.text.now c.loop-first.at (sym c.line_at.ensures ∙ c.in-Some.is) in omega (arith, f.0, f.1, f.2, f.3)

pub line-now-requires : goal.line-now-requires
line-now-requires c =
    let b = c.loop-first in
    let f = span_line c.args.text.now c.loop-first.at (sym c.line_at.ensures ∙ c.in-Some.is) in
    omega (arith, f.0, f.1, f.2, f.3, b.invariant.1)

pub loop-first-preserved : goal.loop-first-preserved
loop-first-preserved c =
    let b = c.loop-first in
    let s = c.args.text.now in
    let end = c.in-Some.end in
    let f = span_line s b.at (sym c.line_at.ensures ∙ c.in-Some.is) in
    let g = rw f.1 at c.line-now.ensures in (
      going_on (rw (lines_at s b.at end f.0 f.2) at b.invariant.0) g,
      puts_room g.text _ (omega (arith, f.0, f.2, b.invariant.1, line_le b.now (take (end - b.at) (drop b.at s)))),
    )

pub returns : goal.returns
returns c =
    let b = c.loop-first in
    let s = c.args.text.now in
    going_end (rw (lines_none s b.at (span_end s b.at (sym c.line_at.ensures ∙ c.in_default.is))) at b.invariant.0)
