-- `text::line_count` meets its contract. The loop's invariant: the lines of the text are those counted and those from `at` on.
-- Assumes nothing.
use Rattle.std.proofs.Common.{ap, sym, ◌≡◌, ◌+◌, ◌<◌, ◌≤◌, arith, length, drop}
use Rattle.text.specs.Lines.{line_feed, until}
use Rattle.text.proofs.Lines.{lines_at, lines_none, span_end, span_line}
use Rattle.text.proofs.line_count.Goals as goal

-- the places of a line that is found
found : (c : goal.In-Some) → let s = c.args.s.now in
    (c.loop-end.at < length s) × (c.in-Some.end ≡ c.loop-end.at + until line_feed (drop c.loop-end.at s)) × (c.in-Some.end ≤ length s)
found c = let f = span_line c.args.s.now c.loop-end.at (sym c.in-Some.ensures) in (f.0, f.2, f.3)

pub loop-end-preserved : goal.loop-end-preserved
loop-end-preserved c =
    let b = c.loop-end in
    let f = found c in
    let e = ap length (lines_at c.args.s.now b.at c.in-Some.end f.0 f.1) in
    (omega (arith, b.invariant.0, e), omega (arith, b.invariant.1, f.1))

pub returns : goal.returns
returns c =
    let b = c.loop-end in
    let s = c.args.s.now in
    omega (arith, b.invariant.0, ap length (lines_none s b.at (span_end s b.at (sym c.in_default.ensures))))

pub overflow_add-at : goal.overflow_add-at
overflow_add-at c = omega (arith, (found c).2)

pub overflow_add-n : goal.overflow_add-n
overflow_add-n c = omega (arith, c.loop-end.invariant.1, (found c).0)

pub loop-end-smaller : goal.loop-end-smaller
loop-end-smaller c = omega (arith, (found c).0, (found c).1)
