-- What the loop of `text::line_count` keeps, and what falls in each turn. Assumes nothing.
use Rattle.std.proofs.Common.{◌≡◌, ◌+◌, ◌-◌, ◌≤◌, length, drop}
use Rattle.text.specs.Lines.{lines_of}
use Rattle.text.proofs.line_count.Given as goal

abbrev pub invariant-loop-end : goal.invariant-loop-end
invariant-loop-end l = (length (lines_of l.s) ≡ l.n + length (lines_of (drop l.at l.s))) × (l.n ≤ l.at)

abbrev pub decreases-loop-end : goal.decreases-loop-end
decreases-loop-end l = length l.s + 1 - l.at
