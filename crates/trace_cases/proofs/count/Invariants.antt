-- Each line adds 1 at most, and has a byte at least. Assumes nothing.
use Prim.Native.Nat.{◌-◌, ◌+◌, ◌≤◌}
use lib.ListN.{length}
use Rattle.trace_cases.proofs.count.Given as goal

abbrev pub invariant-loop-first : goal.invariant-loop-first
invariant-loop-first g l = l.good ≤ l.at

abbrev pub decreases-loop-first : goal.decreases-loop-first
decreases-loop-first g l = length l.names + 1 - l.at
