-- What the loop of `ticks::rounded_up` keeps, and what falls in each turn. Assumes nothing.
use Prim.Native.Nat.{◌+◌, ◌-◌}
use Rattle.ticks.proofs.LongDivision.{Dividing}
use Rattle.ticks.proofs.rounded_up.Given as goal

abbrev pub invariant-loop-shifted : goal.invariant-loop-shifted
invariant-loop-shifted l =
    Dividing (l.ms + (l.period - 1)) l.period l.quotient l.remainder l.shifted

abbrev pub decreases-loop-shifted : goal.decreases-loop-shifted
decreases-loop-shifted l = l.shifted
