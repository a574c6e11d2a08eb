-- What the loop of `timers::count_down` keeps: the timers so far are counted down, and `fell` says whether one of them was 1.
-- Assumes nothing.
use mathlib.Core.Path.{◌≡◌}
use Prim.Native.Nat.{◌-◌}
use lib.Dec.{eqb}
use lib.ListN.{get_or}
use Rattle.bits.specs.Lists.{any_below}
use Rattle.bits.proofs.Lists.{Upto}
use Rattle.timers.proofs.count_down.Given as goal

abbrev pub invariant-loop-t : goal.invariant-loop-t
invariant-loop-t l =
    Upto (λ k t. t - 1) l.initial.timers l.timers l.t-index
    × (l.fell ≡ any_below (λ k. eqb (get_or l.initial.timers k 0) 1) l.t-index)
