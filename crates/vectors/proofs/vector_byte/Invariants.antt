-- What the loop of `vectors::vector_byte` keeps: `byte` has the first `i` bits. Assumes nothing.
use mathlib.Core.Path.{◌≡◌}
use Prim.Native.Nat.{◌*◌, ◌^◌, ◌<◌}
use lib.ListN.{get_or, take, drop}
use Rattle.bits.specs.Lists.{sum_below}
use Rattle.vectors.specs.Vectors.{running_bit}
use Rattle.vectors.proofs.vector_byte.Given as goal

abbrev pub invariant-loop-i : goal.invariant-loop-i
invariant-loop-i l =
    (l.byte < 2 ^ l.i) × (l.byte ≡ sum_below (λ k. 2 ^ k * running_bit (get_or (take 8 (drop l.at l.timers)) k 0)) l.i)
