-- What the loop of `vectors::vectors_differ` keeps: `found` says whether one of the first `i` bits differs. Assumes nothing.
use mathlib.Core.Path.{◌≡◌}
use mathlib.Core.Bool.{xor}
use lib.Dec.{eqb}
use lib.ListN.{get_or}
use Rattle.bits.specs.Lists.{any_below}
use Rattle.vectors.proofs.vectors_differ.Given as goal

abbrev pub invariant-loop-i : goal.invariant-loop-i
invariant-loop-i l = l.found ≡ any_below (λ k. xor (eqb (get_or l.a k 0) 0) (eqb (get_or l.b k 0) 0)) l.i
