-- What the loop of `fields::digits` keeps. Assumes nothing.
use mathlib.Core.Path.{◌≡◌}
use Prim.Native.Nat.{◌^◌, ◌<◌}
use lib.ListN.{drop}
use Rattle.fields.specs.Numbers.{number_from}
use Rattle.fields.proofs.digits.Given as goal

abbrev pub invariant-loop-d : goal.invariant-loop-d
invariant-loop-d l = (number_from 0 l.s ≡ number_from l.n (drop l.d-index l.s)) × (l.n < 10 ^ l.d-index)
