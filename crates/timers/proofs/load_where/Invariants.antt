-- What the loop of `timers::load_where` keeps: the first `i` timers are loaded where their bit stands in both, and `changed`
-- says whether the bit of one of them changed. Assumes nothing.
use mathlib.Core.Path.{◌≡◌}
use mathlib.Core.Bool.{cond, ◌&&◌, xor}
use lib.Dec.{eqb}
use lib.ListN.{get_or}
use Rattle.bits.specs.Bits.{bit_at}
use Rattle.bits.specs.Lists.{any_below}
use Rattle.bits.proofs.Lists.{Upto}
use Rattle.timers.proofs.load_where.Given as goal

abbrev pub invariant-loop-i : goal.invariant-loop-i
invariant-loop-i l =
    Upto (λ k t. cond (bit_at l.bytes k && bit_at l.mask k) l.reset t) l.initial.t-items l.t-items l.i
    × (l.changed ≡ any_below (λ k. xor (eqb (get_or l.initial.t-items k 0) 0) (eqb (cond (bit_at l.bytes k && bit_at l.mask k) l.reset (get_or l.initial.t-items k 0)) 0)) l.i)
