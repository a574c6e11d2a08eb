-- What the loop of `pn_limits::under` keeps: `ok` says whether the first `i` timers are at most their limits. Assumes nothing.
use mathlib.Core.Path.{◌≡◌}
use lib.Dec.{leb}
use lib.ListN.{get_or}
use Rattle.bits.specs.Lists.{all_below}
use Rattle.pn_limits.proofs.under.Given as goal

abbrev pub invariant-loop-i : goal.invariant-loop-i
invariant-loop-i l = l.ok ≡ all_below (λ k. leb (get_or l.table k 0) (get_or l.limits k 0)) l.i
