-- `timers::count_down` meets its contract. Assumes nothing.
use mathlib.Core.Path.{◌∙◌}
use native.Mathlib.Omega.{arith}
use Rattle.timers.specs.Timers.{counted_down}
use Rattle.bits.specs.Lists.{any_below}
use Rattle.bits.proofs.Lists.{upto_here, upto_more, upto_all, any_more, loop_done}
use Rattle.timers.proofs.Timers.{counted_down_differs}
use Rattle.timers.proofs.count_down.Goals as goal

pub loop-t-preserved : goal.loop-t-preserved
loop-t-preserved c =
    let l = c.loop-t in (
      upto_more _ _ l.timers l.t-index (omega arith) l.invariant.0 c.down.ensures,
      any_more _ l.t-index l.invariant.1 (rw (upto_here _ _ l.timers l.t-index l.invariant.0)),
    )

pub returns : goal.returns
unfolding counted_down
returns c =
    let l = c.loop-t in (
      upto_all _ _ l.timers l.t-index (omega arith) l.invariant.0,
      loop_done (any_below _) l.auto.t-index-end (omega arith) l.invariant.1 ∙ counted_down_differs c.args.timers.now,
    )
