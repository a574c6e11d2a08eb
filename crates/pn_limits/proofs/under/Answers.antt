-- `pn_limits::under` meets its contract. Assumes nothing.
use mathlib.Core.Path.{refl}
use Rattle.bits.specs.Lists.{all_below}
use Rattle.bits.proofs.Lists.{all_more, loop_done}
use Rattle.pn_limits.specs.Limits.{all_under}
use Rattle.pn_limits.proofs.under.Goals as goal

pub loop-i-preserved : goal.loop-i-preserved
loop-i-preserved c = let l = c.loop-i in all_more _ l.i l.invariant refl

pub returns : goal.returns
unfolding all_under
returns c = let l = c.loop-i in loop_done (all_below _) l.auto.i-end c.loop-i-test.false l.invariant
