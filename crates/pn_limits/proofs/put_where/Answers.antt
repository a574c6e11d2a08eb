-- `pn_limits::put_where` meets its contract. Assumes nothing.
use native.Mathlib.Omega.{arith}
use Rattle.pn_limits.specs.Limits.{limits_of}
use Rattle.bits.proofs.Lists.{upto_more, upto_all}
use Rattle.pn_limits.proofs.put_where.Goals as goal

pub loop-i-preserved : goal.loop-i-preserved
loop-i-preserved c =
    upto_more _ _ c.loop-i.limits c.loop-i.i (omega arith) c.loop-i.invariant (rw (c.pick.ensures, c.bit_of-marked.ensures))

pub returns : goal.returns
unfolding limits_of
returns c = let l = c.loop-i in upto_all _ _ l.limits l.i (omega arith) l.invariant
