-- `status::vector_of` meets its contract. Assumes nothing.
use native.Mathlib.Omega.{arith}
use Rattle.bits.proofs.Lists.{upto_more, upto_all}
use Rattle.channel.specs.Channel.{vector_of}
use Rattle.status.proofs.vector_of.Goals as goal

pub loop-i-preserved : goal.loop-i-preserved
loop-i-preserved c = let l = c.loop-i in upto_more _ _ l.byte-items l.i (omega arith) l.invariant c.vector_byte.ensures

pub returns : goal.returns
unfolding vector_of
returns c = let l = c.loop-i in upto_all _ _ l.byte-items l.i (omega arith) l.invariant
