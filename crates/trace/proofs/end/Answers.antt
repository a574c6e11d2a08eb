-- `trace::end` meets its contract. Assumes nothing.
use Rattle.trace.specs.Trace.{ended}
use Rattle.trace.proofs.end.Goals as goal

pub returns : goal.returns
unfolding ended
returns c = rw c.part.ensures at c.put_whole.ensures
