-- `trace::whole` meets its contract. Assumes nothing.
use Rattle.trace.proofs.whole.Goals as goal

pub returns : goal.returns
returns c = rw c.first_run.ensures at c.put_whole.ensures
