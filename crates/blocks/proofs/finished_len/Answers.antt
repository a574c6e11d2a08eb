-- `blocks::finished_len` meets its contract. Assumes nothing.
use Rattle.blocks.proofs.Finished.{finished_some, finished_none}
use Rattle.blocks.proofs.finished_len.Goals as goal

pub returns-in-Some : goal.returns-in-Some
returns-in-Some c = let l = c.in-Some.ensures in finished_some _ _ l.0 l.1 l.2

pub returns-in-None : goal.returns-in-None
returns-in-None c = finished_none _ c.in-None.ensures
