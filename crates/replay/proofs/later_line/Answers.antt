-- `replay::later_line` meets its contract. Assumes nothing.
use Rattle.replay.proofs.Laws.{later_running}
use Rattle.replay.proofs.later_line.Goals as goal

pub returns : goal.returns
returns c =
    let a = c.args in
    rw (c.counted.ensures, c.k.view_is, ← later_running a.run a.l.now) (rw c.new-k.ensures at c.later_line_in_place.ensures)
