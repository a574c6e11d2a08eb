-- `replay::later_line_in_place` meets its contract. Assumes nothing.
use mathlib.Core.Path.{refl}
use Rattle.runs.specs.Runs.{passed}
use Rattle.replay.specs.Replay.{later_line, unread}
use Rattle.replay.proofs.later_line_in_place.Goals as goal

pub returns-in-Some : goal.returns-in-Some
unfolding later_line
returns-in-Some c = rw (← c.read.ensures, c.in-Some.is) c.called.ensures

pub returns-in-None : goal.returns-in-None
unfolding later_line unread passed
returns-in-None c =
    rw (← c.read.ensures, c.in-None.is) (record { run = refl; text = rw (c.counted.ensures, c.k.view_is) at c.put_unreadable.ensures })
