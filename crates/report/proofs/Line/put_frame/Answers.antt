-- `report::Line::put_frame` meets its contract. Assumes nothing.
use Rattle.report.specs.Report.{frame_text}
use Rattle.report.proofs.Line.put_frame.Goals as goal

pub returns-then-is_empty : goal.returns-then-is_empty
unfolding frame_text
returns-then-is_empty c = rw (← c.is_empty.ensures, c.if-is_empty.true) c.put.ensures

pub returns-else-is_empty : goal.returns-else-is_empty
unfolding frame_text
returns-else-is_empty c = rw (← c.is_empty.ensures, c.if-is_empty.false) c.put_hex.ensures
