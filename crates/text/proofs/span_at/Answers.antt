-- `text::span_at` meets its contract. Assumes nothing.
use borrow.Author.Tests.{le-ltb, lt-ltb}
use Rattle.text.specs.Lines.{span_at}
use Rattle.text.proofs.span_at.Goals as goal

pub returns-then-at-s : goal.returns-then-at-s
unfolding span_at
returns-then-at-s c = rw (lt-ltb _ _ c.if-at-s.true, c.line_end.ensures)

pub returns-else-at-s : goal.returns-else-at-s
unfolding span_at
returns-else-at-s c = rw (le-ltb _ _ c.if-at-s.false)
