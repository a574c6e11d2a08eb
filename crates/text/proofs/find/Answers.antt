-- `text::find` meets its contract. Assumes nothing.
use Rattle.text.proofs.Lines.{until_past, until_rest}
use Rattle.text.proofs.find.Goals as goal

pub returns-then-s-at : goal.returns-then-s-at
returns-then-s-at c = until_past _ _ _ c.if-s-at.true

pub returns : goal.returns
returns c = until_rest c.args.b c.args.s.now c.args.at c.first.ensures c.unwrap_or.ensures
