-- `layout::put_byte` meets its contract. Assumes nothing.
use borrow.Author.Tests.{eq-eqb, ne_eqb}
use Rattle.layout.proofs.put_byte.Goals as goal

pub returns-then-position-eq-OFF : goal.returns-then-position-eq-OFF
returns-then-position-eq-OFF c = rw (eq-eqb _ _ c.if-position-eq-OFF.true)

pub returns : goal.returns
returns c = rw (c.put.ensures, ne_eqb _ _ c.if-position-eq-OFF.false)
