-- `layout::byte_at` meets its contract. Assumes nothing.
use mathlib.Core.Path.{◌≡◌}
use borrow.Author.Rules.{rules}
use borrow.Author.Tests.{eq-eqb, ne_eqb}
use lib.ListN.{get_or}
use Rattle.layout.proofs.byte_at.Goals as goal

pub returns-then-position-eq-OFF : goal.returns-then-position-eq-OFF
returns-then-position-eq-OFF c = rw (eq-eqb _ _ c.if-position-eq-OFF.true)

pub returns : goal.returns
returns c =
    let e : c.unwrap_or.result ≡ get_or c.args.pdu.now c.args.position 0 = search rules in
    rw (e, ne_eqb _ _ c.if-position-eq-OFF.false)
