-- `vectors::vectors_differ` meets its contract. Assumes nothing.
use mathlib.Core.Path.{◌≡◌, ap}
use mathlib.Core.Bool.{Bool, ◌||◌}
use borrow.Author.Rules.{rules}
use lib.ListN.{get_or}
use Rattle.choice.proofs.Tests.{xor_is}
use Rattle.vectors.specs.Vectors.{vectors_differ}
use Rattle.bits.specs.Lists.{any_below}
use Rattle.bits.proofs.Lists.{any_more, loop_done}
use Rattle.vectors.proofs.vectors_differ.Goals as goal

pub loop-i-preserved : goal.loop-i-preserved
loop-i-preserved c =
    let l = c.loop-i in
    let e : c.unwrap_or.result ≡ get_or c.args.b.now l.i 0 = search rules in
    any_more _ l.i l.invariant (rw e (ap (λ (t : Bool). l.found || t) (xor_is _ _)))

pub returns : goal.returns
unfolding vectors_differ
returns c = let l = c.loop-i in loop_done (any_below _) l.auto.i-end c.loop-i-test.false l.invariant
