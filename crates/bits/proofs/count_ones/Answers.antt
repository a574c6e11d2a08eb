-- `bits::count_ones` meets its contract. Assumes nothing.
use mathlib.Core.Path.{◌≡◌, ◌∙◌}
use borrow.Author.Rules.{rules}
use lib.Count.{ones}
use Rattle.std.specs.List.{sum_by}
use Rattle.bits.specs.Bits.{count_ones}
use Rattle.bits.proofs.Lists.{sum_places}
use Rattle.bits.proofs.count_ones.Goals as goal

pub returns : goal.returns
unfolding count_ones
returns c =
    let e : c.sum.result ≡ sum_by ones c.args.bytes.now = search rules in
    e ∙ sum_places ones c.args.bytes.now
