-- `blocks::lines_fit` meets its contract. Assumes nothing.
use mathlib.Core.Path.{sym, ◌∙◌}
use Prim.Native.Nat.{◌+◌, ◌-◌}
use native.Mathlib.Omega.{arith}
use borrow.Author.Tests.{le-leb}
use lib.ListN.{length}
use Rattle.choice.proofs.Tests.{same_leb}
use Rattle.text.specs.Lines.{lines_of}
use Rattle.text.proofs.Lines.{count_le}
use Rattle.blocks.specs.Blocks.{lines_most}
use Rattle.blocks.proofs.lines_fit.Goals as goal

pub returns-then-text-left : goal.returns-then-text-left
returns-then-text-left c =
    let a = c.args in
    le-leb _ _ c.if-text-left.true ∙ sym (le-leb (a.lines + length (lines_of a.text.now)) lines_most (omega (arith, c.if-text-left.true, count_le a.text.now)))

pub returns-else-text-left : goal.returns-else-text-left
returns-else-text-left c =
    let a = c.args in
    let n = length (lines_of a.text.now) in
    rw c.line_count.ensures (same_leb n (lines_most - a.lines) (a.lines + n) lines_most (λ h. omega arith) (λ h. omega arith))
