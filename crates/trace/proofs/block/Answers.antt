-- `trace::block` meets its contract. Assumes nothing.
use mathlib.Core.Path.{◌≡◌, refl, ◌∙◌}
use mathlib.Core.Bool.{false}
use mathlib.Core.List.{List, ◌++◌}
use Prim.Native.Nat.{ℕ, ◌<◌}
use native.Mathlib.Omega.{arith}
use borrow.Author.Tests.{le-leb, lt-leb}
use lib.ListN.{length, length-append, length-take}
use Rattle.trace.specs.declared.Trace.{Trace}
use Rattle.trace.specs.Trace.{block_most, block_of, is_taken, kept_in, kept_most}
use Rattle.trace.proofs.Text.{filled_text}
use Rattle.trace.proofs.block.Goals as goal

-- a block that is too long is not taken
too_long : (t : Trace) (b : List ℕ) → block_most < length b → is_taken t b ≡ false
unfolding is_taken
too_long t b h = rw (lt-leb (length b) block_most h)

pub returns-then-block-gt-BLOCK_MOST : goal.returns-then-block-gt-BLOCK_MOST
unfolding block_of
returns-then-block-gt-BLOCK_MOST c =
    let a = c.args in
    rw (too_long a.trace a.block.now (omega (arith, c.if-block-gt-BLOCK_MOST.true))) (record { reply = c.refused.ensures; list = refl })

pub returns-then-lines_fit : goal.returns-then-lines_fit
unfolding block_of is_taken
returns-then-lines_fit c =
    let a = c.args in
    let s = kept_in a.trace ++ a.block.now in
    let n : length a.trace.line ≡ kept_most = omega arith in
    let text : c.part-text.result.now ≡ s =
    c.part-text.ensures
    ∙ filled_text _ s (rw c.part.ensures at c.put_text-n.ensures)
    (rw (length-append (kept_in a.trace) a.block.now, length-take) (omega (arith, c.if-block-gt-BLOCK_MOST.false, n))) in
    let judged : c.lines_fit.result ≡ is_taken a.trace a.block.now =
    rw (le-leb (length a.block.now) block_most (omega (arith, c.if-block-gt-BLOCK_MOST.false)), ← text) c.lines_fit.ensures in
    rw (← judged, c.if-lines_fit.true) (rw text at c.taken.ensures)

pub returns : goal.returns
unfolding block_of is_taken
returns c =
    let a = c.args in
    let s = kept_in a.trace ++ a.block.now in
    let n : length a.trace.line ≡ kept_most = omega arith in
    let text : c.part-text.result.now ≡ s =
    c.part-text.ensures
    ∙ filled_text _ s (rw c.part.ensures at c.put_text-n.ensures)
    (rw (length-append (kept_in a.trace) a.block.now, length-take) (omega (arith, c.if-block-gt-BLOCK_MOST.false, n))) in
    let judged : c.lines_fit.result ≡ is_taken a.trace a.block.now =
    rw (le-leb (length a.block.now) block_most (omega (arith, c.if-block-gt-BLOCK_MOST.false)), ← text) c.lines_fit.ensures in
    rw (← judged, c.if-lines_fit.false) (record { reply = c.refused-2.ensures; list = refl })
