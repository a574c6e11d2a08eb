-- `commands::read` meets its contract. Assumes nothing.
use mathlib.Core.Path.{◌≡◌, sym, ◌∙◌}
use Prim.Native.Nat.{◌+◌, ◌-◌}
use native.Mathlib.Nat.{zero-add}
use native.Mathlib.Omega.{arith}
use borrow.Author.Tests.{lt-ltb, le-ltb}
use lib.ListN.{length, drop, length-drop}
use lib.Seq.{length-take-le, take_all}
use Rattle.text.specs.Lines.{until}
use Rattle.fields.specs.Fields.{tab}
use Rattle.commands.specs.Commands.{reading}
use Rattle.commands.proofs.read.Goals as goal

pub returns-then-l-gt-LINE_MOST : goal.returns-then-l-gt-LINE_MOST
unfolding reading
returns-then-l-gt-LINE_MOST c = rw (lt-ltb _ _ c.if-l-gt-LINE_MOST.true)

pub slice_bounds-call-end : goal.slice_bounds-call-end
slice_bounds-call-end c = sym (length-take-le _ _ (omega arith))

pub returns-then-end-l : goal.returns-then-end-l
unfolding reading
returns-then-end-l c =
    let ends : c.field_end-end.result ≡ until tab c.args.l.now = c.field_end-end.ensures ∙ zero-add _ in
    let l = c.args.l.now in
    let k = c.field_end-end.result + 1 in
    rw (
      c.argued.ensures,
      c.call.ensures,
      ← ends,
      lt-ltb _ _ c.if-end-l.true,
      le-ltb _ _ c.if-l-gt-LINE_MOST.false,
      take_all (length l - k) (drop k l) (omega (arith, length-drop k l)),
    )

pub returns : goal.returns
unfolding reading
returns c =
    let ends : c.field_end-end.result ≡ until tab c.args.l.now = c.field_end-end.ensures ∙ zero-add _ in
    rw (c.alone.ensures, c.call-2.ensures, ← ends, le-ltb _ _ c.if-end-l.false, le-ltb _ _ c.if-l-gt-LINE_MOST.false)
