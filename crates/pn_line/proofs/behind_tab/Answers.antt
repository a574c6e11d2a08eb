-- `pn_line::behind_tab` meets its contract. Assumes nothing.
use mathlib.Core.Path.{◌≡◌, ◌∙◌}
use Prim.Native.Nat.{◌+◌}
use native.Mathlib.Nat.{zero-add}
use native.Mathlib.Omega.{arith}
use lib.ListN.{length, drop, length-drop}
use lib.Seq.{take_all}
use Rattle.text.specs.Lines.{until}
use Rattle.text.proofs.Lines.{until_le}
use Rattle.fields.specs.Fields.{tab}
use Rattle.pn_line.specs.PnLine.{behind_tab}
use Rattle.pn_line.proofs.behind_tab.Goals as goal

pub overflow_add-end : goal.overflow_add-end
overflow_add-end c =
    let ends : c.field_end-end.result ≡ until tab c.args.l.now = c.field_end-end.ensures ∙ zero-add _ in
    omega (arith, ends, until_le tab c.args.l.now)

pub returns : goal.returns
unfolding behind_tab
returns c =
    let ends : c.field_end-end.result ≡ until tab c.args.l.now = c.field_end-end.ensures ∙ zero-add _ in
    let l = c.args.l.now in
    let k = c.field_end-end.result + 1 in
    rw (c.part.ensures, take_all (length l) (drop k l) (omega (arith, length-drop k l)), ends)
