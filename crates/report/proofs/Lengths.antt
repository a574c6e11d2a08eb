-- How long a line is at most. Assumes nothing.
use mathlib.Core.Bool.{Bool, true, false, cond}
use mathlib.Core.List.{List, [], ◌∷◌}
use Prim.Native.Nat.{ℕ, ◌+◌, ◌*◌, ◌≤◌}
use native.Mathlib.Omega.{arith}
use lib.Dec.{eqb}
use lib.ListN.{length, length-append}
use Rattle.print.specs.Print.{dash, hex_text}
use Rattle.print.proofs.Hex.{length_hex}
use Rattle.print.proofs.Numbers.{length_number}
use Rattle.channel.specs.declared.state.Notes.{Notes}
use Rattle.report.specs.Report.{frame_text, head_most, head_text, report_most, line_text}
use Rattle.notes_text.proofs.Notes.{length_notes}

pub length_head : (n answer state : ℕ) → length (head_text n answer state) ≤ head_most
unfolding head_text
length_head n answer state = simp length-append (omega (arith, length_number n))

pub length_frame : (frame : List ℕ) → length (frame_text frame) ≤ 1 + 2 * length frame
unfolding frame_text
length_frame frame = by_test (eqb (length frame) 0)
  where
    by_test : (b : Bool) → length (cond b (dash ∷ []) (hex_text frame)) ≤ 1 + 2 * length frame
    by_test true = omega arith
    by_test false = omega (arith, length_hex frame)

-- the line, by which callers count its room
pub length_line : (n answer state : ℕ) (notes : Notes) (frame : List ℕ) → length (line_text n answer state notes frame) ≤ report_most + 2 * length frame
unfolding line_text
length_line n answer state notes frame = simp length-append (omega (arith, length_head n answer state, length_notes notes, length_frame frame))
