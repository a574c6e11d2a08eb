-- How much room the text of a trace takes. Assumes nothing.
use mathlib.Core.List.{List, [], ◌∷◌}
use Prim.Native.Nat.{ℕ, ◌+◌, ◌*◌, ◌≤◌}
use native.Mathlib.Omega.{arith}
use lib.ListN.{length, length-append}
use Rattle.text.specs.Lines.{lines_of}
use Rattle.text.proofs.Lines.{count_le}
use Rattle.blocks.specs.Runs.{outs}
use Rattle.runs.specs.declared.Run.{Run}
use Rattle.trace_line.specs.TraceLine.{ending, room, step_of, text_of}
use Rattle.trace_line.proofs.Room.{ending_le, line_le}
use Rattle.call_lines.specs.CallLines.{lines_from}
use Rattle.trace.specs.Trace.{whole_from}

outs_le : (run : Run) (ls : List (List ℕ)) → length (outs step_of text_of run ls) ≤ room * length ls
unfolding outs
outs_le run [] = omega arith
outs_le run (l ∷ ls) =
    rw (length-append (text_of run l) (outs step_of text_of (step_of run l) ls)) (omega (arith, line_le run l, outs_le (step_of run l) ls))

-- what the lines of a text print has room
pub lines_le : (run : Run) (s : List ℕ) → length (lines_from run (lines_of s)).text ≤ room * length s
unfolding lines_from
lines_le run s = omega (arith, outs_le run (lines_of s), count_le s)

-- and so has what a text prints up to the end of the input
pub whole_le : (run : Run) (s : List ℕ) → length (whole_from run s).text ≤ room * (length s + 1)
unfolding whole_from
whole_le run s =
    let o = lines_from run (lines_of s) in
    rw (length-append o.text (ending o.run).text) (omega (arith, lines_le run s, ending_le o.run))
