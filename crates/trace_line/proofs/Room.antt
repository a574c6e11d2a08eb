-- How much room the text of a line takes. Assumes nothing.
use mathlib.Core.List.{List}
use Prim.Native.Nat.{ℕ, ◌+◌, ◌*◌, ◌≤◌}
use native.Mathlib.Omega.{arith}
use lib.ListN.{length, length-append}
use Rattle.pn_line.specs.PnLine.{is_partial}
use Rattle.config_lines.specs.ConfigLines.{begun, partial_line}
use Rattle.config_lines.proofs.Room.{begun_length, first_le, partial_le}
use Rattle.replay.proofs.Room.{later_le}
use Rattle.runs.specs.declared.Phase.{Phase}
use Rattle.runs.specs.declared.Phase.TheVariants.{First, Second, Running, Ended}
use Rattle.runs.specs.declared.Run.{Run}
use Rattle.runs.proofs.Laws.{either_le}
use Rattle.trace_line.specs.TraceLine.{and_then, ending, ending_in, following, is_running, line_in, room, second_line, text_of}
use Rattle.report.specs.Report.{report_most}
use Rattle.config.specs.Ranges.{pdu_most}

following_le : (run : Run) (l : List ℕ) → length (following run l).text ≤ report_most + 2 * pdu_most
unfolding following
following_le run l = either_le (is_running run.phase) _ _ (later_le run l) (omega arith)

second_le : (run : Run) (l : List ℕ) → length (second_line run l).text ≤ room
unfolding second_line
second_le run l =
    let b = begun run.channel.own.config run.lines in
    either_le (is_partial l) (partial_line run l) (and_then b (following b.run l)) (omega (arith, partial_le run l))
    (rw (length-append b.text (following b.run l).text) (omega (arith, begun_length run.channel.own.config run.lines, following_le b.run l)))

-- what a line prints has room
pub line_le : (run : Run) (l : List ℕ) → length (text_of run l) ≤ room
unfolding line_in
line_le run l = by_phase run.phase
  where
    by_phase : (p : Phase) → length (line_in p run l).text ≤ room
    by_phase First = omega (arith, first_le run l)
    by_phase Second = second_le run l
    by_phase Running = omega (arith, later_le run l)
    by_phase Ended = omega arith

-- and so has what the end of the input prints
pub ending_le : (run : Run) → length (ending run).text ≤ room
unfolding ending
ending_le run = by_phase run.phase
  where
    by_phase : (p : Phase) → length (ending_in p run).text ≤ room
    by_phase First = omega arith
    by_phase Second = omega (arith, begun_length run.channel.own.config run.lines)
    by_phase Running = omega arith
    by_phase Ended = omega arith
