-- What a line of a trace comes to, in any phase of its run, and what the end of the input comes to. Assumes nothing.
use Rattle.std.specs.Prelude.{Bool, true, false, cond, List, [], ◌++◌, ℕ, ◌+◌, ◌*◌}
use Rattle.pn_line.specs.PnLine.{is_partial}
use Rattle.config_lines.specs.ConfigLines.{begun, first_line, partial_line}
use Rattle.replay.specs.Replay.{later_line}
use Rattle.runs.specs.declared.Phase.{Phase}
use Rattle.runs.specs.declared.Phase.TheVariants.{First, Second, Running, Ended}
use Rattle.runs.specs.declared.Run.{Run}
use Rattle.runs.specs.Runs.{Outcome, outcome, passed}
use Rattle.report.specs.Report.{report_most}
use Rattle.config.specs.Ranges.{pdu_most}

-- ---- line 2

-- an outcome behind another: its run, and both texts
abbrev pub and_then : Outcome → Outcome → Outcome
and_then o p = outcome p.run (o.text ++ p.text)

abbrev pub is_running : Phase → Bool
is_running First = false
is_running Second = false
is_running Running = true
is_running Ended = false

-- a line behind the judged configuration; where the run has ended it is counted only
unfoldable pub following : Run → List ℕ → Outcome
following run l = cond (is_running run.phase) (later_line run l) (outcome (passed run run.phase) [])

-- line 2: a PN line, or the configuration is judged without one
unfoldable pub second_line : Run → List ℕ → Outcome
second_line run l =
    cond (is_partial l) (partial_line run l)
    (and_then (begun run.channel.own.config run.lines) (following (begun run.channel.own.config run.lines).run l))

-- ---- every line

unfoldable pub line_in : Phase → Run → List ℕ → Outcome
line_in First run l = first_line run l
line_in Second run l = second_line run l
line_in Running run l = later_line run l
line_in Ended run l = outcome (passed run Ended) []

abbrev pub line_of : Run → List ℕ → Outcome
line_of run l = line_in run.phase run l

-- the run after a line, and the text that the line prints
abbrev pub step_of : Run → List ℕ → Run
step_of run l = (line_of run l).run

abbrev pub text_of : Run → List ℕ → List ℕ
text_of run l = (line_of run l).text

-- room for the text of one line: the longest line with a frame, behind the ten bytes of line 1
abbrev pub room : ℕ
room = 10 + report_most + 2 * pdu_most

-- ---- the end of the input

-- a configuration that waits for line 2 is judged
abbrev pub ending_in : Phase → Run → Outcome
ending_in First run = outcome run []
ending_in Second run = begun run.channel.own.config run.lines
ending_in Running run = outcome run []
ending_in Ended run = outcome run []

unfoldable pub ending : Run → Outcome
ending run = ending_in run.phase run
