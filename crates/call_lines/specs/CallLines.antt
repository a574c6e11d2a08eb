-- What lines of a trace come to, one behind the other. Assumes nothing.
use Rattle.std.specs.Prelude.{List, ℕ}
use Rattle.blocks.specs.Runs.{after, outs}
use Rattle.runs.specs.declared.Run.{Run}
use Rattle.runs.specs.Runs.{Outcome, outcome}
use Rattle.trace_line.specs.TraceLine.{step_of, text_of}

unfoldable pub lines_from : Run → List (List ℕ) → Outcome
lines_from run ls = outcome (after step_of run ls) (outs step_of text_of run ls)
