-- A run of a trace, what a line comes to, and the printed lines that all phases of a run use. Assumes nothing.
use Rattle.std.specs.Prelude.{◌≡◌, Bool, false, cond, List, [], ℕ, ◌+◌, ltb, take, None}
use Rattle.blocks.specs.Blocks.{lines_most}
use Rattle.channel.specs.declared.state.Channel.{Channel}
use Rattle.channel.specs.declared.state.Notes.{Notes}
use Rattle.channel.specs.Channel.{notes}
use Rattle.print.specs.declared.Writer.{Writer}
use Rattle.print.specs.Print.{Puts, Wrote}
use Rattle.report.specs.Report.{line_text}
use Rattle.runs.specs.declared.Phase.{Phase}
use Rattle.runs.specs.declared.Run.{Run}
use Rattle.runs.specs.declared.Step.{Step}

-- ---- runs

abbrev pub run_of : Phase → ℕ → Channel → Run
run_of phase lines channel = record { phase = phase; lines = lines; channel = channel }

-- the count with one more line, which is the number of that line; at the most that are counted it stands still
unfoldable pub counted : ℕ → ℕ
counted n = cond (ltb n lines_most) (n + 1) n

-- the run in a phase, with one more line counted
unfoldable pub passed : Run → Phase → Run
passed run phase = run_of phase (counted run.lines) run.channel

-- ---- what a line comes to

-- the run after it, and the text that it prints
pub record Outcome : Type 0 where
  pub run : Run
  pub text : List ℕ

abbrev pub outcome : Run → List ℕ → Outcome
outcome run text = record { run = run; text = text }

-- a step has that run, and that text stands in the list l from place i on, which makes the list m
pub record Gives (o : Outcome) (l : List ℕ) (i : ℕ) (m : List ℕ) (s : Step) : Type 0 where
  pub run : s.run ≡ o.run
  pub text : Wrote l i o.text m s.at

-- the run is the outcome's, and the writer v is w with its text written
pub record Prints (o : Outcome) (w : Writer) (r : Run) (v : Writer) : Type 0 where
  pub run : r ≡ o.run
  pub text : Puts w o.text v

-- ---- printed lines

-- the byte of an answer's number
abbrev pub digit_of : ℕ → ℕ
digit_of n = 48 + n

-- the answer for a line that can't be read, as it is printed
abbrev pub unreadable_digit : ℕ
unreadable_digit = digit_of 7

-- no note
abbrev pub quiet : Notes
quiet = notes None None false false

-- a line without notes and frame
unfoldable pub bare_text : ℕ → ℕ → ℕ → List ℕ
bare_text n answer state = line_text n answer state quiet []

-- of a frame that was sent the first L bytes
unfoldable pub sent_bytes : Bool → ℕ → List ℕ → List ℕ
sent_bytes sent length frame = take (cond sent length 0) frame
