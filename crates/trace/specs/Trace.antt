-- What a trace comes to: as a whole text, and in blocks with the end of the input behind them. Assumes nothing.
use Rattle.std.specs.Prelude.{◌≡◌, Bool, ◌&&◌, cond, List, [], ◌++◌, ℕ, ◌+◌, leb, length, replicate, take, Err}
use Rattle.std.proofs.lemmas.List.Edits.{sets}
use Rattle.answers.specs.declared.Refusal.TheVariants.{Length}
use Rattle.answers.specs.Answers.{Answer, Done}
use Rattle.config_line.specs.ConfigLine.{read_config}
use Rattle.text.specs.Lines.{lines_of}
use Rattle.blocks.specs.Blocks.{finished_lines, kept_of, line_most, lines_fit}
use Rattle.runs.specs.declared.Phase.TheVariants.{First}
use Rattle.runs.specs.declared.Run.{Run}
use Rattle.runs.specs.Runs.{Outcome}
use Rattle.config_lines.specs.ConfigLines.{holding}
use Rattle.trace_line.specs.TraceLine.{and_then, ending}
use Rattle.call_lines.specs.CallLines.{lines_from}
use Rattle.trace.specs.declared.BlockReply.{BlockReply}
use Rattle.trace.specs.declared.Trace.{Trace}

-- ---- a whole text

-- the run before the first line; what an empty line would give stands for a configuration, and no line reads it
unfoldable pub first_run : Run
first_run = holding First 0 (read_config []).config

-- what a text comes to from a run on, up to the end of the input
unfoldable pub whole_from : Run → List ℕ → Outcome
whole_from run s = and_then (lines_from run (lines_of s)) (ending (lines_from run (lines_of s)).run)

-- what the text of a trace comes to
abbrev pub whole : List ℕ → Outcome
whole s = whole_from first_run s

-- what it prints
abbrev pub printed : List ℕ → List ℕ
printed s = (whole s).text

-- ---- between two blocks

-- room for what is kept of an unfinished line
abbrev pub kept_most : ℕ
kept_most = line_most + 1

-- a run with what is kept of an unfinished line; zeros stand behind that
unfoldable pub keeping : Run → List ℕ → Trace
keeping run k = record { run = run; line = sets (replicate kept_most 0) 0 k; kept = length k }

-- what is kept
abbrev pub kept_in : Trace → List ℕ
kept_in t = take t.kept t.line

-- before the first block
unfoldable pub start : Trace
start = keeping first_run []

-- ---- a block

-- the most bytes of a block
abbrev pub block_most : ℕ
block_most = 512

-- the answer, the trace behind the block, and the text that is printed
pub record BlockOutcome : Type 0 where
  pub answer : Answer
  pub trace : Trace
  pub text : List ℕ

-- a block is taken exactly if it is not too long, and the lines with it, an unfinished one counted, are not too many
unfoldable pub is_taken : Trace → List ℕ → Bool
is_taken t b = leb (length b) block_most && lines_fit t.run.lines (kept_in t ++ b)

-- a block that is taken, by its text: the finished lines are run, and of the unfinished one the start is kept
abbrev pub taken : Run → List ℕ → BlockOutcome
taken run s =
    record { answer = Done; trace = keeping (lines_from run (finished_lines s)).run (kept_of s); text = (lines_from run (finished_lines s)).text }

-- a block that is refused prints nothing and leaves the trace as it was
abbrev pub refused : Trace → BlockOutcome
refused t = record { answer = Err Length; trace = t; text = [] }

-- the text of a block is what was kept before it, and the block
unfoldable pub block_of : Trace → List ℕ → BlockOutcome
block_of t b = cond (is_taken t b) (taken t.run (kept_in t ++ b)) (refused t)

-- the reply that tells an outcome, whose text ends before place `at` of the lent buffer
abbrev pub block_reply_of : BlockOutcome → BlockReply
block_reply_of o = record { answer = o.answer; trace = o.trace; at = length o.text }

-- that reply is given, and the text stands at the start of the list l, which makes the list m
pub record GivesBlock (o : BlockOutcome) (l m : List ℕ) (r : BlockReply) : Type 0 where
  pub reply : r ≡ block_reply_of o
  pub list : m ≡ sets l 0 o.text

-- ---- the end of the input

-- what is kept is the last line, if it has a byte
unfoldable pub ended : Trace → Outcome
ended t = whole_from t.run (kept_in t)
