-- What a trace comes to, as a whole: the claims, with no proof. Assumes nothing.
use Rattle.std.specs.Prelude.{◌≡◌, Bool, ◌&&◌, cond, List, [], ◌∷◌, ◌++◌, ℕ, ◌≤◌, leb, length, Ok, Err, Option, Some, None}
use Rattle.answers.specs.declared.Refusal.TheVariants.{Length}
use Rattle.answers.specs.Answers.{Done}
use Rattle.command_names.specs.declared.Command.{Command}
use Rattle.config.specs.declared.Config.{Config}
use Rattle.rules.specs.Rules.{first_broken}
use Rattle.decision.specs.Decision as calls
use Rattle.config_line.specs.ConfigLine.{read_config}
use Rattle.pn_line.specs.PnLine.{is_partial, read_partial}
use Rattle.sleep.specs.Sleep.{ChannelSleeps, reached}
use Rattle.blocks.specs.Blocks.{cut, finished_lines, lines_most}
use Rattle.blocks.specs.Runs.{after}
use Rattle.text.specs.Lines.{lines_of}
use Rattle.dispatch.specs.Calls.{call_for}
use Rattle.runs.specs.declared.Phase.TheVariants.{Running}
use Rattle.runs.specs.declared.Run.{Run}
use Rattle.runs.specs.Runs.{Outcome, outcome}
use Rattle.replay.specs.Replay.{reading_of}
use Rattle.trace_line.specs.TraceLine.{line_of, step_of}
use Rattle.trace.specs.declared.Trace.{Trace}
use Rattle.trace.specs.Trace.{block_most, block_of, ended, first_run, start, taken, whole}
use Rattle.config.specs.Ranges.{pdu_most}

-- ---- the calls of a trace

-- the call of a line, none where it can't be read
abbrev pub calls_of : Option Command → List ℕ → List calls.Call
calls_of None bytes = []
calls_of (Some k) bytes = call_for k bytes pdu_most ∷ []

-- the calls of lines in their order
unfoldable pub calls_in : List (List ℕ) → List calls.Call
calls_in [] = []
calls_in (l ∷ ls) = calls_of (reading_of l).asked (reading_of l).bytes ++ calls_in ls

-- the configuration of a trace: of line 1, with line 2 if that is a PN line
unfoldable pub config_in : List (List ℕ) → Config
config_in [] = (read_config []).config
config_in (l ∷ []) = (read_config l).config
config_in (l ∷ m ∷ ls) = cond (is_partial m) (read_partial (read_config l).config m).config (read_config l).config

-- the lines behind the configuration's
unfoldable pub lines_behind : List (List ℕ) → List (List ℕ)
lines_behind [] = []
lines_behind (l ∷ []) = []
lines_behind (l ∷ m ∷ ls) = cond (is_partial m) ls (m ∷ ls)

-- a run that goes on behind some lines
pub record Reaches (ls : List (List ℕ)) (run : Run) : Type 0 where
  -- the configuration passes
  pub passes : first_broken (config_in ls) ≡ Ok tt
  -- the channel is the one that the calls reach from initialisation
  pub channel : run.channel ≡ reached (config_in ls) (calls_in (lines_behind ls))
  -- so what is proved of the tick in which such a channel sleeps holds of it
  pub sleeps : ChannelSleeps (config_in ls)

-- for all lines
abbrev pub EveryRunReaches : Type 0
EveryRunReaches = (ls : List (List ℕ)) → (after step_of first_run ls).phase ≡ Running → Reaches ls (after step_of first_run ls)

-- and for every text at its end
abbrev pub EveryTextReaches : Type 0
EveryTextReaches = (s : List ℕ) → (whole s).run.phase ≡ Running → Reaches (lines_of s) (whole s).run

-- ---- a trace in blocks

-- a line comes to what its first 81 bytes come to
abbrev pub EveryLineIsCut : Type 0
EveryLineIsCut = (run : Run) (l : List ℕ) → line_of run (cut l) ≡ line_of run l

-- does a block fit behind a text? Its length and the lines of both are judged, an unfinished one counted
abbrev pub fits : List ℕ → List ℕ → Bool
fits s b = leb (length b) block_most && leb (length (lines_of (s ++ b))) lines_most

-- the text of the blocks that fit, each behind those before it, where s came before them all
unfoldable pub taken_behind : List ℕ → List (List ℕ) → List ℕ
taken_behind s [] = s
taken_behind s (b ∷ bs) = taken_behind (cond (fits s b) (s ++ b) s) bs

-- where nothing came before them
abbrev pub taken_text : List (List ℕ) → List ℕ
taken_text bs = taken_behind [] bs

-- a trace between two blocks, and all that was printed before
pub record Progress : Type 0 where
  pub trace : Trace
  pub text : List ℕ

-- what blocks come to, one behind the other
unfoldable pub after_blocks : Trace → List (List ℕ) → Progress
after_blocks t [] = record { trace = t; text = [] }
after_blocks t (b ∷ bs) =
    record { trace = (after_blocks (block_of t b).trace bs).trace; text = (block_of t b).text ++ (after_blocks (block_of t b).trace bs).text }

-- what a text comes to, as long as the input has not ended: what it would as one block, whatever its length. Its finished lines are
-- run and printed, and of the unfinished one only the start is kept
abbrev pub after_text : List ℕ → Progress
after_text s = record { trace = (taken first_run s).trace; text = (taken first_run s).text }

-- after any blocks there is what the text so far comes to. So each line is answered once, in the block that ends it, and neither
-- the cuts nor the blocks that were refused can be told from the trace
abbrev pub EveryCutIsOfItsText : Type 0
EveryCutIsOfItsText = (bs : List (List ℕ)) → after_blocks start bs ≡ after_text (taken_text bs)

-- a block is taken exactly if it fits behind the text so far
abbrev pub EveryBlockIsJudged : Type 0
EveryBlockIsJudged = (bs : List (List ℕ)) (b : List ℕ) → (block_of (after_blocks start bs).trace b).answer ≡ cond (fits (taken_text bs) b) Done (Err Length)

-- what blocks and the end of the input come to
abbrev pub over_blocks : List (List ℕ) → Outcome
over_blocks bs =
    outcome (ended (after_blocks start bs).trace).run ((after_blocks start bs).text ++ (ended (after_blocks start bs).trace).text)

-- however a trace is cut into blocks, it comes to what its text comes to as a whole: the run, its channel with it, and what is
-- printed
abbrev pub EveryCutIsTheWhole : Type 0
EveryCutIsTheWhole = (bs : List (List ℕ)) → over_blocks bs ≡ whole (taken_text bs)

-- so what is proved of the channel of a text holds of it in blocks
pub record BlocksReach (bs : List (List ℕ)) : Type 0 where
  -- between two blocks: the calls are those of the finished lines so far
  pub between : (after_blocks start bs).trace.run.phase ≡ Running → Reaches (finished_lines (taken_text bs)) (after_blocks start bs).trace.run
  -- at the end of the input: those of all lines
  pub at_end : (over_blocks bs).run.phase ≡ Running → Reaches (lines_of (taken_text bs)) (over_blocks bs).run

-- for every list of blocks
abbrev pub EveryCutReaches : Type 0
EveryCutReaches = (bs : List (List ℕ)) → BlocksReach bs

-- blocks one behind the other
abbrev pub joined : List (List ℕ) → List ℕ
joined [] = []
joined (b ∷ bs) = b ++ joined bs

-- all have at most the bytes of a block
abbrev pub AllShort : List (List ℕ) → Type 0
AllShort [] = Unit {0}
AllShort (b ∷ bs) = (length b ≤ block_most) × AllShort bs

-- every text whose lines can be counted is taken in all its blocks, wherever it is cut
abbrev pub EveryTextIsTaken : Type 0
EveryTextIsTaken = (bs : List (List ℕ)) → AllShort bs → length (lines_of (joined bs)) ≤ lines_most → taken_text bs ≡ joined bs

-- so the blocks come to what the text comes to at once
abbrev pub EveryTextInBlocks : Type 0
EveryTextInBlocks = (bs : List (List ℕ)) → AllShort bs → length (lines_of (joined bs)) ≤ lines_most → over_blocks bs ≡ whole (joined bs)
