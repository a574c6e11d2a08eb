-- What the lines of the configuration come to. Assumes nothing.
use Rattle.std.specs.Prelude.{Bool, cond, List, [], ℕ}
use Rattle.answers.specs.Answers.{number_of}
use Rattle.channel.specs.Channel.{fresh, initialised}
use Rattle.config.specs.declared.Config.{Config}
use Rattle.time_rules.specs.TimeRules.{ticks_for}
use Rattle.refusals.specs.Refusals.{is_done}
use Rattle.report.specs.Report.{letter_of}
use Rattle.print.specs.Print.{dash}
use Rattle.pn_line.specs.PnLine.{read_partial}
use Rattle.config_line.specs.ConfigLine.{read_config}
use Rattle.runs.specs.declared.Phase.{Phase}
use Rattle.runs.specs.declared.Phase.TheVariants.{Second, Running, Ended}
use Rattle.runs.specs.declared.Run.{Run}
use Rattle.runs.specs.Runs.{Outcome, bare_text, counted, digit_of, outcome, passed, run_of, unreadable_digit}

-- ---- runs

-- the number of line 1, which is the configuration's
abbrev pub first_number : ℕ
first_number = 1

-- a run behind so many lines that holds a configuration, which is not judged yet
unfoldable pub holding : Phase → ℕ → Config → Run
holding phase lines c = run_of phase lines (fresh c (ticks_for c))

-- ---- lines

-- a line of the configuration that can't be read ends the run
unfoldable pub broken : Run → Outcome
broken run = outcome (passed run Ended) (bare_text (counted run.lines) unreadable_digit dash)

abbrev pub judged_phase : Bool → Phase
judged_phase done = cond done Running Ended

-- the configuration is judged, which prints line 1; n lines came before the next
unfoldable pub begun : Config → ℕ → Outcome
begun c n =
    outcome (run_of (judged_phase (is_done (initialised c).answer)) n (initialised c).channel)
    (bare_text first_number (digit_of (number_of (initialised c).answer))
    (cond (is_done (initialised c).answer) (letter_of (initialised c).channel.own.mode.state) dash))

unfoldable pub first_line : Run → List ℕ → Outcome
first_line run l =
    cond (read_config l).readable (outcome (holding Second (counted run.lines) (read_config l).config) []) (broken run)

-- a PN line: it prints only line 1
unfoldable pub partial_line : Run → List ℕ → Outcome
partial_line run l =
    cond (read_partial run.channel.own.config l).readable
    (begun (read_partial run.channel.own.config l).config (counted run.lines))
    (broken run)
