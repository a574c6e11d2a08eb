-- Every line of a trace is counted, whatever its phase. Assumes nothing.
use mathlib.Core.Path.{◌≡◌, refl, ◌∙◌}
use mathlib.Core.List.{List, [], ◌∷◌}
use Prim.Native.Nat.{ℕ, ◌+◌, ◌≤◌, ◌<◌}
use native.Mathlib.Omega.{arith}
use lib.ListN.{length}
use borrow.Author.Tests.{lt-ltb}
use Rattle.command_names.specs.declared.Command.{Command}
use Rattle.std.specs.Prelude.{Option, Some, None}
use Rattle.config_line.specs.ConfigLine.{read_config}
use Rattle.pn_line.specs.PnLine.{is_partial, read_partial}
use Rattle.blocks.specs.Blocks.{lines_most}
use Rattle.blocks.specs.Runs.{after}
use Rattle.runs.specs.declared.Phase.{Phase}
use Rattle.runs.specs.declared.Phase.TheVariants.{First, Second, Running, Ended}
use Rattle.runs.specs.declared.Run.{Run}
use Rattle.runs.specs.Runs.{Outcome, counted, passed}
use Rattle.replay.specs.Replay.{called, doing, later_line, reading_of, replied_with, unread}
use Rattle.config_lines.specs.ConfigLines.{begun, broken, first_line, holding, partial_line}
use Rattle.trace_line.specs.TraceLine.{following, is_running, line_in, second_line, step_of}
use Rattle.trace_claims.proofs.Either.{either}

-- an outcome has one line more than a run
abbrev Counts : Run → Outcome → Type 0
Counts run o = o.run.lines ≡ counted run.lines

later_lines : (run : Run) (l : List ℕ) → Counts run (later_line run l)
unfolding later_line unread called replied_with passed
later_lines run l = by_asked (reading_of l).asked (reading_of l).bytes
  where
    by_asked : (a : Option Command) (bytes : List ℕ) → Counts run (doing run a bytes)
    by_asked None bytes = refl
    by_asked (Some k) bytes = refl

first_lines : (run : Run) (l : List ℕ) → Counts run (first_line run l)
unfolding first_line holding broken passed
first_lines run l = either (Counts run) (read_config l).readable refl refl

partial_lines : (run : Run) (l : List ℕ) → Counts run (partial_line run l)
unfolding partial_line begun broken passed
partial_lines run l = either (Counts run) (read_partial run.channel.own.config l).readable refl refl

following_lines : (run : Run) (l : List ℕ) → Counts run (following run l)
unfolding following passed
following_lines run l = either (Counts run) (is_running run.phase) (later_lines run l) refl

second_lines : (run : Run) (l : List ℕ) → Counts run (second_line run l)
unfolding second_line begun
second_lines run l = either (Counts run) (is_partial l) (partial_lines run l) (following_lines (begun run.channel.own.config run.lines).run l)

step_lines : (run : Run) (l : List ℕ) → (step_of run l).lines ≡ counted run.lines
unfolding line_in passed
step_lines run l = by_phase run.phase
  where
    by_phase : (p : Phase) → Counts run (line_in p run l)
    by_phase First = first_lines run l
    by_phase Second = second_lines run l
    by_phase Running = later_lines run l
    by_phase Ended = refl

counted_is : (n : ℕ) → n < lines_most → counted n ≡ n + 1
unfolding counted
counted_is n h = rw (lt-ltb n lines_most h)

-- so many lines more, as long as they can be counted
pub after_lines : (run : Run) (ls : List (List ℕ)) → run.lines + length ls ≤ lines_most → (after step_of run ls).lines ≡ run.lines + length ls
unfolding after
after_lines run [] h = omega arith
after_lines run (l ∷ ls) h =
    let e : (step_of run l).lines ≡ run.lines + 1 = step_lines run l ∙ counted_is run.lines (omega arith) in
    after_lines (step_of run l) ls (omega (arith, e)) ∙ omega (arith, e)
