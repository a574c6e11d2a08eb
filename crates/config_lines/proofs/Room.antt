-- How much room the text of a line of the configuration takes. Assumes nothing.
use mathlib.Core.Path.{◌≡◌, refl}
use mathlib.Core.List.{List}
use Prim.Native.Nat.{ℕ, ◌≤◌}
use native.Mathlib.Omega.{arith}
use lib.ListN.{length}
use Rattle.config.specs.declared.Config.{Config}
use Rattle.print.specs.Print.{decimal}
use Rattle.report.specs.Report.{frame_text, head_text, line_text, report_most}
use Rattle.notes_text.specs.NotesText.{change_word, dashed, notes_text, piece, word_of}
use Rattle.pn_line.specs.PnLine.{read_partial}
use Rattle.config_line.specs.ConfigLine.{read_config}
use Rattle.runs.specs.declared.Run.{Run}
use Rattle.runs.specs.Runs.{bare_text}
use Rattle.runs.proofs.Laws.{bare_le, either_le}
use Rattle.config_lines.specs.ConfigLines.{begun, broken, first_line, partial_line}

-- line 1
pub begun_length : (c : Config) (n : ℕ) → length (begun c n).text ≡ 10
unfolding begun bare_text line_text head_text decimal notes_text word_of change_word piece dashed frame_text
begun_length c n = refl

broken_le : (run : Run) → length (broken run).text ≤ report_most
unfolding broken
broken_le run = bare_le _ _ _

begun_le : (c : Config) (n : ℕ) → length (begun c n).text ≤ report_most
begun_le c n = omega (arith, begun_length c n)

pub first_le : (run : Run) (l : List ℕ) → length (first_line run l).text ≤ report_most
unfolding first_line
first_le run l = either_le (read_config l).readable _ _ (omega arith) (broken_le run)

pub partial_le : (run : Run) (l : List ℕ) → length (partial_line run l).text ≤ report_most
unfolding partial_line
partial_le run l = either_le (read_partial run.channel.own.config l).readable _ _ (begun_le _ _) (broken_le run)
