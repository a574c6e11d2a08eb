-- The claims of specs/Claims hold. Assumes nothing.
use mathlib.Core.Path.{◌≡◌, ap, ◌∙◌}
use mathlib.Core.List.{List, [], ◌∷◌}
use Prim.Native.Nat.{ℕ}
use native.Mathlib.Omega.{arith}
use Rattle.sleep.proofs.Theorem.{every_channel_sleeps}
use Rattle.blocks.specs.Blocks.{finished_lines}
use Rattle.blocks.specs.Runs.{after}
use Rattle.text.specs.Lines.{lines_of}
use Rattle.runs.specs.declared.Run.{Run}
use Rattle.runs.specs.Runs.{Outcome}
use Rattle.config_lines.specs.ConfigLines.{holding}
use Rattle.call_lines.specs.CallLines.{lines_from}
use Rattle.trace.specs.Trace.{first_run, keeping, whole, whole_from}
use Rattle.trace_claims.specs.Claims.{EveryBlockIsJudged, EveryCutIsOfItsText, EveryCutIsTheWhole, EveryCutReaches, EveryLineIsCut, EveryRunReaches, EveryTextInBlocks, EveryTextIsTaken, EveryTextReaches, Reaches, calls_in, config_in, lines_behind, taken_text}
use Rattle.trace_claims.proofs.AtEnd.{end_reached}
use Rattle.trace_claims.proofs.Blocks as blocks
use Rattle.trace_claims.proofs.Cut.{line_cut}
use Rattle.trace_claims.proofs.Reached.{From, first_waits, reached_from}

-- ---- the channel of a run

reaches : (ls : List (List ℕ)) {run : Run} → From (config_in ls) (calls_in (lines_behind ls)) run → Reaches ls run
reaches ls f = record { passes = f.passes; channel = f.channel; sleeps = every_channel_sleeps _ f.passes }

pub every_run_reaches : EveryRunReaches
unfolding after first_run holding
every_run_reaches [] h = let z : ◌≡◌ {A = ℕ} 0 1 = cc in absurd (omega arith)
every_run_reaches (l ∷ []) h = absurd (first_waits l h)
every_run_reaches (l ∷ m ∷ ls) h = reaches (l ∷ m ∷ ls) (reached_from l m ls h)

pub every_text_reaches : EveryTextReaches
unfolding whole_from lines_from
every_text_reaches s h = reaches (lines_of s) (end_reached (lines_of s) h)

-- ---- blocks

pub every_line_is_cut : EveryLineIsCut
every_line_is_cut = line_cut

pub every_cut_is_of_its_text : EveryCutIsOfItsText
every_cut_is_of_its_text = blocks.every_cut_is_of_its_text

pub every_block_is_judged : EveryBlockIsJudged
every_block_is_judged = blocks.every_block_is_judged

pub every_cut_is_the_whole : EveryCutIsTheWhole
every_cut_is_the_whole = blocks.every_cut_is_the_whole

pub every_cut_reaches : EveryCutReaches
unfolding keeping lines_from
every_cut_reaches bs =
    let s = taken_text bs in
    let p = every_cut_is_of_its_text bs in
    let r = ap (λ (o : Outcome). o.run) (every_cut_is_the_whole bs) in
    record {
      between = λ h. rw p (every_run_reaches (finished_lines s) (rw p at h));
      at_end = λ h. rw r (every_text_reaches s (rw r at h));
    }

pub every_text_is_taken : EveryTextIsTaken
every_text_is_taken = blocks.every_text_is_taken

pub every_text_in_blocks : EveryTextInBlocks
every_text_in_blocks bs a h = every_cut_is_the_whole bs ∙ ap whole (every_text_is_taken bs a h)
