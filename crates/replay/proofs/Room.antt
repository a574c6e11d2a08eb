-- How much room the text of a line behind the configuration takes. Assumes nothing.
use mathlib.Core.Path.{◌≡◌, refl}
use mathlib.Core.Bool.{Bool, true, false, cond}
use mathlib.Core.List.{List}
use Prim.Native.Nat.{ℕ, ◌+◌, ◌*◌, ◌≤◌}
use native.Mathlib.Omega.{arith}
use lib.ListN.{length, replicate}
use Rattle.answers.specs.Answers.{number_of}
use Rattle.channel.specs.declared.state.Channel.{Channel}
use Rattle.channel.specs.declared.state.Reply.{Reply}
use Rattle.channel.specs.Channel.{frame_after, replied, traffic_moved}
use Rattle.command_names.specs.declared.Command.{Command}
use Rattle.std.specs.Prelude.{Option, Some, None}
use Rattle.config.specs.declared.Config.{Config}
use Rattle.config.specs.Ranges.{user_start_of, pdu_most}
use Rattle.decision.specs.Decision as calls
use Rattle.frames.specs.Frames.{framed}
use Rattle.layout.specs.Fields.{Fields}
use Rattle.layout.specs.Layout.{frame_of}
use Rattle.layout.proofs.Lengths.{laid_length}
use Rattle.report.specs.Report.{letter_of, report_most}
use Rattle.report.proofs.Lengths.{length_line}
use Rattle.dispatch.specs.Calls.{call_for, carried_out_by}
use Rattle.runs.specs.declared.Run.{Run}
use Rattle.runs.specs.Runs.{digit_of, sent_bytes}
use Rattle.runs.proofs.Laws.{bare_le, sent_le}
use Rattle.replay.specs.Replay.{called, doing, later_line, reading_of, replied_with, reply_text, unread}

-- ---- the frame

-- a frame that is sent has the length of the lent one
frame_length : (c : Config) (f : Fields) (frame : List ℕ) → length (frame_of c f frame) ≡ length frame
unfolding frame_of
frame_length c f frame =
    laid_length c.layout.cbv f.cbv c.layout.sni f.sni c.pn.start (user_start_of c) f.pn f.user frame

after_length : (ch : Channel) (x : calls.Call) (frame : List ℕ) → length (frame_after ch x frame) ≡ length frame
unfolding frame_after framed
after_length ch x frame = by_sent (replied ch x).sent
  where
    by_sent : (t : Bool)
        → length (cond t (framed ch.own.config (traffic_moved ch.own x) ch.own.requests ch.own.user frame) frame) ≡ length frame
    by_sent true = frame_length _ _ frame
    by_sent false = refl

-- ---- lines

reply_text_le : (n : ℕ) (r : Reply) (frame : List ℕ) {k : ℕ} → length frame ≡ k → length (reply_text n r frame) ≤ report_most + 2 * k
unfolding reply_text
reply_text_le n r frame e =
    let b = sent_bytes r.sent r.channel.own.config.layout.length frame in
    omega (arith, length_line n (digit_of (number_of r.answer)) (letter_of r.channel.own.mode.state) r.notes b, sent_le r.sent r.channel.own.config.layout.length frame)

reply_le : (run : Run) (k : Command) (bytes : List ℕ) → length (called run k bytes).text ≤ report_most + 2 * pdu_most
unfolding called replied_with carried_out_by
reply_le run k bytes =
    reply_text_le _ _ _ (after_length run.channel (call_for k bytes pdu_most) (replicate pdu_most 0))

unread_le : (run : Run) → length (unread run).text ≤ report_most
unfolding unread
unread_le run = bare_le _ _ _

pub later_le : (run : Run) (l : List ℕ) → length (later_line run l).text ≤ report_most + 2 * pdu_most
unfolding later_line
later_le run l = by_asked (reading_of l).asked (reading_of l).bytes
  where
    by_asked : (a : Option Command) (bytes : List ℕ) → length (doing run a bytes).text ≤ report_most + 2 * pdu_most
    by_asked None bytes = omega (arith, unread_le run)
    by_asked (Some k) bytes = reply_le run k bytes
