-- What a line behind the configuration comes to: the run after it, and the text that it prints. Assumes nothing.
use Rattle.std.specs.Prelude.{List, ℕ, Result, Ok, Err, false, replicate}
use Rattle.answers.specs.declared.Refusal.{Refusal}
use Rattle.answers.specs.Answers.{number_of}
use Rattle.channel.specs.declared.state.Channel.{Channel}
use Rattle.channel.specs.declared.state.Reply.{Reply}
use Rattle.channel.specs.declared.state.Told.{Told}
use Rattle.channel.specs.Channel.{Ticked}
use Rattle.command_names.specs.declared.Command.{Command}
use Rattle.std.specs.Prelude.{Option, Some, None}
use Rattle.commands.specs.Commands.{Reading, reading}
use Rattle.config.specs.Ranges.{pdu_most}
use Rattle.report.specs.Report.{letter_of, line_text}
use Rattle.dispatch.specs.Calls.{call_for, carried_out_by}
use Rattle.runs.specs.declared.Phase.TheVariants.{Running}
use Rattle.runs.specs.declared.Run.{Run}
use Rattle.runs.specs.Runs.{Outcome, bare_text, counted, digit_of, outcome, passed, quiet, run_of, sent_bytes, unreadable_digit}

-- ---- a channel that is kept

-- a run in its calls
abbrev pub run_in : ℕ → Channel → Run
run_in n ch = run_of Running n ch

-- ---- replies

-- the line of a reply, with the lent frame after the call
unfoldable pub reply_text : ℕ → Reply → List ℕ → List ℕ
reply_text n r frame =
    line_text n (digit_of (number_of r.answer)) (letter_of r.channel.own.mode.state) r.notes
    (sent_bytes r.sent r.channel.own.config.layout.length frame)

-- what a line shows of what a call told: refused, no note and no frame
abbrev pub shown : Result Told Refusal → Told
shown (Ok told) = told
shown (Err refusal) = record { notes = quiet; sent = false }

-- ---- lines behind the configuration

-- room for the bytes of any line
abbrev pub bytes_most : ℕ
bytes_most = 40

-- what such a line asks, with its bytes
abbrev pub reading_of : List ℕ → Reading
reading_of l = reading l (replicate bytes_most 0)

-- a call that was carried out or refused
unfoldable pub replied_with : Run → Ticked → Outcome
replied_with run t =
    outcome (run_of Running (counted run.lines) t.reply.channel) (reply_text (counted run.lines) t.reply t.frame)

unfoldable pub called : Run → Command → List ℕ → Outcome
called run k bytes =
    replied_with run (carried_out_by run.channel (call_for k bytes pdu_most) (replicate pdu_most 0))

-- a line that can't be read prints 7 with the state, and changes nothing
unfoldable pub unread : Run → Outcome
unread run =
    outcome (passed run Running) (bare_text (counted run.lines) unreadable_digit (letter_of run.channel.own.mode.state))

abbrev pub doing : Run → Option Command → List ℕ → Outcome
doing run None bytes = unread run
doing run (Some k) bytes = called run k bytes

unfoldable pub later_line : Run → List ℕ → Outcome
later_line run l = doing run (reading_of l).asked (reading_of l).bytes
