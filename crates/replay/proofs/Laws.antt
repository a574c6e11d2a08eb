-- Laws of a line behind the configuration. Assumes nothing.
use mathlib.Core.Path.{◌≡◌, refl}
use mathlib.Core.List.{List}
use Prim.Native.Nat.{ℕ}
use Rattle.command_names.specs.declared.Command.{Command}
use Rattle.std.specs.Prelude.{Option, Some, None, Result, Ok, Err}
use Rattle.answers.specs.declared.Refusal.{Refusal}
use Rattle.answers.specs.Answers.{answer_to}
use Rattle.channel.specs.declared.state.Channel.{Channel}
use Rattle.channel.specs.declared.state.Told.{Told}
use Rattle.channel.specs.Channel.{refused}
use Rattle.channel.specs.Told.{reply_of}
use Rattle.runs.specs.declared.Phase.TheVariants.{Running}
use Rattle.runs.specs.declared.Run.{Run}
use Rattle.runs.specs.Runs.{passed, run_of}
use Rattle.replay.specs.Replay.{called, doing, later_line, reading_of, replied_with, shown, unread}

-- a line behind the configuration does not look at the phase
pub later_running : (run : Run) (l : List ℕ) → later_line (run_of Running run.lines run.channel) l ≡ later_line run l
unfolding later_line called replied_with unread passed
later_running run l = by_asked (reading_of l).asked
  where
    by_asked : (a : Option Command) → doing (run_of Running run.lines run.channel) a (reading_of l).bytes ≡ doing run a (reading_of l).bytes
    by_asked None = refl
    by_asked (Some k) = refl

-- a reply has the answer and what the line shows
pub reply_shown : (ch : Channel) (told : Result Told Refusal)
    → reply_of ch told ≡ record { channel = ch; answer = answer_to told; notes = (shown told).notes; sent = (shown told).sent }
unfolding refused
reply_shown ch (Ok told) = refl
reply_shown ch (Err refusal) = refl
