-- What a call tells besides the channel that it leaves, or its refusal. Assumes nothing.
use Rattle.std.specs.Prelude.{Bool, Result, Ok, Err}
use Rattle.answers.specs.declared.Refusal.{Refusal}
use Rattle.answers.specs.Answers.{Answer, Done}
use Rattle.channel.specs.declared.state.Channel.{Channel}
use Rattle.channel.specs.declared.state.Notes.{Notes}
use Rattle.channel.specs.declared.state.Reply.{Reply}
use Rattle.channel.specs.declared.state.Told.{Told}
use Rattle.channel.specs.Channel.{refused}

-- the reply of a call that left this channel
abbrev pub reply_of : Channel → Result Told Refusal → Reply
reply_of ch (Ok told) = record { channel = ch; answer = Done; notes = told.notes; sent = told.sent }
reply_of ch (Err refusal) = refused ch (Err refusal)

-- what a reply tells
abbrev pub told_by : Answer → Notes → Bool → Result Told Refusal
told_by (Ok done) notes sent = Ok (record { notes = notes; sent = sent })
told_by (Err refusal) notes sent = Err refusal

abbrev pub told_of : Reply → Result Told Refusal
told_of r = told_by r.answer r.notes r.sent
