-- `replay::called` meets its contract. Assumes nothing.
use mathlib.Core.Path.{refl, ap}
use lib.ListN.{length}
use native.Mathlib.Omega.{arith}
use Rattle.replay.specs.Replay.{called, replied_with, reply_text, shown}
use Rattle.runs.proofs.Laws.{sent_le}
use Rattle.replay.proofs.Laws.{reply_shown}
use Rattle.replay.proofs.called.Goals as goal

pub returns : goal.returns
unfolding called replied_with reply_text
returns c =
    rw (← c.carry_out_in_place-told.ensures, reply_shown _ c.carry_out_in_place-told.result) (record {
      run = refl;
      text = rw (c.letter.ensures, c.digit-answer.ensures, c.answer_to.ensures, c.counted.ensures, c.sent_bytes.ensures, c.shown-told.ensures, c.k.view_is) at c.put.ensures;
    })

pub put-requires : goal.put-requires
put-requires c =
    let r = c.carry_out_in_place-told in
    omega (arith, c.requires, ap length (rw c.shown-told.ensures at c.sent_bytes.ensures), sent_le (shown r.result).sent c.k.inside.channel.own.config.layout.length r.new.frame)
