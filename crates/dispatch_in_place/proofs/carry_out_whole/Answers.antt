-- `dispatch_in_place::carry_out_whole` meets its contract. Assumes nothing.
use mathlib.Core.Path.{◌≡◌, ap}
use Rattle.channel.specs.Channel.{Ticked}
use Rattle.channel.specs.Told.{reply_of}
use Rattle.channel.proofs.Carried.{keeps, told_again}
use Rattle.dispatch.specs.Calls.{carried_out_by}
use Rattle.dispatch_in_place.proofs.carry_out_whole.Goals as goal

pub invariant_of-k : goal.invariant_of-k
unfolding carried_out_by
invariant_of-k c =
    rw (ap (λ (t : Ticked). t.reply) c.carry_out-r.ensures, (keeps c.k.inside.channel _).config, (keeps c.k.inside.channel _).ticks) c.k.invariant

pub returns : goal.returns
unfolding carried_out_by
returns c =
    let r = c.carry_out-r in
    let whole : reply_of r.result.channel c.told.result ≡ r.result =
    rw (c.told.ensures, ap (λ (t : Ticked). t.reply) r.ensures) (told_again c.k.inside.channel _) in
    rw (whole, ← c.k.view_is) r.ensures
