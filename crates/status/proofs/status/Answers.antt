-- `status::status` meets its contract. Assumes nothing.
use mathlib.Core.Path.{◌≡◌}
use Rattle.decision.specs.Decision.{status}
use Rattle.channel.specs.Channel.{answer_of, shown, status_of}
use Rattle.channel.proofs.Carried.{answered}
use Rattle.status.proofs.status.Goals as goal

pub returns-then-is_ok : goal.returns-then-is_ok
unfolding status_of shown
returns-then-is_ok c =
    let answer : c.judge-a.result ≡ answer_of c.args.ch status =
    answered c.args.ch status c.judge-a.ensures c.is_sound-sound.ensures (rw (c.is_not_here-elsewhere.ensures, c.rule_of.ensures)) in
    rw (
      c.state_number.ensures,
      c.lowest_of-lowest.ensures,
      c.count_ones-count.ensures,
      c.vector_of-eira.ensures,
      c.vector_of-era.ensures,
      ← answer,
      ← c.is_ok.ensures.value,
      c.if-is_ok.true,
    )

pub returns : goal.returns
unfolding status_of
returns c =
    let answer : c.judge-a.result ≡ answer_of c.args.ch status =
    answered c.args.ch status c.judge-a.ensures c.is_sound-sound.ensures (rw (c.is_not_here-elsewhere.ensures, c.rule_of.ensures)) in
    rw (c.unshown.ensures, ← answer, ← c.is_ok.ensures.value, c.if-is_ok.false)
