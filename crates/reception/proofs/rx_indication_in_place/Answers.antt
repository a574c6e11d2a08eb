-- `reception::rx_indication_in_place` meets its contract. Assumes nothing.
use mathlib.Core.Path.{◌≡◌, sym, ◌∙◌}
use mathlib.Core.Bool.{true, false}
use Rattle.std.proofs.lemmas.Result.{err_from_is_err_and}
use Rattle.decision.specs.Decision.{Call, rx_indication}
use Rattle.refusals.specs.Refusals.{is_done}
use Rattle.heard.specs.Heard.{accepted}
use Rattle.channel.specs.declared.state.Channel.{Channel}
use Rattle.channel.specs.Channel.{again_for, answer_of, carried_out, eira_after, era_after, heard_by, mode_after, notes_after, own_after, replied, requests_after, rule_for, sends, traffic_after, traffic_moved, user_after}
use Rattle.channel.proofs.Carried.{answered, dropped_carried, refusing}
use Rattle.channel.specs.Moved.{moved_by}
use Rattle.reception.proofs.rx_indication_in_place.Goals as goal

pub returns-in_err-judge : goal.returns-in_err-judge
returns-in_err-judge c =
    let ch : Channel = c.k.inside.channel in
    let call : Call = rx_indication c.args.pdu.now in
    let answer : c.judge.result ≡ answer_of ch call =
    answered ch call c.judge.ensures (rw (c.is_sound-sound.ensures, ← c.k.view_is)) (rw (c.is_not_here.ensures, c.rule_of-rule.ensures)) in
    let p = err_from_is_err_and c.from_residual.result c.from_residual.ensures.1 in
    rw (p.1, p.2, ← c.k.view_is, refusing ch call answer c.in_err-judge.was)

pub returns-then-not-accepted : goal.returns-then-not-accepted
unfolding replied
returns-then-not-accepted c =
    let ch : Channel = c.k.inside.channel in
    let pdu = c.args.pdu.now in
    let call : Call = rx_indication pdu in
    let answer : c.judge.result ≡ answer_of ch call =
    answered ch call c.judge.ensures (rw (c.is_sound-sound.ensures, ← c.k.view_is)) (rw (c.is_not_here.ensures, c.rule_of-rule.ensures)) in
    let done : is_done (answer_of ch call) ≡ true = rw (← answer, c.in_ok-judge.was) in
    rw (← c.k.view_is, done, c.move_by.ensures.moves) (dropped_carried ch pdu (sym c.accepted.ensures ∙ c.if-not-accepted.true))

pub returns : goal.returns
unfolding replied carried_out own_after notes_after mode_after traffic_after traffic_moved user_after requests_after era_after eira_after heard_by sends rule_for again_for moved_by
returns c =
    let ch : Channel = c.k.inside.channel in
    let pdu = c.args.pdu.now in
    let call : Call = rx_indication pdu in
    let answer : c.judge.result ≡ answer_of ch call =
    answered ch call c.judge.ensures (rw (c.is_sound-sound.ensures, ← c.k.view_is)) (rw (c.is_not_here.ensures, c.rule_of-rule.ensures)) in
    let done : is_done (answer_of ch call) ≡ true = rw (← answer, c.in_ok-judge.was) in
    let heard : accepted ch.own.config ch.own.mode.filter pdu ≡ true = sym c.accepted.ensures ∙ c.if-not-accepted.false in
    rw (
      ← c.k.view_is,
      done,
      heard,
      c.move_by-2.ensures.moves,
      c.load_heard-ei.ensures.0,
      c.load_heard-ei.ensures.1,
      c.load_heard-er.ensures.0,
      c.load_heard-er.ensures.1,
      c.asks_repeat-again.ensures,
      c.rule_of-rule.ensures,
    )
