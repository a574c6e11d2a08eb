-- `tick::main_function_in_place` meets its contract. Assumes nothing.
use mathlib.Core.Path.{◌≡◌, sym, ◌∙◌}
use mathlib.Core.Bool.{◌&&◌, true, false}
use lib.ListN.{length}
use Rattle.std.proofs.lemmas.Result.{err_from_is_err_and}
use Rattle.decision.specs.Decision.{Call, main_function}
use Rattle.refusals.specs.Refusals.{is_done}
use Rattle.channel.specs.declared.state.Channel.{Channel}
use Rattle.channel.specs.Channel.{again_for, answer_of, carried_out, eira_after, era_after, frame_after, mode_after, notes_after, own_after, refused, replied, requests_after, rule_for, sends, ticked_by, traffic_after, traffic_moved, user_after}
use Rattle.channel.proofs.Carried.{answered, frame_sent, refusing}
use Rattle.tick.proofs.main_function_in_place.Goals as goal

pub returns-in_err-judge : goal.returns-in_err-judge
unfolding ticked_by frame_after refused
returns-in_err-judge c =
    let a = c.args in
    let ch : Channel = c.k.inside.channel in
    let tick : Call = main_function a.taken (length a.frame.now) in
    let answer : c.judge.result ≡ answer_of ch tick =
    answered ch tick c.judge.ensures (rw (c.is_sound-sound.ensures, ← c.k.view_is)) (rw (c.is_not_here.ensures, c.rule_of-rule.ensures)) in
    let p = err_from_is_err_and c.from_residual.result c.from_residual.ensures.1 in
    rw (p.1, p.2, ← c.k.view_is, refusing ch tick answer c.in_err-judge.was)

pub returns-then-sent : goal.returns-then-sent
unfolding ticked_by replied carried_out own_after notes_after mode_after traffic_after traffic_moved user_after requests_after era_after eira_after rule_for again_for sends
returns-then-sent c =
    let a = c.args in
    let ch : Channel = c.k.inside.channel in
    let tick : Call = main_function a.taken (length a.frame.now) in
    let answer : c.judge.result ≡ answer_of ch tick =
    answered ch tick c.judge.ensures (rw (c.is_sound-sound.ensures, ← c.k.view_is)) (rw (c.is_not_here.ensures, c.rule_of-rule.ensures)) in
    let done : is_done (answer_of ch tick) ≡ true = rw (← answer, c.in_ok-judge.was) in
    let due : (a.taken && c.is_due.result) ≡ sends ch.own tick =
    rw (c.is_due.ensures, c.traffic_by-x.ensures, c.setup_of-s.ensures, c.mode_by-after.ensures, c.rule_of-rule.ensures) in
    let sent : sends ch.own tick ≡ true = sym due ∙ c.if-sent.true in
    rw (
      ← c.k.view_is,
      frame_sent ch a.taken a.frame.now done sent,
      done,
      sent,
      c.if-sent.true,
      c.load_sent-ei.ensures.0,
      c.load_sent-ei.ensures.1,
      c.send.ensures,
      c.count_down-er.ensures.0,
      c.count_down-er.ensures.1,
      c.framing-k-inside.ensures,
      c.second_by-second.ensures,
      c.first_by-first.ensures,
      c.traffic_by-x.ensures,
      c.setup_of-s.ensures,
      c.mode_by-after.ensures,
      c.rule_of-rule.ensures,
    )

pub returns-else-sent : goal.returns-else-sent
unfolding ticked_by frame_after replied carried_out own_after notes_after mode_after traffic_after traffic_moved user_after requests_after era_after eira_after rule_for again_for sends
returns-else-sent c =
    let a = c.args in
    let ch : Channel = c.k.inside.channel in
    let tick : Call = main_function a.taken (length a.frame.now) in
    let answer : c.judge.result ≡ answer_of ch tick =
    answered ch tick c.judge.ensures (rw (c.is_sound-sound.ensures, ← c.k.view_is)) (rw (c.is_not_here.ensures, c.rule_of-rule.ensures)) in
    let done : is_done (answer_of ch tick) ≡ true = rw (← answer, c.in_ok-judge.was) in
    let due : (a.taken && c.is_due.result) ≡ sends ch.own tick =
    rw (c.is_due.ensures, c.traffic_by-x.ensures, c.setup_of-s.ensures, c.mode_by-after.ensures, c.rule_of-rule.ensures) in
    let sent : sends ch.own tick ≡ false = sym due ∙ c.if-sent.false in
    rw (
      ← c.k.view_is,
      done,
      sent,
      c.if-sent.false,
      c.count_down-ei.ensures.0,
      c.count_down-ei.ensures.1,
      c.count_down-er.ensures.0,
      c.count_down-er.ensures.1,
      c.framing-k-inside.ensures,
      c.second_by-second.ensures,
      c.first_by-first.ensures,
      c.traffic_by-x.ensures,
      c.setup_of-s.ensures,
      c.mode_by-after.ensures,
      c.rule_of-rule.ensures,
    )
