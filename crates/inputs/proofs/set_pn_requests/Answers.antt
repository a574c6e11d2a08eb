-- `inputs::set_pn_requests` meets its contract. Assumes nothing.
use Rattle.decision.specs.Decision.{set_pn_requests}
use Rattle.channel.specs.Channel.{again_for, carried_out, eira_after, era_after, heard_by, mode_after, notes_after, own_after, requests_after, rule_for, sends, traffic_after, traffic_moved, user_after}
use Rattle.channel.specs.Moved.{moved_by}
use Rattle.channel.proofs.Carried.{answered, carried, not_carried}
use Rattle.vectors.proofs.Vectors.{differs_not}
use Rattle.inputs.proofs.set_pn_requests.Goals as goal

pub returns-then-is_ok : goal.returns-then-is_ok
unfolding carried_out own_after notes_after mode_after traffic_after traffic_moved user_after requests_after era_after eira_after heard_by sends rule_for again_for moved_by
returns-then-is_ok c =
    let a = c.args in
    let e = answered a.ch (set_pn_requests a.bytes.now) c.judge-a.ensures c.is_sound-sound.ensures (rw (c.is_not_here.ensures, c.rule_of-rule.ensures)) in
    carried a.ch (set_pn_requests a.bytes.now) e c.is_ok.ensures.value c.if-is_ok.true
    (rw (c.moved.ensures, c.copy.ensures, c.rule_of-rule.ensures, differs_not a.ch.eira, differs_not a.ch.own.era))

pub returns : goal.returns
returns c =
    let a = c.args in
    let e = answered a.ch (set_pn_requests a.bytes.now) c.judge-a.ensures c.is_sound-sound.ensures (rw (c.is_not_here.ensures, c.rule_of-rule.ensures)) in
    not_carried a.ch (set_pn_requests a.bytes.now) e c.is_ok.ensures.value c.if-is_ok.false c.refused.ensures
