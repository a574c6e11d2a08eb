-- A reply is the call carried out, or its refusal. Assumes nothing.
use mathlib.Core.Path.{◌≡◌, refl, ◌∙◌}
use mathlib.Core.Bool.{Bool, true, false, cond}
use mathlib.Core.List.{List}
use Prim.Native.Nat.{ℕ}
use Rattle.std.specs.Prelude.{Ok, Err}
use Rattle.answers.specs.declared.Refusal.{Refusal}
use Rattle.answers.specs.Answers.{Answer}
use Rattle.channel.specs.declared.state.Channel.{Channel}
use Rattle.channel.specs.declared.state.Reply.{Reply}
use Rattle.decision.specs.declared.Rule.TheVariants.{Keep}
use lib.ListN.{length}
use Rattle.decision.specs.Decision.{Call, call_number, is_not_here, main_function, rule_of, rx_indication}
use Rattle.frames.specs.Frames.{framed}
use Rattle.heard.specs.Heard.{accepted}
use Rattle.mode_transitions.specs.ModeTransitions.{mode_by}
use Rattle.notes.specs.Notes.{first_by, second_by}
use Rattle.refusals.specs.Refusals.{first_of, is_done, judged, refusal, refused_length, refused_passive, refused_pn_off}
use Rattle.traffic_transitions.specs.TrafficTransitions.{traffic_by}
use Rattle.vectors.proofs.Vectors.{differs_not}
use Rattle.channel.specs.Channel.{again_for, answer_of, carried_out, eira_after, era_after, frame_after, heard_by, is_taken, mode_after, notes_after, own_after, refused, replied, requests_after, rule_for, sends, sound, traffic_after, traffic_moved, user_after}
use Rattle.channel.specs.Moved.{moved_by}
use Rattle.channel.specs.Told.{reply_of, told_of}

-- the answer of a call, by what the code tests of it
pub answered : (ch : Channel) (x : Call) {a : Answer} {ok here : Bool} → let c = ch.own.config in
    a ≡ judged ok (first_of (refused_passive c x) (refused_pn_off c x) here (refused_length c x))
    → ok ≡ sound ch → here ≡ is_not_here (rule_of ch.own.mode.state (call_number x)) → a ≡ answer_of ch x
unfolding answer_of refusal
answered ch x j s h = rw (j, s, h)

-- a call that is refused
pub refusing : (ch : Channel) (x : Call) {a : Answer} {r : Refusal} → a ≡ answer_of ch x → a ≡ Err r → replied ch x ≡ refused ch (Err r)
unfolding replied
refusing ch x e w = rw (← e, w)

pub carried : (ch : Channel) (x : Call) {a : Answer} {r : Reply} {t : Bool} → a ≡ answer_of ch x → t ≡ is_done a → t ≡ true
    → r ≡ carried_out ch x → r ≡ replied ch x
unfolding replied
carried ch x e d h w = w ∙ rw (← e, ← d, h)

pub not_carried : (ch : Channel) (x : Call) {a : Answer} {r : Reply} {t : Bool} → a ≡ answer_of ch x → t ≡ is_done a → t ≡ false
    → r ≡ refused ch a → r ≡ replied ch x
unfolding replied
not_carried ch x e d h w = w ∙ rw (← e, ← d, h)

-- a PDU that is dropped changes nothing
pub dropped_carried : (ch : Channel) (pdu : List ℕ) → accepted ch.own.config ch.own.mode.filter pdu ≡ false
    → moved_by ch Keep false false false ≡ carried_out ch (rx_indication pdu)
unfolding carried_out own_after notes_after mode_after traffic_after traffic_moved user_after requests_after era_after eira_after heard_by sends rule_for again_for moved_by mode_by traffic_by first_by second_by
dropped_carried ch pdu e = rw (e, differs_not ch.eira, differs_not ch.own.era)

-- a tick that sends a frame fills the lent one
pub frame_sent : (ch : Channel) (taken : Bool) (frame : List ℕ) → let x = main_function taken (length frame) in
    is_done (answer_of ch x) ≡ true → sends ch.own x ≡ true
    → frame_after ch x frame ≡ framed ch.own.config (traffic_moved ch.own x) ch.own.requests ch.own.user frame
unfolding frame_after replied carried_out
frame_sent ch taken frame d s = rw (d, s)

-- a call that takes no frame sends none, and the lent one stays
pub sent_not : (ch : Channel) (x : Call) → is_taken x ≡ false → (replied ch x).sent ≡ false
unfolding replied carried_out refused sends
sent_not ch x e = go (is_done (answer_of ch x))
  where
    go : (d : Bool) → (cond d (carried_out ch x) (refused ch (answer_of ch x))).sent ≡ false
    go true = rw e
    go false = refl

pub frame_kept : (ch : Channel) (x : Call) (frame : List ℕ) → is_taken x ≡ false → frame_after ch x frame ≡ frame
unfolding frame_after
frame_kept ch x frame e = rw (sent_not ch x e)

-- a call changes neither the configuration nor its ticks
pub record Keeps (ch : Channel) (r : Reply) : Type 0 where
  pub config : r.channel.own.config ≡ ch.own.config
  pub ticks : r.channel.own.ticks ≡ ch.own.ticks

pub keeps : (ch : Channel) (x : Call) → Keeps ch (replied ch x)
unfolding replied carried_out own_after refused
keeps ch x = go (is_done (answer_of ch x))
  where
    go : (d : Bool) → Keeps ch (cond d (carried_out ch x) (refused ch (answer_of ch x)))
    go true = record { config = refl; ticks = refl }
    go false = record { config = refl; ticks = refl }

-- a reply is its channel and what it tells
pub told_again : (ch : Channel) (x : Call) → reply_of (replied ch x).channel (told_of (replied ch x)) ≡ replied ch x
unfolding replied carried_out refused
told_again ch x = go (answer_of ch x)
  where
    go : (a : Answer) → (let r = cond (is_done a) (carried_out ch x) (refused ch a) in reply_of r.channel (told_of r) ≡ r)
    go (Ok done) = refl
    go (Err refusal) = refl
