-- The whole channel: every state reached is sound, so that answer 1 is never given, and its mode runs as the mode alone.
-- Assumes nothing.
use Rattle.std.specs.Prelude.{Ok}
use Prim.Native.Nat.{ℕ, zero, suc}
use mathlib.Core.Path.{◌≡◌, refl, sym, ◌∙◌}
use mathlib.Core.Bool.{Bool, true, false, cond, not, ◌&&◌}
use mathlib.Core.List.{List}
use native.Mathlib.Omega.{arith}
use lib.Dec.{ltb}
use lib.ListN.{take, drop}
use borrow.Author.Tests.{le-leb, eq-eqb}
use Rattle.timers.specs.Timers.{counted_down, loaded_where}
use Rattle.timers.proofs.Timers.{within_counted_down}
use Rattle.config.specs.declared.Config.{Config}
use Rattle.config.specs.Times.{Ticks}
use Rattle.rules.specs.Rules.{first_broken}
use Rattle.time_rules.specs.TimeRules.{ticks_for}
use Rattle.filter.specs.Filter.{informs}
use Rattle.states.specs.declared.Mode.{Mode}
use Rattle.states.specs.declared.Traffic.{Traffic}
use Rattle.traffic.specs.declared.Setup.{Setup}
use Rattle.states.specs.State.{in_network, is_normal, is_repeat, settled}
use Rattle.decision.specs.Decision.{
  Call,
  network_request,
  network_release,
  passive_start_up,
  repeat_message_request,
  disable_communication,
  enable_communication,
  tx_confirmation,
  rx_indication,
  confirm_pn_availability,
  set_user_data,
  set_pn_requests,
  status,
  main_function,
}
use Rattle.traffic.specs.Traffic.{setup_of}
use Rattle.sending.specs.Sending.{framing}
use Rattle.kept_ticks.specs.KeptTicks.{configured, same_ticks}
use Rattle.conditions.specs.Conditions.{mode_sound, only, passive_sound}
use Rattle.soundness.specs.Sound.{scalars_sound, timers_sound}
use Rattle.heard.specs.Heard.{accepted, cbv_of, loaded_by, pn_of}
use Rattle.frames.specs.Frames.{sent_loaded}
use Rattle.refusals.specs.Refusals.{refusal, refused_passive, is_done}
use Rattle.channel.specs.declared.state.Own.{Own}
use Rattle.channel.specs.declared.state.Channel.{Channel}
use Rattle.channel.specs.Channel.{answer_of, carried_out, eira_after, era_after, heard_by, is_taken, is_tick, mode_after, own_after, refused, replied, sends, sound, traffic_after, traffic_moved}
use Rattle.sleep.specs.Summary.{Summary, requested_after, sending_after, turned, summarised}
use Rattle.sleep.proofs.Simulation.{Fit, Together, asleep, waiting, live, held, clash}
use Rattle.sleep.proofs.Entering as entering
use Rattle.sleep.proofs.Entering.{mode_step, cleared, done, moved}
use Rattle.sleep.proofs.Quieting.{same}
use Rattle.sleep.proofs.Passing.{Tuned}
use Rattle.sleep.proofs.PnTimers.{loaded_within, part_short}
use Rattle.sleep.proofs.Traffic.{TrafficOk, framed_ok, never, only_right, traffic_sound_law}
use Rattle.sleep.proofs.Kept.{Meek, moved_part, traffic_kept}

-- ---- from the facts to the tests

mode_sound_law : {t : Ticks} {m : Mode} {b : Summary} → Together t m b → mode_sound t m ≡ true
unfolding mode_sound
mode_sound_law (asleep l) = refl
mode_sound_law {t} (waiting {w = w} p u e) = rw (le-leb 1 w p, le-leb w t.wait u)
mode_sound_law {t} (live {r = true} {n = n} {q = zero} p e l) = rw (le-leb 1 n p, le-leb n t.timeout (omega arith))
mode_sound_law {t} (live {r = false} {n = n} {q = zero} p e l) = rw (le-leb 1 n p, le-leb n t.timeout (omega arith))
mode_sound_law {t} (live {r = true} {n = n} {q = suc q} p e l) =
    rw (le-leb 1 n p, le-leb n t.timeout (omega arith), le-leb 1 (suc q) (omega arith), le-leb (suc q) t.repeat l)
mode_sound_law {t} (live {r = false} {n = n} {q = suc q} p e l) =
    rw (le-leb 1 n p, le-leb n t.timeout (omega arith), le-leb 1 (suc q) (omega arith), le-leb (suc q) t.repeat l)
mode_sound_law {t} (held {r = true} {n = n} {q = zero} p e l) = rw (le-leb 1 n p, le-leb n t.timeout e)
mode_sound_law {t} (held {r = false} {n = n} {q = zero} p e l) = rw (le-leb 1 n p, le-leb n t.timeout e)
mode_sound_law {t} (held {r = true} {n = n} {q = suc q} p e l) =
    rw (le-leb 1 n p, le-leb n t.timeout e, le-leb 1 (suc q) (omega arith), le-leb (suc q) t.repeat l)
mode_sound_law {t} (held {r = false} {n = n} {q = suc q} p e l) =
    rw (le-leb 1 n p, le-leb n t.timeout e, le-leb 1 (suc q) (omega arith), le-leb (suc q) t.repeat l)

not_normal : {t : Ticks} {m : Mode} {b : Summary} → Together t m b → b.requested ≡ false → is_normal m.state ≡ false
not_normal (asleep l) e = refl
not_normal (waiting p u w) e = refl
not_normal (live {r = true} {q = zero} p u l) e = e
not_normal (live {r = false} {q = zero} p u l) e = refl
not_normal (live {q = suc q} p u l) e = refl
not_normal (held {r = true} {q = zero} p u l) e = e
not_normal (held {r = false} {q = zero} p u l) e = refl
not_normal (held {q = suc q} p u l) e = refl

passive_sound_law : {t : Ticks} {m : Mode} {b : Summary} (s : Setup) (p : Bool) (x : Traffic) → s.passive ≡ p → Together t m b
    → Meek p b.requested b.sending → TrafficOk s m.state x → passive_sound p m x ≡ true
unfolding passive_sound
passive_sound_law s false x e y k o = refl
passive_sound_law {m = m} {b} s true x e y k o =
    let r = k.unasked refl in
    let q = same y in
    rw (
      sym q.0 ∙ r,
      sym q.1 ∙ k.sends refl,
      off x.indicated (settled m.state && ltb 0 s.ticks.remote) o.indicated,
      not_normal y r,
      off x.repeating (is_repeat m.state) o.repeating,
      off x.waking (in_network m.state) o.waking,
    )
  where
    off : (f d : Bool) → only f (d && not s.passive) ≡ true → f ≡ false
    off f d h = never f (rw e at (only_right f d (not s.passive) h))

same_self : (t : Ticks) → same_ticks t t ≡ true
same_self t =
    rw (
      eq-eqb t.timeout t.timeout refl,
      eq-eqb t.wait t.wait refl,
      eq-eqb t.repeat t.repeat refl,
      eq-eqb t.cycle t.cycle refl,
      eq-eqb t.offset t.offset refl,
      eq-eqb t.fast t.fast refl,
      eq-eqb t.remote t.remote refl,
      eq-eqb t.reset t.reset refl,
    )

-- ---- the PN timers

heard_within : (o : Own) (ts : List ℕ) (x : Call) → timers_sound o.config o.ticks ts ≡ true
    → timers_sound o.config o.ticks (heard_by o ts x) ≡ true
unfolding heard_by loaded_by
heard_within o ts network_request h = h
heard_within o ts network_release h = h
heard_within o ts passive_start_up h = h
heard_within o ts repeat_message_request h = h
heard_within o ts disable_communication h = h
heard_within o ts enable_communication h = h
heard_within o ts (tx_confirmation good) h = h
heard_within o ts (rx_indication pdu) h = go (accepted o.config o.mode.filter pdu) (informs (cbv_of o.config pdu))
  where
    c : Config
    c = o.config

    go : (a b : Bool)
        → timers_sound c o.ticks (cond a (cond b (loaded_where (pn_of c pdu) c.pn.mask o.ticks.reset ts) ts) ts) ≡ true
    go true true =
        loaded_within (pn_of c pdu) c.pn.mask c.pn.length o.ticks.reset ts (part_short c.pn.length (drop c.pn.start pdu)) h
    go true false = h
    go false b = h
heard_within o ts confirm_pn_availability h = h
heard_within o ts (set_user_data bytes) h = h
heard_within o ts (set_pn_requests bytes) h = h
heard_within o ts status h = h
heard_within o ts (main_function taken room) h = h

era_within : (o : Own) (x : Call) → timers_sound o.config o.ticks o.era ≡ true
    → timers_sound o.config o.ticks (era_after o x) ≡ true
unfolding era_after
era_within o x h = go (is_tick x)
  where
    go : (a : Bool) → timers_sound o.config o.ticks (cond a (counted_down o.era) (heard_by o o.era x)) ≡ true
    go true = within_counted_down _ _ _ h
    go false = heard_within o o.era x h

eira_within : (o : Own) (ts : List ℕ) (x : Call) → timers_sound o.config o.ticks ts ≡ true
    → timers_sound o.config o.ticks (eira_after o ts x) ≡ true
unfolding eira_after sent_loaded
eira_within o ts x h = go (is_tick x) (sends o x)
  where
    c : Config
    c = o.config

    go : (a b : Bool)
        → timers_sound c o.ticks
        (cond a
        (cond b (loaded_where (take c.pn.length o.requests) c.pn.mask o.ticks.reset (counted_down ts)) (counted_down ts))
        (heard_by o ts x))
        ≡ true
    go true true =
        loaded_within (take c.pn.length o.requests) c.pn.mask c.pn.length o.ticks.reset (counted_down ts)
        (part_short c.pn.length o.requests)
        (within_counted_down _ _ _ h)
    go true false = within_counted_down _ _ _ h
    go false b = heard_within o ts x h

-- ---- the flags of a passive channel

meek_turned : (c : Config) (x : Call) {r e : Bool} → refused_passive c x ≡ false → Meek c.passive r e
    → Meek c.passive (requested_after r x) (sending_after e x)
meek_turned c network_request z k = record { unasked = λ h. clash (sym h ∙ z); sends = k.sends }
meek_turned c network_release z k = record { unasked = λ h. refl; sends = k.sends }
meek_turned c passive_start_up z k = k
meek_turned c repeat_message_request z k = k
meek_turned c disable_communication z k = record { unasked = k.unasked; sends = λ h. clash (sym h ∙ z) }
meek_turned c enable_communication z k = record { unasked = k.unasked; sends = λ h. refl }
meek_turned c (tx_confirmation good) z k = k
meek_turned c (rx_indication pdu) z k = k
meek_turned c confirm_pn_availability z k = k
meek_turned c (set_user_data bytes) z k = k
meek_turned c (set_pn_requests bytes) z k = k
meek_turned c status z k = k
meek_turned c (main_function taken room) z k = k

-- ---- the invariant

abbrev channel_of : Config → Ticks → Mode → Traffic → List ℕ → List ℕ → List ℕ → List ℕ → Channel
channel_of c t m x user requests era eira =
    record {
      own = record { config = c; ticks = t; mode = m; traffic = x; user = user; requests = requests; era = era };
      eira = eira;
    }

pub data Whole (c : Config) (t : Ticks) : Channel → Summary → Type 0 where
  whole : {m : Mode} {x : Traffic} {user requests era eira : List ℕ} {b : Summary} → Together t m b
      → Meek c.passive b.requested b.sending → TrafficOk (setup_of c t) m.state x → timers_sound c t era ≡ true
      → timers_sound c t eira ≡ true → Whole c t (channel_of c t m x user requests era eira) b

-- a configuration that passes, with its ticks
pub record Passed (c : Config) (t : Ticks) : Type 0 where
  pub passes : first_broken c ≡ Ok tt
  pub ticks : t ≡ ticks_for c
  pub fit : Fit t
  pub tuned : Tuned t (setup_of c t).immediate

pub is_sound : {c : Config} {t : Ticks} → Passed c t → {ch : Channel} {b : Summary} → Whole c t ch b → sound ch ≡ true
unfolding sound scalars_sound configured setup_of
is_sound {c} {t} g (whole {m} {x} y k o e i) =
    rw (
      g.passes,
      ← g.ticks,
      same_self t,
      mode_sound_law y,
      traffic_sound_law (setup_of c t) m.state x o,
      passive_sound_law (setup_of c t) c.passive x refl y k o,
      e,
      i,
    )

carried_mode : (ch : Channel) (x : Call) → (carried_out ch x).channel.own.mode ≡ mode_after ch.own.config ch.own.ticks ch.own.mode x
unfolding carried_out own_after
carried_mode ch x = refl

-- one call that is answered 0
on : {c : Config} {t : Ticks} → Passed c t → {ch : Channel} {b : Summary} → Whole c t ch b → (x : Call)
    → is_done (refusal c ch.own.mode.state x) ≡ true
    → Whole c t (carried_out ch x).channel (turned c t ch.own.mode.state b x)
unfolding carried_out own_after turned traffic_after traffic_moved setup_of
on {c} {t} g {b = b} (whole {m} {x = tr} {user} {requests} {era} {eira} y k o e i) x z =
    let w = cleared c m.state x z in
    whole (moved g.fit c y x z) (meek_turned c x w.0 k) (traffic (is_tick x)) (era_within own x e) (eira_within own eira x i)
  where
    own : Own
    own = record { config = c; ticks = t; mode = m; traffic = tr; user = user; requests = requests; era = era }

    part : TrafficOk (setup_of c t) (mode_after c t m x).state (moved_part c t m x tr)
    part = let w = cleared c m.state x z in traffic_kept c t g.tuned x tr y k w.0 w.1 o

    traffic : (a : Bool)
        → TrafficOk (setup_of c t) (mode_after c t m x).state
        (cond a (framing (setup_of c t) (mode_after c t m x) (is_taken x) (moved_part c t m x tr)) (moved_part c t m x tr))
    traffic true = framed_ok (setup_of c t) g.tuned (mode_after c t m x).state (mode_after c t m x) (is_taken x) (moved_part c t m x tr) refl part
    traffic false = part

-- one call: the invariant, and the mode as the mode alone
pub step_whole : {c : Config} {t : Ticks} → Passed c t → {ch : Channel} {b : Summary} → Whole c t ch b → (x : Call)
    → Whole c t (replied ch x).channel (summarised c t b x) × ((replied ch x).channel.own.mode ≡ mode_step c t ch.own.mode x)
unfolding replied answer_of refused
step_whole {c} {t} g {b = b} (whole {m} {x = tr} {user} {requests} {era} {eira} y k o e i) x =
    rw (is_sound g (whole {x = tr} {user = user} {requests = requests} {era = era} {eira = eira} y k o e i)) (go (is_done (refusal c m.state x)) refl)
  where
    ch : Channel
    ch = channel_of c t m tr user requests era eira

    w : Whole c t ch b
    w = whole y k o e i

    go : (a : Bool) → is_done (refusal c m.state x) ≡ a
        → Whole c t (cond a (carried_out ch x) (refused ch (refusal c m.state x))).channel (summarised c t b x)
        × ((cond a (carried_out ch x) (refused ch (refusal c m.state x))).channel.own.mode ≡ mode_step c t m x)
    go true d = let q = done g.fit c y x d in rw (q.0, q.1) (on g w x d, carried_mode ch x)
    go false d = let q = entering.refused g.fit c y x d in rw (q.0, q.1) (w, refl)
