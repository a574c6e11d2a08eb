-- A quiet list of calls brings a channel that is released and enabled to Bus-Sleep. Assumes nothing.
use Prim.Native.Nat.{ℕ, zero, suc, ◌+◌, ◌-◌, ◌≤◌}
use mathlib.Core.Path.{◌≡◌, refl}
use mathlib.Core.Bool.{Bool, true, false, cond, ◌&&◌, ◌||◌}
use mathlib.Core.List.{List, [], ◌∷◌, ◌++◌}
use native.Mathlib.Omega.{arith}
use lib.Dec.{ltb}
use borrow.Author.Tests.{le-ltb}
use Rattle.config.specs.declared.Config.{Config}
use Rattle.config.specs.Times.{Ticks}
use Rattle.states.specs.declared.State.TheVariants.{BusSleep, PrepareBusSleep, ReadySleep}
use Rattle.states.specs.declared.Mode.{Mode}
use Rattle.states.specs.State.{transmits}
use Rattle.decision.specs.Decision.{
  Call,
  network_request,
  network_release,
  passive_start_up,
  repeat_message_request,
  disable_communication,
  enable_communication,
  tx_confirmation,
  rx_indication,
  confirm_pn_availability,
  set_user_data,
  set_pn_requests,
  status,
  main_function,
}
use Rattle.refusals.specs.Refusals.{refusal, is_done}
use Rattle.channel.specs.Channel.{fresh_mode, is_tick}
use Rattle.sleep.specs.Summary.{Since, none, ago, Summary, summary, blank, shown, raised, hits, turned, summarised, history}
use Rattle.sleep.specs.Quiet.{loud, answered, Quiet, counts_one, ticks_in}
use Rattle.sleep.proofs.Simulation.{Fit, Together, asleep, waiting, live, held, clash}
use Rattle.sleep.proofs.Entering.{mode_run, reached_together, agree, not_network}

-- how many ticks may be left until k is h
abbrev left_to : ℕ → ℕ → Since → ℕ
left_to h (suc q) k = suc q + h
left_to h zero none = 0
left_to h zero (ago k) = h - k

-- released, sending enabled
data Calm : Summary → Type 0 where
  calm : {f : Bool} {k : Since} {q : ℕ} → Calm (summary false true f k q)

calm_of : (b : Summary) → b.requested ≡ false → b.sending ≡ true → Calm b
calm_of b r s = rw (r, s) calm

-- with no repeat ticks left it shows neither Repeat nor Normal
dozing : (t : Ticks) (f : Bool) (k : Since) → transmits (shown t (summary false true f k 0)) ≡ false
unfolding shown
dozing t f none = refl
dozing t f (ago k) = go (ltb k t.timeout) (ltb k (t.timeout + t.wait))
  where
    go : (a b : Bool) → transmits (cond (a || false) ReadySleep (cond b PrepareBusSleep BusSleep)) ≡ false
    go true b = refl
    go false true = refl
    go false false = refl

module _ (c : Config) (t : Ticks) (h : ℕ) where
  low : (k : Since) → left_to h 0 k ≤ h
  low none = omega arith
  low (ago k) = omega arith

  -- one quiet call, answered 0 or not
  record Less (b b' : Summary) (n : ℕ) : Type 0 where
    still : Calm b'
    less : left_to h b'.left b'.since ≤ left_to h b.left b.since - n

  tick_less : (k : Since) (q : ℕ) (f s : Bool) → (q ≡ 0 → s ≡ false)
      → left_to h (q - 1) (cond (s && f) (ago 0) (raised k)) ≤ left_to h q k - 1
  tick_less none zero f s z = rw (z refl) (omega arith)
  tick_less (ago k) zero f s z = rw (z refl) (omega arith)
  tick_less k (suc zero) f s z = omega (arith, low (cond (s && f) (ago 0) (raised k)))
  tick_less k (suc (suc q)) f s z = let e : suc (suc q) - 1 ≡ suc q = omega arith in rw e (omega arith)

  hush : (x : Call) {b : Summary} → Calm b → loud c b x ≡ false → Less b (turned c t (shown t b) b x) (cond (is_tick x) 1 0)
  unfolding turned
  hush network_request k e = clash e
  hush network_release calm e = record { still = calm; less = omega arith }
  hush passive_start_up k e = clash e
  hush repeat_message_request k e = clash e
  hush disable_communication k e = clash e
  hush enable_communication calm e = record { still = calm; less = omega arith }
  hush (tx_confirmation true) k e = clash e
  hush (tx_confirmation false) calm e = record { still = calm; less = omega arith }
  hush (rx_indication pdu) calm e = rw e (record { still = calm; less = omega arith })
  hush confirm_pn_availability calm e = record { still = calm; less = omega arith }
  hush (set_user_data bytes) calm e = record { still = calm; less = omega arith }
  hush (set_pn_requests bytes) calm e = record { still = calm; less = omega arith }
  hush status calm e = record { still = calm; less = omega arith }
  hush (main_function taken room) (calm {f} {k} {q}) e =
      record {
        still = calm;
        less = tick_less k q (hits (raised k) t.timeout) (transmits (shown t (summary false true f k q))) (λ z. rw z (dozing t f k));
      }

  quiet_step : (x : Call) (b : Summary) → Calm b → (answered c t b x ≡ true → loud c b x ≡ false)
      → Less b (summarised c t b x) (counts_one c t b x)
  unfolding summarised
  quiet_step x b k z = go (is_done (refusal c (shown t b) x)) refl
    where
      go : (a : Bool) → is_done (refusal c (shown t b) x) ≡ a
          → Less b (cond a (turned c t (shown t b) b x) b) (cond (a && is_tick x) 1 0)
      go true e = hush x k (z e)
      go false e = record { still = k; less = omega arith }

  sinks : (ys : List Call) (b : Summary) → Calm b → Quiet c t b ys → left_to h b.left b.since ≤ ticks_in c t b ys
      → Calm (history c t b ys) × (left_to h (history c t b ys).left (history c t b ys).since ≤ 0)
  sinks [] b k z l = (k, l)
  sinks (x ∷ ys) b k z l =
      let s = quiet_step x b k z.0 in sinks ys (summarised c t b x) s.still z.1 (omega (arith, s.less))

-- at the start of the list no more than R + h are left
bound : (h : ℕ) {t : Ticks} (c : Config) {m : Mode} {b : Summary} → Together t m b → left_to h b.left b.since ≤ t.repeat + h
bound h {t} c (asleep {k = k} l) = omega (arith, low c t h k)
bound h c (waiting p w e) = omega arith
bound h c (live {q = zero} p e l) = omega arith
bound h c (live {q = suc q} p e l) = omega arith
bound h {t} c (held {q = zero} {k = k} p e l) = omega (arith, low c t h k)
bound h c (held {q = suc q} p e l) = omega arith

pub same : {t : Ticks} {m : Mode} {b : Summary} → Together t m b
    → (b.requested ≡ m.requested) × (b.sending ≡ m.sending) × (b.filter ≡ m.filter)
same (asleep l) = (refl, refl, refl)
same (waiting p w e) = (refl, refl, refl)
same (live p e l) = (refl, refl, refl)
same (held p e l) = (refl, refl, refl)

pub history_then : (c : Config) (t : Ticks) (xs ys : List Call) (b : Summary) → history c t b (xs ++ ys) ≡ history c t (history c t b xs) ys
history_then c t [] ys b = refl
history_then c t (x ∷ xs) ys b = history_then c t xs ys (summarised c t b x)

-- no ticks left until T + W: Bus-Sleep
arrived : {t : Ticks} → Fit t → {b : Summary} → Calm b → left_to (t.timeout + t.wait) b.left b.since ≤ 0 → shown t b ≡ BusSleep
unfolding shown
arrived f (calm {q = suc q}) l = absurd (omega arith)
arrived f (calm {k = none} {q = zero}) l = refl
arrived {t} f (calm {k = ago k} {q = zero}) l = rw (le-ltb k t.timeout (omega arith), le-ltb k (t.timeout + t.wait) (omega arith))

pub sleeps : (c : Config) {t : Ticks} → Fit t → (xs ys : List Call) → (mode_run c t fresh_mode xs).requested ≡ false
    → (mode_run c t fresh_mode xs).sending ≡ true → Quiet c t (history c t blank xs) ys
    → t.repeat + (t.timeout + t.wait) ≤ ticks_in c t (history c t blank xs) ys → (mode_run c t fresh_mode (xs ++ ys)).state ≡ BusSleep
sleeps c {t} f xs ys r e q n =
    let b = history c t blank xs in
    let y = reached_together c f xs in
    let s = same y in
    let d = sinks c t (t.timeout + t.wait) ys b (calm_of b (rw s.0 r) (rw s.1 e)) q (omega (arith, bound (t.timeout + t.wait) c y)) in
    rw (agree c f (xs ++ ys), history_then c t xs ys blank) (arrived f d.0 d.1)

resting : {t : Ticks} {m : Mode} {b : Summary} → Together t m b → m.state ≡ BusSleep
    → Calm b × (left_to (t.timeout + t.wait) b.left b.since ≤ 0)
resting (asleep {k = none} l) e = (calm, omega arith)
resting (asleep {k = ago k} l) e = (calm, omega arith)
resting (waiting p w u) e = clash cc
resting (live {r} {q = q} p h l) e = not_network q r e
resting (held {r} {q = q} p h l) e = not_network q r e

pub rests : (c : Config) {t : Ticks} → Fit t → (xs ys : List Call) → (mode_run c t fresh_mode xs).state ≡ BusSleep
    → Quiet c t (history c t blank xs) ys → (mode_run c t fresh_mode (xs ++ ys)).state ≡ BusSleep
rests c {t} f xs ys e q =
    let z = resting (reached_together c f xs) e in
    let d = sinks c t (t.timeout + t.wait) ys (history c t blank xs) z.0 q (omega (arith, z.1)) in
    rw (agree c f (xs ++ ys), history_then c t xs ys blank) (arrived f d.0 d.1)
