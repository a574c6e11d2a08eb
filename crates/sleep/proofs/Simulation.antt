-- The simulation: after every call that is answered 0 the channel is in the state that the calls alone show. Assumes nothing.
use Prim.Native.Nat.{ℕ, zero, suc, ◌+◌, ◌-◌, ◌≤◌}
use mathlib.Core.Path.{◌≡◌, refl}
use mathlib.Core.Bool.{Bool, true, false, cond, ◌||◌}
use mathlib.Core.List.{List}
use native.Mathlib.Omega.{arith}
use lib.Dec.{leb, eqb}
use borrow.Author.Tests.{lt-ltb, le-ltb, eq-eqb, ne_eqb, lt-leb}
use Rattle.config.specs.declared.Config.{Config}
use Rattle.config.specs.Times.{Ticks}
use Rattle.states.specs.declared.State.TheVariants.{BusSleep, PrepareBusSleep, RepeatMessage}
use Rattle.states.specs.declared.Mode.{Mode}
use Rattle.decision.specs.Decision.{Call, network_request, network_release, passive_start_up, repeat_message_request, disable_communication, enable_communication, tx_confirmation, rx_indication, confirm_pn_availability, set_user_data, set_pn_requests, status, main_function, rule_at, table}
use Rattle.modes.specs.Mode.{mode, enter_network, enter_repeat, restart, heard, enabled}
use Rattle.mode_steps.specs.ModeSteps.{nm_in_repeat_or_normal, prepared, nm_in_ready, wait_in_prepare, repeat_in_repeat}
use Rattle.mode_transitions.specs.ModeTransitions.{mode_by}
use Rattle.heard.specs.Heard.{accepted, asks_repeat}
use Rattle.refusals.specs.Refusals.{refused_state}
use Rattle.channel.specs.Channel.{again_for, mode_after, rule_for}
use Rattle.sleep.specs.Summary.{Since, none, ago, Summary, summary, below, network_state, shown, turned}

-- what the proof uses of a configuration that passes
pub record Fit (t : Ticks) : Type 0 where
  pub timeout : 1 ≤ t.timeout
  pub wait : 1 ≤ t.wait
  pub repeat : 1 ≤ t.repeat

-- k is past the end of Prepare
abbrev pub Long : Ticks → Since → Type 0
Long t none = Unit {0}
Long t (ago k) = t.timeout + t.wait ≤ k

-- How mode and summary go together: in Bus-Sleep, in Prepare, in Network Mode with sending enabled, and disabled. Every timer
-- that decides the state is pinned by k and q.
pub data Together (t : Ticks) : Mode → Summary → Type 0 where
  asleep : {f : Bool} {k : Since} → Long t k → Together t (mode BusSleep false true f 0 0 0) (summary false true f k 0)
  waiting : {f : Bool} {w k : ℕ} → 1 ≤ w → w ≤ t.wait → w + k ≡ t.timeout + t.wait
      → Together t (mode PrepareBusSleep false true f 0 w 0) (summary false true f (ago k) 0)
  live : {r f : Bool} {n k q : ℕ} → 1 ≤ n → n + k ≡ t.timeout → q ≤ t.repeat
      → Together t (mode (network_state q r) r true f n 0 q) (summary r true f (ago k) q)
  held : {r f : Bool} {n q : ℕ} {k : Since} → 1 ≤ n → n ≤ t.timeout → q ≤ t.repeat
      → Together t (mode (network_state q r) r false f n 0 q) (summary r false f k q)

or_true : (b : Bool) → (b || true) ≡ true
or_true true = refl
or_true false = refl

-- the summary shows the state
pub shows : {t : Ticks} → Fit t → {m : Mode} {b : Summary} → Together t m b → shown t b ≡ m.state
unfolding shown
shows {t} h (asleep {f} {k = none} l) = refl
shows {t} h (asleep {f} {k = ago k} l) = rw (le-ltb k t.timeout (omega arith), le-ltb k (t.timeout + t.wait) (omega arith))
shows {t} h (waiting {f} {w} {k} p w1 e) = rw (le-ltb k t.timeout (omega arith), lt-ltb k (t.timeout + t.wait) (omega arith))
shows {t} h (live {r} {f} {n} {k} {q} p e l) = rw (lt-ltb k t.timeout (omega arith))
shows {t} h (held {r} {f} {n} {q} {k} p e l) = rw (or_true (below k t.timeout))

-- Repeat, as it is entered and left
awake : {t : Ticks} {r f : Bool} {n k q : ℕ} → 1 ≤ q → 1 ≤ n → n + k ≡ t.timeout → q ≤ t.repeat
    → Together t (mode RepeatMessage r true f n 0 q) (summary r true f (ago k) q)
awake {q = zero} z p e l = absurd (omega arith)
awake {q = suc q} z p e l = live p e l

stilled : {t : Ticks} {r f : Bool} {n q : ℕ} {k : Since} → 1 ≤ q → 1 ≤ n → n ≤ t.timeout → q ≤ t.repeat
    → Together t (mode RepeatMessage r false f n 0 q) (summary r false f k q)
stilled {q = zero} z p e l = absurd (omega arith)
stilled {q = suc q} z p e l = held p e l

woke : {t : Ticks} → Fit t → {r f : Bool}
    → Together t (mode RepeatMessage r true f t.timeout 0 t.repeat) (summary r true f (ago 0) t.repeat)
woke {t} h = awake {k = 0} {q = t.repeat} h.repeat h.timeout (omega arith) (omega arith)

again : {t : Ticks} → Fit t → {r f : Bool} {n k : ℕ} → 1 ≤ n → n + k ≡ t.timeout
    → Together t (mode RepeatMessage r true f n 0 t.repeat) (summary r true f (ago k) t.repeat)
again {t} h p e = awake {q = t.repeat} h.repeat p e (omega arith)

again_held : {t : Ticks} → Fit t → {r f : Bool} {n : ℕ} {k : Since} → 1 ≤ n → n ≤ t.timeout
    → Together t (mode RepeatMessage r false f n 0 t.repeat) (summary r false f k t.repeat)
again_held {t} h p e = stilled {q = t.repeat} h.repeat p e (omega arith)

-- ---- one call that is answered 0

-- a PDU, by whether it is accepted and whether it asks for Repeat
keep_pdu : {t : Ticks} → Fit t → (c : Config) (pdu : List ℕ) (a r : Bool) {m : Mode} {b : Summary} → Together t m b
    → accepted c m.filter pdu ≡ a → asks_repeat c pdu ≡ r
    → Together t (mode_after c t m (rx_indication pdu)) (turned c t m.state b (rx_indication pdu))
unfolding mode_after rule_for again_for rule_at table mode_by enter_network enter_repeat restart heard turned
keep_pdu h c pdu false s (asleep l) ea es = rw ea (asleep l)
keep_pdu h c pdu false s (waiting p w e) ea es = rw ea (waiting p w e)
keep_pdu h c pdu false s (live p e l) ea es = rw ea (live p e l)
keep_pdu h c pdu false s (held p e l) ea es = rw ea (held p e l)
keep_pdu h c pdu true s (asleep l) ea es = rw ea (asleep l)
keep_pdu h c pdu true s (waiting p w e) ea es = rw ea (woke h)
keep_pdu h c pdu true true (live {r = true} {q = zero} p e l) ea es = rw (ea, es) (woke h)
keep_pdu h c pdu true true (live {r = false} {q = zero} p e l) ea es = rw (ea, es) (woke h)
keep_pdu h c pdu true false (live {r = true} {q = zero} p e l) ea es = rw (ea, es) (live {k = 0} {q = 0} h.timeout (omega arith) l)
keep_pdu h c pdu true false (live {r = false} {q = zero} p e l) ea es = rw (ea, es) (live {k = 0} {q = 0} h.timeout (omega arith) l)
keep_pdu h c pdu true s (live {q = suc q} p e l) ea es = rw ea (live {k = 0} {q = suc q} h.timeout (omega arith) l)
keep_pdu h c pdu true true (held {r = true} {q = zero} p e l) ea es = rw (ea, es) (again_held h p e)
keep_pdu h c pdu true true (held {r = false} {q = zero} p e l) ea es = rw (ea, es) (again_held h p e)
keep_pdu h c pdu true false (held {r = true} {q = zero} p e l) ea es = rw (ea, es) (held {q = 0} p e l)
keep_pdu h c pdu true false (held {r = false} {q = zero} p e l) ea es = rw (ea, es) (held {q = 0} p e l)
keep_pdu h c pdu true s (held {q = suc q} p e l) ea es = rw ea (held {q = suc q} p e l)

-- the NM timer in Repeat or Normal, beside k
record Round (t n k : ℕ) : Type 0 where
  n' : ℕ
  k' : ℕ
  timer : cond (leb n 1) t (n - 1) ≡ n'
  count : cond (eqb (suc k) t) (ago 0) (ago (suc k)) ≡ ago k'
  low : 1 ≤ n'
  sum : n' + k' ≡ t

round : (t n k : ℕ) → 1 ≤ t → 1 ≤ n → n + k ≡ t → Round t n k
round t zero k h p e = absurd (omega arith)
round t (suc zero) k h p e =
    record { n' = t; k' = 0; timer = refl; count = rw (eq-eqb (suc k) t (omega arith)); low = h; sum = omega arith }
round t (suc (suc n)) k h p e =
    record {
      n' = suc (suc n) - 1;
      k' = suc k;
      timer = rw (lt-leb (suc (suc n)) 1 (omega arith));
      count = rw (ne_eqb (suc k) t (λ z. omega arith));
      low = omega arith;
      sum = omega arith;
    }

keep_tick : {t : Ticks} → Fit t → (c : Config) (taken : Bool) (room : ℕ) {m : Mode} {b : Summary} → Together t m b
    → Together t (mode_after c t m (main_function taken room)) (turned c t m.state b (main_function taken room))
unfolding mode_after rule_for again_for rule_at table mode_by nm_in_repeat_or_normal prepared nm_in_ready wait_in_prepare repeat_in_repeat turned
keep_tick h c taken room (asleep {k = none} l) = asleep l
keep_tick h c taken room (asleep {k = ago k} l) = asleep {k = ago (suc k)} (omega arith)
keep_tick h c taken room (waiting {w = zero} p w e) = absurd (omega arith)
keep_tick h c taken room (waiting {w = suc zero} {k = k} p w e) = asleep {k = ago (suc k)} (omega arith)
keep_tick h c taken room (waiting {w = suc (suc w)} {k = k} p w1 e) =
    rw (ne_eqb (suc (suc w)) 1 (λ z. omega arith)) (waiting {w = suc (suc w) - 1} {k = suc k} (omega arith) (omega arith) (omega arith))
keep_tick {t} h c taken room (live {r = true} {n = n} {k = k} {q = zero} p e l) =
    let g = round t.timeout n k h.timeout p e in rw (g.timer, g.count) (live {q = 0} g.low g.sum l)
keep_tick h c taken room (live {r = false} {n = zero} {q = zero} p e l) = absurd (omega arith)
keep_tick h c taken room (live {r = false} {n = suc zero} {k = k} {q = zero} p e l) =
    waiting {k = suc k} h.wait (omega arith) (omega arith)
keep_tick h c taken room (live {r = false} {n = suc (suc n)} {k = k} {q = zero} p e l) =
    rw (lt-leb (suc (suc n)) 1 (omega arith)) (live {n = suc (suc n) - 1} {k = suc k} {q = 0} (omega arith) (omega arith) l)
keep_tick {t} h c taken room (live {r = true} {n = n} {k = k} {q = suc zero} p e l) =
    let g = round t.timeout n k h.timeout p e in rw (g.timer, g.count) (live {q = 0} g.low g.sum (omega arith))
keep_tick {t} h c taken room (live {r = false} {n = n} {k = k} {q = suc zero} p e l) =
    let g = round t.timeout n k h.timeout p e in rw (g.timer, g.count) (live {q = 0} g.low g.sum (omega arith))
keep_tick {t} h c taken room (live {n = n} {k = k} {q = suc (suc q)} p e l) =
    let g = round t.timeout n k h.timeout p e in
    rw (g.timer, g.count, lt-leb (suc (suc q)) 1 (omega arith)) (awake {q = suc (suc q) - 1} (omega arith) g.low g.sum (omega arith))
keep_tick h c taken room (held {r = true} {q = zero} p e l) = held {q = 0} p e l
keep_tick h c taken room (held {r = false} {q = zero} p e l) = held {q = 0} p e l
keep_tick h c taken room (held {r = true} {q = suc zero} p e l) = held {q = 0} p e (omega arith)
keep_tick h c taken room (held {r = false} {q = suc zero} p e l) = held {q = 0} p e (omega arith)
keep_tick h c taken room (held {q = suc (suc q)} p e l) =
    rw (lt-leb (suc (suc q)) 1 (omega arith)) (stilled {q = suc (suc q) - 1} (omega arith) p e (omega arith))

pub clash : {A : Type 0} → true ≡ false → A
clash e = absurd (let y : ◌≡◌ {A = ℕ} 0 1 = cc in omega arith)

-- every call, where the state does not refuse it
pub keep : {t : Ticks} → Fit t → (c : Config) (x : Call) {m : Mode} {b : Summary} → Together t m b → refused_state m.state x ≡ false
    → Together t (mode_after c t m x) (turned c t m.state b x)
unfolding mode_after rule_for again_for rule_at table mode_by enter_network enter_repeat restart enabled turned
keep h c network_request (asleep l) z = woke h
keep h c network_request (waiting p w e) z = woke h
keep h c network_request (live {r = true} {q = zero} p e l) z = live {q = 0} p e l
keep h c network_request (live {r = false} {q = zero} p e l) z = live {q = 0} p e l
keep h c network_request (live {q = suc q} p e l) z = live {q = suc q} p e l
keep h c network_request (held {r = true} {q = zero} p e l) z = held {q = 0} p e l
keep h c network_request (held {r = false} {q = zero} p e l) z = held {q = 0} p e l
keep h c network_request (held {q = suc q} p e l) z = held {q = suc q} p e l
keep h c network_release (asleep l) z = asleep l
keep h c network_release (waiting p w e) z = waiting p w e
keep h c network_release (live {r = true} {q = zero} p e l) z = live {q = 0} p e l
keep h c network_release (live {r = false} {q = zero} p e l) z = live {q = 0} p e l
keep h c network_release (live {q = suc q} p e l) z = live {q = suc q} p e l
keep h c network_release (held {r = true} {q = zero} p e l) z = held {q = 0} p e l
keep h c network_release (held {r = false} {q = zero} p e l) z = held {q = 0} p e l
keep h c network_release (held {q = suc q} p e l) z = held {q = suc q} p e l
keep h c passive_start_up (asleep l) z = woke h
keep h c passive_start_up (waiting p w e) z = woke h
keep h c passive_start_up (live {r = true} {q = zero} p e l) z = clash z
keep h c passive_start_up (live {r = false} {q = zero} p e l) z = clash z
keep h c passive_start_up (live {q = suc q} p e l) z = clash z
keep h c passive_start_up (held {r = true} {q = zero} p e l) z = clash z
keep h c passive_start_up (held {r = false} {q = zero} p e l) z = clash z
keep h c passive_start_up (held {q = suc q} p e l) z = clash z
keep h c repeat_message_request (asleep l) z = clash z
keep h c repeat_message_request (waiting p w e) z = clash z
keep h c repeat_message_request (live {r = true} {q = zero} p e l) z = again h p e
keep h c repeat_message_request (live {r = false} {q = zero} p e l) z = again h p e
keep h c repeat_message_request (live {q = suc q} p e l) z = clash z
keep h c repeat_message_request (held {r = true} {q = zero} p e l) z = again_held h p e
keep h c repeat_message_request (held {r = false} {q = zero} p e l) z = again_held h p e
keep h c repeat_message_request (held {q = suc q} p e l) z = clash z
keep h c disable_communication (asleep l) z = clash z
keep h c disable_communication (waiting p w e) z = clash z
keep h c disable_communication (live {r = true} {q = zero} p e l) z = held {q = 0} p (omega arith) l
keep h c disable_communication (live {r = false} {q = zero} p e l) z = held {q = 0} p (omega arith) l
keep h c disable_communication (live {q = suc q} p e l) z = held {q = suc q} p (omega arith) l
keep h c disable_communication (held {r = true} {q = zero} p e l) z = held {q = 0} p e l
keep h c disable_communication (held {r = false} {q = zero} p e l) z = held {q = 0} p e l
keep h c disable_communication (held {q = suc q} p e l) z = held {q = suc q} p e l
keep h c enable_communication (asleep l) z = clash z
keep h c enable_communication (waiting p w e) z = clash z
keep h c enable_communication (live {r = true} {q = zero} p e l) z = live {q = 0} p e l
keep h c enable_communication (live {r = false} {q = zero} p e l) z = live {q = 0} p e l
keep h c enable_communication (live {q = suc q} p e l) z = live {q = suc q} p e l
keep h c enable_communication (held {r = true} {q = zero} p e l) z = live {k = 0} {q = 0} h.timeout (omega arith) l
keep h c enable_communication (held {r = false} {q = zero} p e l) z = live {k = 0} {q = 0} h.timeout (omega arith) l
keep h c enable_communication (held {q = suc q} p e l) z = live {k = 0} {q = suc q} h.timeout (omega arith) l
keep h c (tx_confirmation true) (asleep l) z = asleep l
keep h c (tx_confirmation true) (waiting p w e) z = waiting p w e
keep h c (tx_confirmation true) (live {r = true} {q = zero} p e l) z = live {k = 0} {q = 0} h.timeout (omega arith) l
keep h c (tx_confirmation true) (live {r = false} {q = zero} p e l) z = live {k = 0} {q = 0} h.timeout (omega arith) l
keep h c (tx_confirmation true) (live {q = suc q} p e l) z = live {k = 0} {q = suc q} h.timeout (omega arith) l
keep h c (tx_confirmation true) (held {r = true} {q = zero} p e l) z = held {q = 0} p e l
keep h c (tx_confirmation true) (held {r = false} {q = zero} p e l) z = held {q = 0} p e l
keep h c (tx_confirmation true) (held {q = suc q} p e l) z = held {q = suc q} p e l
keep h c (tx_confirmation false) (asleep l) z = asleep l
keep h c (tx_confirmation false) (waiting p w e) z = waiting p w e
keep h c (tx_confirmation false) (live p e l) z = live p e l
keep h c (tx_confirmation false) (held p e l) z = held p e l
keep h c (rx_indication pdu) {m} y z = keep_pdu h c pdu (accepted c m.filter pdu) (asks_repeat c pdu) y refl refl
keep h c confirm_pn_availability (asleep l) z = asleep l
keep h c confirm_pn_availability (waiting p w e) z = waiting p w e
keep h c confirm_pn_availability (live {r = true} {q = zero} p e l) z = live {q = 0} p e l
keep h c confirm_pn_availability (live {r = false} {q = zero} p e l) z = live {q = 0} p e l
keep h c confirm_pn_availability (live {q = suc q} p e l) z = live {q = suc q} p e l
keep h c confirm_pn_availability (held {r = true} {q = zero} p e l) z = held {q = 0} p e l
keep h c confirm_pn_availability (held {r = false} {q = zero} p e l) z = held {q = 0} p e l
keep h c confirm_pn_availability (held {q = suc q} p e l) z = held {q = suc q} p e l
keep h c (set_user_data bytes) (asleep l) z = asleep l
keep h c (set_user_data bytes) (waiting p w e) z = waiting p w e
keep h c (set_user_data bytes) (live {r = true} {q = zero} p e l) z = live {q = 0} p e l
keep h c (set_user_data bytes) (live {r = false} {q = zero} p e l) z = live {q = 0} p e l
keep h c (set_user_data bytes) (live {q = suc q} p e l) z = live {q = suc q} p e l
keep h c (set_user_data bytes) (held {r = true} {q = zero} p e l) z = held {q = 0} p e l
keep h c (set_user_data bytes) (held {r = false} {q = zero} p e l) z = held {q = 0} p e l
keep h c (set_user_data bytes) (held {q = suc q} p e l) z = held {q = suc q} p e l
keep h c (set_pn_requests bytes) (asleep l) z = asleep l
keep h c (set_pn_requests bytes) (waiting p w e) z = waiting p w e
keep h c (set_pn_requests bytes) (live {r = true} {q = zero} p e l) z = live {q = 0} p e l
keep h c (set_pn_requests bytes) (live {r = false} {q = zero} p e l) z = live {q = 0} p e l
keep h c (set_pn_requests bytes) (live {q = suc q} p e l) z = live {q = suc q} p e l
keep h c (set_pn_requests bytes) (held {r = true} {q = zero} p e l) z = held {q = 0} p e l
keep h c (set_pn_requests bytes) (held {r = false} {q = zero} p e l) z = held {q = 0} p e l
keep h c (set_pn_requests bytes) (held {q = suc q} p e l) z = held {q = suc q} p e l
keep h c status (asleep l) z = asleep l
keep h c status (waiting p w e) z = waiting p w e
keep h c status (live {r = true} {q = zero} p e l) z = live {q = 0} p e l
keep h c status (live {r = false} {q = zero} p e l) z = live {q = 0} p e l
keep h c status (live {q = suc q} p e l) z = live {q = suc q} p e l
keep h c status (held {r = true} {q = zero} p e l) z = held {q = 0} p e l
keep h c status (held {r = false} {q = zero} p e l) z = held {q = 0} p e l
keep h c status (held {q = suc q} p e l) z = held {q = suc q} p e l
keep h c (main_function taken room) y z = keep_tick h c taken room y
