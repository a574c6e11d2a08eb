-- The mode alone over whole lists of calls: it stays in step with the summary, and Bus-Sleep is entered in exactly the due ticks.
-- Assumes nothing.
use Prim.Native.Nat.{ℕ, zero, suc, ◌+◌, ◌<◌}
use mathlib.Core.Path.{◌≡◌, refl, sym, ap}
use mathlib.Core.Bool.{Bool, true, false, cond}
use mathlib.Core.List.{List, [], ◌∷◌}
use mathlib.Core.Logic.{◌↔◌}
use native.Mathlib.Omega.{arith}
use Rattle.config.specs.declared.Config.{Config}
use Rattle.config.specs.Times.{Ticks}
use Rattle.states.specs.declared.State.{State}
use Rattle.states.specs.declared.State.TheVariants.{BusSleep}
use Rattle.states.specs.declared.Mode.{Mode}
use Rattle.decision.specs.Decision.{
  Call,
  network_request,
  network_release,
  passive_start_up,
  repeat_message_request,
  disable_communication,
  enable_communication,
  tx_confirmation,
  rx_indication,
  confirm_pn_availability,
  set_user_data,
  set_pn_requests,
  status,
  main_function,
}
use Rattle.refusals.specs.Refusals.{refusal, refused_passive, refused_pn_off, refused_state, refused_length, first_of, is_done}
use Rattle.channel.specs.Channel.{fresh_mode, is_tick, mode_after}
use Rattle.sleep.specs.Summary.{Since, none, ago, Summary, blank, network_state, shown, raised, keeps_awake, since_after, sending_after, turned, summarised, history}
use Rattle.sleep.specs.Sleep.{Due}
use Rattle.sleep.proofs.Simulation.{Fit, Long, Together, asleep, waiting, live, held, shows, keep, clash}

-- a call on the mode: refused, or its rule; and a list of calls
unfoldable pub mode_step : Config → Ticks → Mode → Call → Mode
mode_step c t m x = cond (is_done (refusal c m.state x)) (mode_after c t m x) m

abbrev pub mode_run : Config → Ticks → Mode → List Call → Mode
mode_run c t m [] = m
mode_run c t m (x ∷ xs) = mode_run c t (mode_step c t m x) xs

-- what a call that is answered 0 is not refused for
rows : (p o s l : Bool) → is_done (first_of p o s l) ≡ true → (p ≡ false) × (s ≡ false)
rows false false false l h = (refl, refl)
rows false false true l h = clash (sym h)
rows false true s l h = clash (sym h)
rows true o s l h = clash (sym h)

pub cleared : (c : Config) (s : State) (x : Call) → is_done (refusal c s x) ≡ true
    → (refused_passive c x ≡ false) × (refused_state s x ≡ false)
unfolding refusal
cleared c s x h = rows (refused_passive c x) (refused_pn_off c x) (refused_state s x) (refused_length c x) h

-- what a call comes to, answered 0 or refused
pub done : {t : Ticks} → Fit t → (c : Config) {m : Mode} {b : Summary} → Together t m b → (x : Call) → is_done (refusal c m.state x) ≡ true
    → (mode_step c t m x ≡ mode_after c t m x) × (summarised c t b x ≡ turned c t m.state b x)
unfolding mode_step summarised
done f c y x e = (rw e, rw (shows f y, e))

pub refused : {t : Ticks} → Fit t → (c : Config) {m : Mode} {b : Summary} → Together t m b → (x : Call)
    → is_done (refusal c m.state x) ≡ false → (mode_step c t m x ≡ m) × (summarised c t b x ≡ b)
unfolding mode_step summarised
refused f c y x e = (rw e, rw (shows f y, e))

pub moved : {t : Ticks} → Fit t → (c : Config) {m : Mode} {b : Summary} → Together t m b → (x : Call)
    → is_done (refusal c m.state x) ≡ true → Together t (mode_after c t m x) (turned c t m.state b x)
moved f c {m} y x z = keep f c x y (cleared c m.state x z).1

pub step_together : {t : Ticks} → Fit t → (c : Config) {m : Mode} {b : Summary} → Together t m b → (x : Call)
    → Together t (mode_step c t m x) (summarised c t b x)
step_together {t} f c {m} {b} y x = go (is_done (refusal c m.state x)) refl
  where
    go : (a : Bool) → is_done (refusal c m.state x) ≡ a → Together t (mode_step c t m x) (summarised c t b x)
    go true e = let d = done f c y x e in rw (d.0, d.1) (moved f c y x e)
    go false e = let d = refused f c y x e in rw (d.0, d.1) y

pub run_together : {t : Ticks} → Fit t → (c : Config) {m : Mode} {b : Summary} → Together t m b → (xs : List Call)
    → Together t (mode_run c t m xs) (history c t b xs)
run_together f c y [] = y
run_together {t = t} f c {m = m} {b = b} y (x ∷ xs) =
    run_together f c {m = mode_step c t m x} {b = summarised c t b x} (step_together f c y x) xs

pub reached_together : (c : Config) {t : Ticks} → Fit t → (xs : List Call) → Together t (mode_run c t fresh_mode xs) (history c t blank xs)
reached_together c f xs = run_together f c (asleep tt) xs

pub agree : (c : Config) {t : Ticks} → Fit t → (xs : List Call) → (mode_run c t fresh_mode xs).state ≡ shown t (history c t blank xs)
agree c f xs = sym (shows f (reached_together c f xs))

-- ---- Bus-Sleep is entered in exactly the due ticks

abbrev Short : Ticks → Since → Type 0
Short t none = ⊥
Short t (ago k) = k < t.timeout + t.wait

pub not_network : {A : Type 0} (q : ℕ) (r : Bool) → network_state q r ≡ BusSleep → A
not_network zero true e = clash cc
not_network zero false e = clash cc
not_network (suc q) r e = clash cc

bus_long : {t : Ticks} {m : Mode} {b : Summary} → Together t m b → m.state ≡ BusSleep → Long t b.since × (b.sending ≡ true)
bus_long (asleep l) e = (l, refl)
bus_long (waiting p w u) e = clash cc
bus_long (live {r} {q = q} p h l) e = not_network q r e
bus_long (held {r} {q = q} p h l) e = not_network q r e

up_short : {t : Ticks} → Fit t → {m : Mode} {b : Summary} → Together t m b → (m.state ≡ BusSleep → ⊥) → b.sending ≡ true → Short t b.since
up_short f (asleep l) h e = absurd (h refl)
up_short f (waiting p w u) h e = omega arith
up_short f (live p u l) h e = omega arith
up_short f (held p u l) h e = clash (sym e)

due_bus : {t : Ticks} → Fit t → {m : Mode} {b : Summary} → Together t m b → b.since ≡ ago (t.timeout + t.wait) → b.sending ≡ true
    → m.state ≡ BusSleep
due_bus f (asleep l) k e = refl
due_bus {t} f (waiting {k = j} p w u) k e = let y : j ≡ t.timeout + t.wait = cc in absurd (omega arith)
due_bus {t} f (live {k = j} p u l) k e = let y : j ≡ t.timeout + t.wait = cc in let z = f.wait in absurd (omega arith)
due_bus f (held p u l) k e = clash (sym e)

-- sending that a call turns on is a keep-awake
turned_on : (c : Config) (t : Ticks) (s : State) (b : Summary) (x : Call) → b.sending ≡ false → sending_after b.sending x ≡ true
    → keeps_awake c t s b x ≡ true
turned_on c t s b network_request d e = cc
turned_on c t s b network_release d e = cc
turned_on c t s b passive_start_up d e = cc
turned_on c t s b repeat_message_request d e = cc
turned_on c t s b disable_communication d e = cc
turned_on c t s b enable_communication d e = rw d
turned_on c t s b (tx_confirmation good) d e = cc
turned_on c t s b (rx_indication pdu) d e = cc
turned_on c t s b confirm_pn_availability d e = cc
turned_on c t s b (set_user_data bytes) d e = cc
turned_on c t s b (set_pn_requests bytes) d e = cc
turned_on c t s b status d e = cc
turned_on c t s b (main_function taken room) d e = cc

jump : {t : Ticks} → Fit t → (k : Since) (kp tk : Bool) → Long t (cond kp (ago 0) (cond tk (raised k) k)) → Short t k
    → (tk ≡ true) × (cond kp (ago 0) (cond tk (raised k) k) ≡ ago (t.timeout + t.wait))
jump f none kp tk l s = absurd s
jump f (ago k) true tk l s = let z = f.wait in absurd (omega arith)
jump f (ago k) false true l s = (refl, ap ago (omega arith))
jump f (ago k) false false l s = absurd (omega arith)

woken : {t : Ticks} → Fit t → (z : Since) (kp : Bool) → kp ≡ true → Long t (cond kp (ago 0) z) → ⊥
woken f z true e l = let w = f.wait in omega arith
woken f z false e l = clash (sym e)

fall : {t : Ticks} → Fit t → (c : Config) {m n : Mode} {b : Summary} (s : State) (x : Call) → Together t m b → Together t n (turned c t s b x)
    → (m.state ≡ BusSleep → ⊥) → n.state ≡ BusSleep
    → (is_tick x ≡ true) × ((turned c t s b x).since ≡ ago (t.timeout + t.wait)) × (b.sending ≡ true)
unfolding turned
fall {t} f c {b = b} s x y y' h e = go b.sending refl
  where
    l : Long t (since_after c t s b x) × (sending_after b.sending x ≡ true)
    l = bus_long y' e

    go : (a : Bool) → b.sending ≡ a → (is_tick x ≡ true) × (since_after c t s b x ≡ ago (t.timeout + t.wait)) × (b.sending ≡ true)
    go true d = let j = jump f b.since (keeps_awake c t s b x) (is_tick x) l.0 (up_short f y h d) in (j.0, j.1, d)
    go false d = absurd (woken f _ (keeps_awake c t s b x) (turned_on c t s b x d l.1) l.0)

late : {t : Ticks} → Fit t → (k : Since) (kp : Bool) → Long t k → cond kp (ago 0) (raised k) ≡ ago (t.timeout + t.wait) → ⊥
late {t} f k true l e = let y : 0 ≡ t.timeout + t.wait = cc in let w = f.wait in omega arith
late f none false l e = clash cc
late {t} f (ago k) false l e = let y : suc k ≡ t.timeout + t.wait = cc in omega arith

-- what holds of every tick holds of every call that is one
pub by_tick : (P : Call → Type 0) → ((taken : Bool) (room : ℕ) → P (main_function taken room)) → (x : Call) → is_tick x ≡ true → P x
by_tick P p network_request i = clash (sym i)
by_tick P p network_release i = clash (sym i)
by_tick P p passive_start_up i = clash (sym i)
by_tick P p repeat_message_request i = clash (sym i)
by_tick P p disable_communication i = clash (sym i)
by_tick P p enable_communication i = clash (sym i)
by_tick P p (tx_confirmation good) i = clash (sym i)
by_tick P p (rx_indication pdu) i = clash (sym i)
by_tick P p confirm_pn_availability i = clash (sym i)
by_tick P p (set_user_data bytes) i = clash (sym i)
by_tick P p (set_pn_requests bytes) i = clash (sym i)
by_tick P p status i = clash (sym i)
by_tick P p (main_function taken room) i = p taken room

rise : {t : Ticks} → Fit t → (c : Config) {m n : Mode} {b : Summary} (s : State) (x : Call) → Together t m b → Together t n (turned c t s b x)
    → is_tick x ≡ true → (turned c t s b x).since ≡ ago (t.timeout + t.wait) → b.sending ≡ true
    → (m.state ≡ BusSleep → ⊥) × (n.state ≡ BusSleep)
unfolding turned
rise {t} f c {b = b} s x y y' i k d = (
  λ e. late f b.since (keeps_awake c t s b x) (bus_long y e).0 (rw i at k),
  due_bus f y' k (rw (by_tick (λ x. sending_after b.sending x ≡ b.sending) (λ taken room. refl) x i) d),
)

-- Bus-Sleep entered by a call on the mode
pub record Entered (c : Config) (t : Ticks) (m : Mode) (x : Call) : Type 0 where
  pub before : m.state ≡ BusSleep → ⊥
  pub now : (mode_step c t m x).state ≡ BusSleep

one : {t : Ticks} → Fit t → (c : Config) {m : Mode} {b : Summary} → Together t m b → (x : Call) → Entered c t m x ↔ Due c t b x
one {t} f c {m} {b} y x = (to, fro)
  where
    to : Entered c t m x → Due c t b x
    to h = go (is_done (refusal c m.state x)) refl
      where
        go : (a : Bool) → is_done (refusal c m.state x) ≡ a → Due c t b x
        go true e =
            let d = done f c y x e in
            let r = fall f c m.state x y (moved f c y x e) h.before (rw d.0 at h.now) in
            record { tick = r.0; zero = rw (shows f y) e; nth = rw d.1 r.1; sending = r.2 }
        go false e = absurd (h.before (rw (refused f c y x e).0 at h.now))

    fro : Due c t b x → Entered c t m x
    fro d =
        let z : is_done (refusal c m.state x) ≡ true = rw (shows f y) at d.zero in
        let e = done f c y x z in
        let r = rise f c m.state x y (moved f c y x z) d.tick (rw e.1 at d.nth) d.sending in
        record { before = r.0; now = rw e.0 r.1 }

pub entered : (c : Config) {t : Ticks} → Fit t → (xs : List Call) (x : Call)
    → Entered c t (mode_run c t fresh_mode xs) x ↔ Due c t (history c t blank xs) x
entered c f xs x = one f c (reached_together c f xs) x
