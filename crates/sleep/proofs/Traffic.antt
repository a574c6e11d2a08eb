-- The traffic stays sound: message and remote timer, fast count, indication and bits, through every transition rule.
-- Assumes nothing.
use Prim.Native.Nat.{ℕ, ◌-◌, ◌≤◌}
use mathlib.Core.Path.{◌≡◌, refl, sym}
use mathlib.Core.Bool.{Bool, true, false, cond, not, ◌&&◌}
use native.Mathlib.Omega.{arith}
use lib.Dec.{leb, ltb}
use borrow.Author.Tests.{leb-true, leb-false, ltb-true, ltb-false, le-leb, eq-eqb}
use Rattle.states.specs.declared.State.{State}
use Rattle.states.specs.declared.State.TheVariants.{PrepareBusSleep, RepeatMessage, NormalOperation, ReadySleep}
use Rattle.states.specs.declared.Mode.{Mode}
use Rattle.states.specs.declared.Traffic.{Traffic}
use Rattle.traffic.specs.declared.Setup.{Setup}
use Rattle.states.specs.State.{in_network, is_normal, is_repeat, settled, transmits}
use Rattle.conditions.specs.Conditions.{larger, only, runs, traffic_sound}
use Rattle.traffic.specs.Traffic.{first_message, has_fast, heard_in_normal, heard_in_ready, resumed, to_normal, to_ready, to_repeat, to_repeat_active, to_repeat_asked, with_fast}
use Rattle.traffic_steps.specs.TrafficSteps.{in_normal, in_ready, in_repeat}
use Rattle.sending.specs.Sending.{after_missed, after_sent, counts, framing}
use Rattle.sleep.proofs.Passing.{Tuned}
use Rattle.sleep.proofs.Simulation.{clash}

abbrev Timer : Bool → ℕ → ℕ → Type 0
Timer true limit n = (1 ≤ n) × (n ≤ limit)
Timer false limit n = n ≡ 0

-- The facts behind the tests, over the tests of the state and over the fields, so that a proof for one state or record is one
-- for any with the same tests and fields. `sends`, `repeats`, `normal`, `network`, `calm` are the tests of the state.
pub record Okay (s : Setup) (sends repeats normal network calm : Bool) (message' fast' remote' : ℕ) (indicated' repeating' waking' : Bool) : Type 0 where
  pub message : Timer (sends && not s.passive) (larger s.ticks.cycle s.ticks.fast) message'
  pub fast : fast' ≤ cond repeats s.immediate 0
  pub remote : Timer (normal && ltb 0 s.ticks.remote && not indicated') s.ticks.remote remote'
  pub repeating : only repeating' (repeats && not s.passive) ≡ true
  pub waking : only waking' (network && not s.passive) ≡ true
  pub indicated : only indicated' (calm && ltb 0 s.ticks.remote && not s.passive) ≡ true

abbrev pub TrafficOk : Setup → State → Traffic → Type 0
TrafficOk s m x =
    Okay s (transmits m) (is_repeat m) (is_normal m) (in_network m) (settled m) x.message x.fast x.remote x.indicated
    x.repeating
    x.waking

-- ---- from the facts to the tests

timer_runs : (b : Bool) (limit n : ℕ) → Timer b limit n → runs b limit n ≡ true
timer_runs true limit n h = rw (le-leb 1 n h.0, le-leb n limit h.1)
timer_runs false limit n h = eq-eqb n 0 h

only_left : (a b d : Bool) → only a (b && d) ≡ true → only a b ≡ true
only_left true true d h = refl
only_left true false d h = h
only_left false b d h = refl

pub only_right : (a b d : Bool) → only a (b && d) ≡ true → only a d ≡ true
only_right true true d h = h
only_right true false d h = clash (sym h)
only_right false b d h = refl

pub traffic_sound_law : (s : Setup) (m : State) (x : Traffic) → TrafficOk s m x → traffic_sound s m x ≡ true
unfolding traffic_sound
traffic_sound_law s m x o =
    rw (
      timer_runs (transmits m && not s.passive) (larger s.ticks.cycle s.ticks.fast) x.message o.message,
      le-leb x.fast (cond (is_repeat m) s.immediate 0) o.fast,
      timer_runs (is_normal m && ltb 0 s.ticks.remote && not x.indicated) s.ticks.remote x.remote o.remote,
      only_left x.repeating (is_repeat m) (not s.passive) o.repeating,
      only_left x.waking (in_network m) (not s.passive) o.waking,
      only_left x.indicated (settled m && ltb 0 s.ticks.remote) (not s.passive) o.indicated,
    )

-- ---- what the rules do

-- a passive channel holds neither bit
record Free (p repeating' waking' : Bool) : Type 0 where
  repeating : only repeating' (not p) ≡ true
  waking : only waking' (not p) ≡ true

free : {s : Setup} {a b d e f : Bool} {m q r : ℕ} {i rp wk : Bool} → Okay s a b d e f m q r i rp wk → Free s.passive rp wk
free {s} {b = b} {e = e} {rp = rp} {wk = wk} o =
    record { repeating = only_right rp b (not s.passive) o.repeating; waking = only_right wk e (not s.passive) o.waking }

pub never : (b : Bool) → only b false ≡ true → b ≡ false
never true h = clash (sym h)
never false h = refl

limit_cycle : (a b : ℕ) → a ≤ larger a b
limit_cycle a b = go (ltb a b) refl
  where
    go : (t : Bool) → ltb a b ≡ t → a ≤ cond t b a
    go true e = omega (arith, ltb-true a b e)
    go false e = omega arith

limit_fast : (a b : ℕ) → b ≤ larger a b
limit_fast a b = go (ltb a b) refl
  where
    go : (t : Bool) → ltb a b ≡ t → b ≤ cond t b a
    go true e = omega arith
    go false e = omega (arith, ltb-false a b e)

module _ (s : Setup) (g : Tuned s.ticks s.immediate) where
  -- a message timer that is loaded with 1, with the offset, with the cycle
  one_fits : (1 ≤ 1) × (1 ≤ larger s.ticks.cycle s.ticks.fast)
  one_fits = (omega arith, omega (arith, g.cycle, limit_cycle s.ticks.cycle s.ticks.fast))

  first_fits : Timer (not s.passive) (larger s.ticks.cycle s.ticks.fast) (first_message s)
  first_fits = go s.passive (ltb s.ticks.offset 1) refl
    where
      go : (p a : Bool) → ltb s.ticks.offset 1 ≡ a
          → Timer (not p) (larger s.ticks.cycle s.ticks.fast) (cond p 0 (cond a 1 s.ticks.offset))
      go true a e = refl
      go false true e = one_fits
      go false false e =
          (omega (arith, ltb-false s.ticks.offset 1 e), omega (arith, g.offset, limit_cycle s.ticks.cycle s.ticks.fast))

  -- Repeat
  repeat_ok : {rp wk : Bool} (x : Traffic) → Free s.passive rp wk
      → Okay s true true false true false (first_message s) 0 0 false rp wk
  repeat_ok x f =
      record { message = first_fits; fast = omega arith; remote = refl; repeating = f.repeating; waking = f.waking; indicated = refl }

  pub to_repeat_law : (m : State) (x : Traffic) → TrafficOk s m x → TrafficOk s RepeatMessage (to_repeat s x)
  unfolding to_repeat
  to_repeat_law m x o = repeat_ok x (free o)

  set_free : (p rp : Bool) → p ≡ false → only rp (not p) ≡ true
  set_free p true e = rw e
  set_free p false e = refl

  -- the remote timer as it is loaded
  watched : (i : Bool) → Timer (ltb 0 s.ticks.remote && not i) s.ticks.remote (cond i 0 s.ticks.remote)
  watched i = go (ltb 0 s.ticks.remote) i refl
    where
      go : (t i : Bool) → ltb 0 s.ticks.remote ≡ t → Timer (t && not i) s.ticks.remote (cond i 0 s.ticks.remote)
      go true true e = refl
      go true false e = (omega (arith, ltb-true 0 s.ticks.remote e), omega arith)
      go false true e = refl
      go false false e = omega (arith, ltb-false 0 s.ticks.remote e)

  pub to_normal_law : (x : Traffic) → s.passive ≡ false → TrafficOk s ReadySleep x → TrafficOk s NormalOperation (to_normal s x)
  unfolding to_normal
  to_normal_law x p o =
      record {
        message = rw p one_fits;
        fast = o.fast;
        remote = watched x.indicated;
        repeating = o.repeating;
        waking = o.waking;
        indicated = o.indicated;
      }

  pub to_ready_law : (x : Traffic) → TrafficOk s NormalOperation x → TrafficOk s ReadySleep (to_ready x)
  unfolding to_ready
  to_ready_law x o =
      record {
        message = refl;
        fast = o.fast;
        remote = refl;
        repeating = o.repeating;
        waking = o.waking;
        indicated = o.indicated;
      }

  -- a message timer that is loaded where it runs
  with_message_law : (m : State) (t : Bool) (n : ℕ) (x : Traffic) → (t ≡ true → (transmits m && not s.passive) ≡ true) → 1 ≤ n
      → n ≤ larger s.ticks.cycle s.ticks.fast → TrafficOk s m x
      → TrafficOk s m (record { message = cond t n x.message; fast = x.fast; remote = x.remote; indicated = x.indicated; repeating = x.repeating; waking = x.waking })
  with_message_law m true n x k a b o =
      record {
        message = rw (k refl) (a, b);
        fast = o.fast;
        remote = o.remote;
        repeating = o.repeating;
        waking = o.waking;
        indicated = o.indicated;
      }
  with_message_law m false n x k a b o = o

  -- fast frames: the fast count is IN, and the message timer 1
  fast_ok : (x : Traffic) → s.passive ≡ false → TrafficOk s RepeatMessage x → TrafficOk s RepeatMessage (with_fast s x)
  fast_ok x p o =
      with_message_law RepeatMessage (has_fast s) 1 _ (λ h. rw p) one_fits.0 one_fits.1
      (record {
        message = o.message;
        fast = loaded (has_fast s);
        remote = o.remote;
        repeating = o.repeating;
        waking = o.waking;
        indicated = o.indicated;
      })
    where
      loaded : (t : Bool) → cond t s.immediate x.fast ≤ s.immediate
      loaded true = omega arith
      loaded false = o.fast

  pub to_repeat_asked_law : (m : State) (x : Traffic) → s.passive ≡ false → TrafficOk s m x → TrafficOk s RepeatMessage (to_repeat_asked s x)
  unfolding to_repeat_asked to_repeat
  to_repeat_asked_law m x p o = fast_ok _ p (repeat_ok x (record { repeating = set_free s.passive true p; waking = (free o).waking }))

  pub to_repeat_active_law : (m : State) (x : Traffic) → s.passive ≡ false → TrafficOk s m x → TrafficOk s RepeatMessage (to_repeat_active s x)
  unfolding to_repeat_active to_repeat
  to_repeat_active_law m x p o = fast_ok _ p (repeat_ok x (record { repeating = (free o).repeating; waking = set_free s.passive true p }))

  -- enabled again: the message timer is 1 where it runs
  talks : (e d p : Bool) → p ≡ false → (not e && d) ≡ true → (d && not p) ≡ true
  talks true d p h w = clash (sym w)
  talks false true p h w = rw h
  talks false false p h w = w

  pub resumed_ok : (m : Mode) (x : Traffic) → s.passive ≡ false → TrafficOk s m.state x → TrafficOk s m.state (resumed m x)
  unfolding resumed
  resumed_ok m x p o =
      with_message_law m.state (not m.sending && transmits m.state) 1 x (talks m.sending (transmits m.state) s.passive p)
      one_fits.0
      one_fits.1
      o

  pub heard_normal : (again : Bool) (x : Traffic) → TrafficOk s NormalOperation x
      → TrafficOk s (cond again RepeatMessage NormalOperation) (heard_in_normal again s x)
  unfolding heard_in_normal
  heard_normal true x o = to_repeat_law NormalOperation x o
  heard_normal false x o =
      record { message = o.message; fast = o.fast; remote = watched false; repeating = o.repeating; waking = o.waking; indicated = refl }

  pub heard_ready : (again : Bool) (x : Traffic) → TrafficOk s ReadySleep x
      → TrafficOk s (cond again RepeatMessage ReadySleep) (heard_in_ready again s x)
  unfolding heard_in_ready
  heard_ready true x o = to_repeat_law ReadySleep x o
  heard_ready false x o =
      record { message = o.message; fast = o.fast; remote = o.remote; repeating = o.repeating; waking = o.waking; indicated = refl }

  -- ---- the tick

  only_any : (i b : Bool) → only i false ≡ true → only i b ≡ true
  only_any true b h = clash (sym h)
  only_any false b h = refl

  pub ready_to_prepare : (x : Traffic) → TrafficOk s ReadySleep x → TrafficOk s PrepareBusSleep (in_ready PrepareBusSleep x)
  unfolding in_ready
  ready_to_prepare x o =
      record { message = o.message; fast = o.fast; remote = o.remote; repeating = o.repeating; waking = refl; indicated = refl }

  pub repeat_to_normal : (x : Traffic) → TrafficOk s RepeatMessage x → TrafficOk s NormalOperation (in_repeat s NormalOperation x)
  unfolding in_repeat
  repeat_to_normal x o =
      record {
        message = o.message;
        fast = omega arith;
        remote = watched x.indicated;
        repeating = refl;
        waking = o.waking;
        indicated = only_any x.indicated (ltb 0 s.ticks.remote && not s.passive) o.indicated;
      }

  pub repeat_to_ready : (x : Traffic) → TrafficOk s RepeatMessage x → TrafficOk s ReadySleep (in_repeat s ReadySleep x)
  unfolding in_repeat
  repeat_to_ready x o =
      record {
        message = refl;
        fast = omega arith;
        remote = refl;
        repeating = refl;
        waking = o.waking;
        indicated = only_any x.indicated (ltb 0 s.ticks.remote && not s.passive) o.indicated;
      }

  pub in_normal_law : (m : Mode) (x : Traffic) → s.passive ≡ false → TrafficOk s NormalOperation x → TrafficOk s NormalOperation (in_normal m x)
  unfolding in_normal
  in_normal_law m x p o = go m.sending (ltb 0 x.remote) refl (ltb 0 s.ticks.remote) refl x.indicated refl
    where
      Down : Traffic
      Down =
          record {
            message = x.message;
            fast = x.fast;
            remote = x.remote - 1;
            indicated = leb x.remote 1;
            repeating = x.repeating;
            waking = x.waking;
          }

      down : (z : Bool) → leb x.remote 1 ≡ z → ltb 0 x.remote ≡ true → ltb 0 s.ticks.remote ≡ true → x.remote ≤ s.ticks.remote
          → TrafficOk s NormalOperation Down
      down true ez e er l =
          let a = leb-true x.remote 1 ez in
          record {
            message = o.message;
            fast = o.fast;
            remote = rw (ez, er) (omega arith);
            repeating = o.repeating;
            waking = o.waking;
            indicated = rw (ez, er, p);
          }
      down false ez e er l =
          let a = leb-false x.remote 1 ez in
          record {
            message = o.message;
            fast = o.fast;
            remote = rw (ez, er) (omega arith, omega arith);
            repeating = o.repeating;
            waking = o.waking;
            indicated = rw ez;
          }

      go : (a t : Bool) → ltb 0 x.remote ≡ t → (z : Bool) → ltb 0 s.ticks.remote ≡ z → (i : Bool) → x.indicated ≡ i
          → TrafficOk s NormalOperation (cond (a && t) Down x)
      go false t e z ez i ei = o
      go true false e z ez i ei = o
      go true true e false ez i ei =
          let w = rw ez at o.remote in let b = ltb-true 0 x.remote e in absurd (omega arith)
      go true true e true ez true ei =
          let w = rw (ez, ei) at o.remote in let b = ltb-true 0 x.remote e in absurd (omega arith)
      go true true e true ez false ei =
          let w = rw (ez, ei) at o.remote in down (leb x.remote 1) refl e ez w.1

  -- step f: the message timer and the fast count
  record Loaded (repeats : Bool) (message fast : ℕ) : Type 0 where
    up : 1 ≤ message
    limit : message ≤ larger s.ticks.cycle s.ticks.fast
    cap : fast ≤ cond repeats s.immediate 0

  some_fast : (r : Bool) (f : ℕ) → f ≤ cond r s.immediate 0 → 1 ≤ f → 1 ≤ s.immediate
  some_fast true f h e = omega arith
  some_fast false f h e = absurd (omega arith)

  sent_loaded_law : (r : Bool) (f : ℕ) → f ≤ cond r s.immediate 0 → (t : Bool) → ltb 1 f ≡ t
      → Loaded r (cond t s.ticks.fast s.ticks.cycle) (f - 1)
  sent_loaded_law r f h true e =
      let i = g.fast (some_fast r f h (omega (arith, ltb-true 1 f e))) in
      record { up = i; limit = limit_fast s.ticks.cycle s.ticks.fast; cap = omega arith }
  sent_loaded_law r f h false e = record { up = g.cycle; limit = limit_cycle s.ticks.cycle s.ticks.fast; cap = omega arith }

  missed_loaded : (r : Bool) (f : ℕ) → f ≤ cond r s.immediate 0 → (t : Bool) → Loaded r (cond t 1 s.ticks.cycle) f
  missed_loaded r f h true = record { up = one_fits.0; limit = one_fits.1; cap = h }
  missed_loaded r f h false = record { up = g.cycle; limit = limit_cycle s.ticks.cycle s.ticks.fast; cap = h }

  pub framed_ok : (m : State) (after : Mode) (taken : Bool) (x : Traffic) → after.state ≡ m → TrafficOk s m x
      → TrafficOk s m (framing s after taken x)
  unfolding framing counts
  framed_ok m after taken x e o =
      rw e
      (go (transmits m && not s.passive && after.sending) (λ h. and_first (transmits m && not s.passive) after.sending h))
    where
      and_first : (a b : Bool) → (a && b) ≡ true → a ≡ true
      and_first true b h = refl
      and_first false b h = h

      New : ℕ → ℕ → Traffic
      New n f =
          record {
            message = n;
            fast = f;
            remote = x.remote;
            indicated = x.indicated;
            repeating = x.repeating;
            waking = x.waking;
          }

      new : (n f : ℕ) → Loaded (is_repeat m) n f → (transmits m && not s.passive) ≡ true → TrafficOk s m (New n f)
      new n f d q =
          record {
            message = rw q (d.up, d.limit);
            fast = d.cap;
            remote = o.remote;
            repeating = o.repeating;
            waking = o.waking;
            indicated = o.indicated;
          }

      due : (k : Bool) → (transmits m && not s.passive) ≡ true → TrafficOk s m (cond k (after_sent s x) (after_missed s x))
      due true q = new _ _ (sent_loaded_law (is_repeat m) x.fast o.fast (ltb 1 x.fast) refl) q
      due false q = new _ _ (missed_loaded (is_repeat m) x.fast o.fast (ltb 0 x.fast)) q

      out : (t : Bool) → leb x.message 1 ≡ t → (transmits m && not s.passive) ≡ true
          → TrafficOk s m (cond t (cond taken (after_sent s x) (after_missed s x)) (New (x.message - 1) x.fast))
      out true z q = due taken q
      out false z q =
          let a = rw q at o.message in
          let b = leb-false x.message 1 z in
          new (x.message - 1) x.fast (record { up = omega arith; limit = omega arith; cap = o.fast }) q

      go : (t : Bool) → (t ≡ true → (transmits m && not s.passive) ≡ true)
          → TrafficOk s m
          (cond t (cond (leb x.message 1) (cond taken (after_sent s x) (after_missed s x)) (New (x.message - 1) x.fast)) x)
      go true h = out (leb x.message 1) refl (h refl)
      go false h = o
