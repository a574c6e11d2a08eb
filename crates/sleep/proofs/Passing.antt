-- What the proofs use of a configuration that passes, in ticks. Assumes nothing.
use Rattle.std.specs.Result.{result_unwrap_or}
use Prim.Native.Nat.{ℕ, zero, suc, ◌≤◌, ◌<◌}
use mathlib.Core.Path.{◌≡◌, refl}
use mathlib.Core.Bool.{true, ◌&&◌, ◌||◌}
use mathlib.Core.Logic.{⊎_elim}
use native.Mathlib.Omega.{arith}
use lib.Dec.{leb, eqb}
use borrow.Author.Tests.{leb-true, ltb-true, eqb-true, le-leb}
use Rattle.choice.proofs.Tests.{and_left, and_right, or_cases}
use Rattle.ticks.specs.Ticks.{conversion_of, ticks_of}
use Rattle.ticks.proofs.Rounding.{some_tick}
use Rattle.config.specs.declared.Config.{Config}
use Rattle.config.specs.Times.{Ticks}
use Rattle.config.specs.Bounds.{cycle_row, fast_row, immediate_row, node_row, offset_row, remote_row, repeat_row, reset_row, timeout_row, wait_row, within}
use Rattle.time_rules.specs.TimeRules.{in_ticks, rule1, rule2, rule3, rule4, ticks_for, times_within}
use Rattle.rules.proofs.Passes.{Passes}
use Rattle.sleep.proofs.Simulation.{Fit}

-- a time of at least a millisecond takes at least a tick
takes : (p ms : ℕ) → 1 ≤ p → p ≤ 100 → 1 ≤ ms → ms ≤ 65535 → 1 ≤ result_unwrap_or (conversion_of p ms) 0
unfolding conversion_of
takes p ms a b d e = rw (le-leb 1 p a, le-leb p 100 b, le-leb ms 65535 e) (go (ticks_of p ms) refl)
  where
    go : (n : ℕ) → ticks_of p ms ≡ n → 1 ≤ n
    go zero w = absurd (some_tick p ms a d w)
    go (suc n) w = omega arith

-- message timer and fast count
pub record Tuned (t : Ticks) (immediate : ℕ) : Type 0 where
  pub cycle : 1 ≤ t.cycle
  pub offset : t.offset < t.cycle
  pub fast : 1 ≤ immediate → 1 ≤ t.fast
  pub small : immediate ≤ 255

-- a value within a row that starts at 1
from_one : (v : ℕ) → (leb 1 v && leb v 65535) ≡ true → (1 ≤ v) × (v ≤ 65535)
from_one v e = (leb-true 1 v (and_left (leb 1 v) (leb v 65535) e), leb-true v 65535 (and_right (leb 1 v) (leb v 65535) e))

module _ (c : Config) (ok : Passes c) where
  period : (1 ≤ c.period) × (c.period ≤ 100)
  unfolding rule1 within
  period = (
    leb-true 1 c.period (and_left (leb 1 c.period) (leb c.period 100) ok.period),
    leb-true c.period 100 (and_right (leb 1 c.period) (leb c.period 100) ok.period),
  )

  -- rule 2, field by field
  record Times : Type 0 where
    timeout : within timeout_row c.times.timeout ≡ true
    wait : within wait_row c.times.wait ≡ true
    repeat : within repeat_row c.times.repeat ≡ true
    cycle : within cycle_row c.times.cycle ≡ true
    immediate : within immediate_row c.immediate ≡ true

  times : Times
  unfolding rule2 times_within
  times =
      let t = c.times in
      let a = within timeout_row t.timeout in
      let b = within wait_row t.wait in
      let d = within repeat_row t.repeat in
      let e = within cycle_row t.cycle in
      let f = within offset_row t.offset in
      let g = within fast_row t.fast in
      let h = within remote_row t.remote in
      let i = within reset_row t.reset in
      let j = within immediate_row c.immediate in
      let k = within node_row c.node in
      let both = and_left (times_within t && j) k ok.bounds in
      let e7 = and_left (a && b && d && e && f && g && h) i (and_left (times_within t) j both) in
      let e4 = and_left (a && b && d && e) f (and_left (a && b && d && e && f) g (and_left (a && b && d && e && f && g) h e7)) in
      let e3 = and_left (a && b && d) e e4 in
      let e2 = and_left (a && b) d e3 in
      record {
        timeout = and_left a b e2;
        wait = and_right a b e2;
        repeat = and_right (a && b) d e3;
        cycle = and_right (a && b && d) e e4;
        immediate = and_right (times_within t) j both;
      }

  at_least : (ms : ℕ) → (leb 1 ms && leb ms 65535) ≡ true → 1 ≤ in_ticks c ms
  at_least ms e = takes c.period ms period.0 period.1 (from_one ms e).0 (from_one ms e).1

  pub fit : Fit (ticks_for c)
  unfolding ticks_for within
  fit =
      record {
        timeout = at_least c.times.timeout times.timeout;
        wait = at_least c.times.wait times.wait;
        repeat = at_least c.times.repeat times.repeat;
      }

  quick : (t : Ticks) (n : ℕ) → (eqb n 0 || leb 1 t.fast) ≡ true → 1 ≤ n → 1 ≤ t.fast
  quick t n e h =
      ⊎_elim (λ z. let w = eqb-true n 0 z in absurd (omega arith)) (λ z. leb-true 1 t.fast z) (or_cases (eqb n 0) (leb 1 t.fast) e)

  pub tuned : Tuned (ticks_for c) c.immediate
  unfolding ticks_for within rule3 rule4
  tuned =
      record {
        cycle = at_least c.times.cycle times.cycle;
        offset = ltb-true (ticks_for c).offset (ticks_for c).cycle ok.offset;
        fast = quick (ticks_for c) c.immediate ok.fast;
        small = leb-true c.immediate 255 (and_right (leb 0 c.immediate) (leb c.immediate 255) times.immediate);
      }
