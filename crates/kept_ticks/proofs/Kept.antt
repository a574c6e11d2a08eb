-- Ticks that are kept beside the configuration: where they are right, the rules judge as with the ticks computed anew.
-- Assumes nothing.
use mathlib.Core.Path.{◌≡◌, refl}
use mathlib.Core.Bool.{Bool, true, false, ◌&&◌, and-false}
use lib.Dec.{eqb}
use Rattle.std.specs.Prelude.{is_ok}
use borrow.Author.Tests.{eqb-true}
use Rattle.choice.proofs.Tests.{and_left, and_right}
use Rattle.config.specs.declared.Config.{Config}
use Rattle.config.specs.Times.{Ticks}
use Rattle.rules.specs.Rules.{first_broken, first_broken_by}
use Rattle.time_rules.specs.TimeRules.{ticks_for}
use Rattle.kept_ticks.specs.KeptTicks.{same_ticks, configured}

pub same_ticks_law : (t u : Ticks) → same_ticks t u ≡ true → t ≡ u
same_ticks_law t u e =
    let a = eqb t.timeout u.timeout in
    let b = eqb t.wait u.wait in
    let c = eqb t.repeat u.repeat in
    let d = eqb t.cycle u.cycle in
    let f = eqb t.offset u.offset in
    let g = eqb t.fast u.fast in
    let h = eqb t.remote u.remote in
    let i = eqb t.reset u.reset in
    let e7 = and_left (a && b && c && d && f && g && h) i e in
    let e6 = and_left (a && b && c && d && f && g) h e7 in
    let e5 = and_left (a && b && c && d && f) g e6 in
    let e4 = and_left (a && b && c && d) f e5 in
    let e3 = and_left (a && b && c) d e4 in
    let e2 = and_left (a && b) c e3 in
    rw (
      eqb-true t.timeout u.timeout (and_left a b e2),
      eqb-true t.wait u.wait (and_right a b e2),
      eqb-true t.repeat u.repeat (and_right (a && b) c e3),
      eqb-true t.cycle u.cycle (and_right (a && b && c) d e4),
      eqb-true t.offset u.offset (and_right (a && b && c && d) f e5),
      eqb-true t.fast u.fast (and_right (a && b && c && d && f) g e6),
      eqb-true t.remote u.remote (and_right (a && b && c && d && f && g) h e7),
      eqb-true t.reset u.reset (and_right (a && b && c && d && f && g && h) i e),
    )

pub judged_alike : (c : Config) (t : Ticks) → (is_ok (first_broken_by c t) && same_ticks t (ticks_for c)) ≡ configured c t
unfolding configured first_broken
judged_alike c t = go (same_ticks t (ticks_for c)) refl
  where
    go : (s : Bool) → same_ticks t (ticks_for c) ≡ s → (is_ok (first_broken_by c t) && s) ≡ (is_ok (first_broken_by c (ticks_for c)) && s)
    go true e = rw (same_ticks_law t (ticks_for c) e)
    go false e = rw (and-false (is_ok (first_broken_by c t)), and-false (is_ok (first_broken_by c (ticks_for c))))
