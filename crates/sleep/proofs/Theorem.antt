-- In which tick a channel sleeps: the claims of specs/Sleep, for every configuration that passes and every list of calls.
-- Assumes nothing.
use Rattle.std.specs.Prelude.{Ok}
use Prim.Native.Nat.{◌≤◌}
use mathlib.Core.Path.{◌≡◌, refl}
use mathlib.Core.Bool.{Bool, true, false}
use mathlib.Core.List.{List, [], ◌∷◌, ◌++◌}
use mathlib.Core.Logic.{◌↔◌}
use native.Mathlib.Omega.{arith}
use lib.ListN.{take}
use borrow.Author.Tests.{lt-ltb}
use Rattle.timers.proofs.Timers.{within_zeros}
use Rattle.config.specs.declared.Config.{Config}
use Rattle.config.specs.Times.{Ticks}
use Rattle.config.specs.Ranges.{pnc_most}
use Rattle.rules.specs.Rules.{first_broken}
use Rattle.time_rules.specs.TimeRules.{ticks_for}
use Rattle.rules.proofs.Passes.{passes}
use Rattle.states.specs.declared.Mode.{Mode}
use Rattle.decision.specs.Decision.{Call}
use Rattle.traffic.specs.Traffic.{setup_of}
use Rattle.channel.specs.declared.state.Channel.{Channel}
use Rattle.channel.specs.Channel.{replied, fresh, fresh_mode, fresh_traffic, sound}
use Rattle.sleep.specs.Summary.{summarised, none, Summary, blank, history}
use Rattle.sleep.specs.Sleep.{Told, told, Enters, Due, Sleeps, after, reached, EveryChannelSleeps}
use Rattle.sleep.proofs.Simulation.{Fit, asleep}
use Rattle.sleep.proofs.Entering.{mode_step, mode_run, agree, entered, reached_together}
use Rattle.sleep.proofs.Quieting
use Rattle.sleep.proofs.Counting.{since_last, since_never}
use Rattle.sleep.proofs.Passing.{fit, tuned}
use Rattle.sleep.proofs.Whole.{Passed, Whole, whole, is_sound, step_whole}

-- ---- the mode over whole lists, in any host

run_then : (c : Config) (t : Ticks) (xs ys : List Call) (m : Mode) → mode_run c t m (xs ++ ys) ≡ mode_run c t (mode_run c t m xs) ys
run_then c t [] ys m = refl
run_then c t (x ∷ xs) ys m = run_then c t xs ys (mode_step c t m x)

-- it is enough that the channel's mode runs as the mode alone does, and that the channel is sound
module _ (c : Config) (t : Ticks) (f : Fit t) (A : Type 0) (mode : List A → Mode) (okay : List A → Bool) (calls : List A → List Call)
    (follows : (xs : List A) → mode xs ≡ mode_run c t fresh_mode (calls xs)) where
  one_more : (xs : List A) (x : A) (y : Call) → calls (xs ++ (x ∷ [])) ≡ calls xs ++ (y ∷ [])
      → Enters (mode xs) (mode (xs ++ (x ∷ []))) ↔ Due c t (history c t blank (calls xs)) y
  one_more xs x y e =
      let d = entered c f (calls xs) y in
      let p : mode (xs ++ (x ∷ [])) ≡ mode_step c t (mode_run c t fresh_mode (calls xs)) y =
      rw (follows (xs ++ (x ∷ [])), e) (run_then c t (calls xs) (y ∷ []) fresh_mode) in (
        λ h. d.0 (record { before = rw (follows xs) at h.before; now = rw p at h.now }),
        λ h. let k = d.1 h in record { before = rw (follows xs) k.before; now = rw p k.now },
      )

  pub lifted : ((xs : List A) → okay xs ≡ true) → ((xs : List A) (x : A) → Told (calls xs) (calls (xs ++ (x ∷ []))))
      → Sleeps c t A mode okay calls
  lifted s h =
      record {
        sound = s;
        hears = h;
        agrees = λ xs. rw (follows xs) (agree c f (calls xs));
        same = λ xs. rw (follows xs) (Quieting.same (reached_together c f (calls xs)));
        enters = one_more;
        unmoved = λ xs x e. rw (follows (xs ++ (x ∷ [])), e, follows xs);
        counts = λ xs ys x zs e k u. rw e (since_last c t ys x zs k u);
        counts_none = λ xs u. since_never c t (calls xs) u;
        sleeps = λ xs ys zs e r n q l.
            rw (follows (xs ++ ys), e) (Quieting.sleeps c f (calls xs) zs (rw (follows xs) at r) (rw (follows xs) at n) q l);
        rests = λ xs ys zs e b q. rw (follows (xs ++ ys), e) (Quieting.rests c f (calls xs) zs (rw (follows xs) at b) q);
      }

-- ---- the channel alone

run_whole : {c : Config} {t : Ticks} → Passed c t → {ch : Channel} {b : Summary} → Whole c t ch b → (xs : List Call)
    → Whole c t (after ch xs) (history c t b xs) × ((after ch xs).own.mode ≡ mode_run c t ch.own.mode xs)
run_whole g w [] = (w, refl)
run_whole {c = c} {t = t} g {ch = ch} {b = b} w (x ∷ xs) =
    let n = step_whole g w x in
    let r = run_whole g {ch = (replied ch x).channel} {b = summarised c t b x} n.0 xs in (r.0, rw (← n.1) r.1)

begin : (c : Config) (t : Ticks) → Whole c t (fresh c t) blank
unfolding fresh
begin c t =
    whole {m = fresh_mode} {x = fresh_traffic} (asleep {f = false} {k = none} tt) (record { unasked = λ h. refl; sends = λ h. refl })
    (record { message = refl; fast = omega arith; remote = refl; repeating = refl; waking = refl; indicated = refl })
    (within_zeros (take c.pn.length c.pn.mask) t.reset pnc_most)
    (within_zeros (take c.pn.length c.pn.mask) t.reset pnc_most)

immediate_is : (c : Config) (t : Ticks) → c.immediate ≤ 255 → (setup_of c t).immediate ≡ c.immediate
unfolding setup_of
immediate_is c t h = rw (lt-ltb c.immediate 65536 (omega arith))

passed : (c : Config) → first_broken c ≡ Ok tt → Passed c (ticks_for c)
passed c e =
    let ok = passes c e in
    let g = tuned c ok in
    record { passes = e; ticks = refl; fit = fit c ok; tuned = rw (immediate_is c (ticks_for c) g.small) g }

follows : (c : Config) → Passed c (ticks_for c) → (xs : List Call) → (reached c xs).own.mode ≡ mode_run c (ticks_for c) fresh_mode xs
unfolding fresh
follows c g xs = (run_whole g (begin c (ticks_for c)) xs).1

pub every_channel_sleeps : EveryChannelSleeps
every_channel_sleeps c e =
    let g = passed c e in
    lifted c (ticks_for c) g.fit Call (λ xs. (reached c xs).own.mode) (λ xs. sound (reached c xs)) (λ xs. xs)
    (λ xs. follows c g xs)
    (λ xs. is_sound g (run_whole g (begin c (ticks_for c)) xs).0)
    (λ xs x. told x)
