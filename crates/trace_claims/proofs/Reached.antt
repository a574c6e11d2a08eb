-- The channel of a run that goes on is the one that the calls of its lines reach. Assumes nothing.
use mathlib.Core.Path.{◌≡◌, refl, sym, ap, subst, ◌∙◌}
use mathlib.Core.Bool.{Bool, true, false, cond}
use mathlib.Core.List.{List, [], ◌∷◌, ◌++◌}
use Prim.Native.Nat.{ℕ}
use native.Mathlib.Omega.{arith}
use lib.Dec.{eqb}
use borrow.Author.Tests.{eqb-true}
use Rattle.channel.specs.declared.state.Channel.{Channel}
use Rattle.std.specs.Prelude.{Result, Ok, Err, is_ok, ⊤}
use Rattle.answers.specs.declared.BrokenRule.{BrokenRule}
use Rattle.answers.specs.Answers.{Done, ruled}
use Rattle.rules.proofs.Passes.{kept}
use Rattle.channel.specs.Channel.{replied, fresh, initialised, started, zero}
use Rattle.command_names.specs.declared.Command.{Command}
use Rattle.std.specs.Prelude.{Option, Some, None}
use Rattle.config.specs.declared.Config.{Config}
use Rattle.rules.specs.Rules.{first_broken}
use Rattle.time_rules.specs.TimeRules.{ticks_for}
use Rattle.decision.specs.Decision as calls
use Rattle.refusals.specs.Refusals.{is_done}
use Rattle.config_line.specs.ConfigLine.{read_config}
use Rattle.pn_line.specs.PnLine.{is_partial, read_partial}
use Rattle.sleep.specs.Sleep.{reached}
use Rattle.sleep.specs.Sleep as sleep
use Rattle.blocks.specs.Runs.{after}
use Rattle.dispatch.specs.Calls.{carried_out_by}
use Rattle.runs.specs.declared.Phase.{Phase}
use Rattle.runs.specs.declared.Phase.TheVariants.{Second, Running, Ended}
use Rattle.runs.specs.declared.Run.{Run}
use Rattle.runs.specs.Runs.{counted, outcome, passed, run_of}
use Rattle.replay.specs.Replay.{called, doing, later_line, reading_of, replied_with, unread}
use Rattle.config_lines.specs.ConfigLines.{begun, broken, first_line, holding, judged_phase, partial_line}
use Rattle.trace_line.specs.TraceLine.{following, line_in, second_line, step_of}
use Rattle.trace.specs.Trace.{first_run}
use Rattle.trace_claims.specs.Claims.{calls_in, calls_of, config_in, lines_behind}

-- ---- a run that has ended stays so

ended_stays : (run : Run) (ls : List (List ℕ)) → run.phase ≡ Ended → (after step_of run ls).phase ≡ Ended
unfolding after line_in passed
ended_stays run [] e = e
ended_stays run (l ∷ ls) e = ended_stays (step_of run l) ls (ap (λ (p : Phase). (line_in p run l).run.phase) e)

passed_stays : (run : Run) (ls : List (List ℕ)) → (after step_of (passed run Ended) ls).phase ≡ Ended
unfolding passed
passed_stays run ls = ended_stays (passed run Ended) ls refl

not_running : {p : Phase} → p ≡ Ended → p ≡ Running → ⊥
not_running e r = let z : ◌≡◌ {A = ℕ} 0 1 = cc in omega arith

-- ---- lines behind the configuration

pub later_phase : (run : Run) (l : List ℕ) → (later_line run l).run.phase ≡ Running
unfolding later_line unread called replied_with passed
later_phase run l = by_asked (reading_of l).asked (reading_of l).bytes
  where
    by_asked : (a : Option Command) (bytes : List ℕ) → (doing run a bytes).run.phase ≡ Running
    by_asked None bytes = refl
    by_asked (Some k) bytes = refl

later_channel : (run : Run) (l : List ℕ)
    → (later_line run l).run.channel ≡ sleep.after run.channel (calls_of (reading_of l).asked (reading_of l).bytes)
unfolding later_line unread called replied_with passed carried_out_by
later_channel run l = by_asked (reading_of l).asked (reading_of l).bytes
  where
    by_asked : (a : Option Command) (bytes : List ℕ) → (doing run a bytes).run.channel ≡ sleep.after run.channel (calls_of a bytes)
    by_asked None bytes = refl
    by_asked (Some k) bytes = refl

after_append : (ch : Channel) (a b : List calls.Call) → sleep.after (sleep.after ch a) b ≡ sleep.after ch (a ++ b)
after_append ch [] b = refl
after_append ch (x ∷ a) b = after_append (replied ch x).channel a b

step_running : (run : Run) (l : List ℕ) → run.phase ≡ Running → step_of run l ≡ (later_line run l).run
unfolding line_in
step_running run l e = ap (λ (p : Phase). (line_in p run l).run) e

running : (run : Run) (ls : List (List ℕ)) → run.phase ≡ Running → (after step_of run ls).channel ≡ sleep.after run.channel (calls_in ls)
unfolding after calls_in
running run [] e = refl
running run (l ∷ ls) e =
    let s = step_running run l e in
    running (step_of run l) ls (ap (λ (r : Run). r.phase) s ∙ later_phase run l)
    ∙ ap (λ (ch : Channel). sleep.after ch (calls_in ls)) (ap (λ (r : Run). r.channel) s ∙ later_channel run l)
    ∙ after_append run.channel (calls_of (reading_of l).asked (reading_of l).bytes) (calls_in ls)

-- ---- the configuration is judged

-- the run's channel is what calls reach in one of a configuration that passes
pub record From (c : Config) (xs : List calls.Call) (run : Run) : Type 0 where
  pub passes : first_broken c ≡ Ok tt
  pub channel : run.channel ≡ reached c xs

begun_run : (c : Config) (n : ℕ)
    → (begun c n).run ≡ cond (is_ok (first_broken c)) (run_of Running n (fresh c (ticks_for c))) (run_of Ended n zero)
unfolding begun initialised
begun_run c n = by_rule (first_broken c)
  where
    by_rule : (r : Result ⊤ BrokenRule)
        → (let s = cond (is_ok r) (started (fresh c (ticks_for c)) Done) (started zero (ruled r)) in run_of (judged_phase (is_done s.answer)) n s.channel)
        ≡ cond (is_ok r) (run_of Running n (fresh c (ticks_for c))) (run_of Ended n zero)
    by_rule (Ok done) = refl
    by_rule (Err rule) = refl

pub begun_from : (c : Config) (n : ℕ) (ls : List (List ℕ)) → (after step_of (begun c n).run ls).phase ≡ Running → From c (calls_in ls) (after step_of (begun c n).run ls)
begun_from c n ls h = rw (begun_run c n) (by_rule (is_ok (first_broken c)) refl (rw (begun_run c n) at h))
  where
    by_rule : (t : Bool) → is_ok (first_broken c) ≡ t
        → (after step_of (cond t (run_of Running n (fresh c (ticks_for c))) (run_of Ended n zero)) ls).phase ≡ Running
        → From c (calls_in ls) (after step_of (cond t (run_of Running n (fresh c (ticks_for c))) (run_of Ended n zero)) ls)
    by_rule true e r = record { passes = kept (first_broken c) e; channel = running (run_of Running n (fresh c (ticks_for c))) ls refl }
    by_rule false e r = absurd (not_running (ended_stays (run_of Ended n zero) ls refl) r)

-- ---- line 2

-- a line behind the judged configuration is a line like any other
following_step : (c : Config) (n : ℕ) (l : List ℕ) → (following (begun c n).run l).run ≡ step_of (begun c n).run l
unfolding following line_in
following_step c n l = rw (begun_run c n) (by_rule (is_ok (first_broken c)))
  where
    by_rule : (t : Bool)
        → (following (cond t (run_of Running n (fresh c (ticks_for c))) (run_of Ended n zero)) l).run
        ≡ step_of (cond t (run_of Running n (fresh c (ticks_for c))) (run_of Ended n zero)) l
    by_rule true = refl
    by_rule false = refl

-- a line 2 that is no PN line
plain_second : (c : Config) (n : ℕ) (m : List ℕ) (ls : List (List ℕ)) → is_partial m ≡ false
    → after step_of (second_line (holding Second n c) m).run ls ≡ after step_of (begun c n).run (m ∷ ls)
unfolding second_line after holding fresh
plain_second c n m ls e = rw e (ap (λ (r : Run). after step_of r ls) (following_step c n m))

-- a PN line
partial_second : (run : Run) (m : List ℕ) → is_partial m ≡ true → second_line run m ≡ partial_line run m
unfolding second_line
partial_second run m e = rw e

broken_stays : (run : Run) (ls : List (List ℕ)) → (after step_of (broken run).run ls).phase ≡ Ended
unfolding broken
broken_stays run ls = passed_stays run ls

partial_from : (c : Config) (n : ℕ) (m : List ℕ) (ls : List (List ℕ)) → (after step_of (partial_line (holding Second n c) m).run ls).phase ≡ Running
    → From (read_partial c m).config (calls_in ls) (after step_of (partial_line (holding Second n c) m).run ls)
unfolding partial_line holding fresh
partial_from c n m ls h = by_read (read_partial c m).readable h
  where
    by_read : (t : Bool)
        → (after step_of (cond t (begun (read_partial c m).config (counted n)) (broken (holding Second n c))).run ls).phase ≡ Running
        → From (read_partial c m).config (calls_in ls) (after step_of (cond t (begun (read_partial c m).config (counted n)) (broken (holding Second n c))).run ls)
    by_read true r = begun_from (read_partial c m).config (counted n) ls r
    by_read false r = absurd (not_running (broken_stays (holding Second n c) ls) r)

second_from : (c : Config) (n : ℕ) (m : List ℕ) (ls : List (List ℕ)) → (after step_of (second_line (holding Second n c) m).run ls).phase ≡ Running
    → From (cond (is_partial m) (read_partial c m).config c) (calls_in (cond (is_partial m) ls (m ∷ ls))) (after step_of (second_line (holding Second n c) m).run ls)
second_from c n m ls h = by_name (is_partial m) refl
  where
    by_name : (t : Bool) → is_partial m ≡ t
        → From (cond t (read_partial c m).config c) (calls_in (cond t ls (m ∷ ls))) (after step_of (second_line (holding Second n c) m).run ls)
    by_name true e = let s = partial_second (holding Second n c) m e in rw s (partial_from c n m ls (rw s at h))
    by_name false e = let s = plain_second c n m ls e in rw s (begun_from c n (m ∷ ls) (rw s at h))

pub held_step : (n : ℕ) (c : Config) (m : List ℕ) → step_of (holding Second n c) m ≡ (second_line (holding Second n c) m).run
unfolding line_in holding
held_step n c m = refl

-- ---- line 1

pub first_run_law : (l : List ℕ)
    → step_of first_run l ≡ cond (read_config l).readable (holding Second (counted 0) (read_config l).config) (passed first_run Ended)
unfolding line_in first_line broken first_run holding
first_run_law l = by_read (read_config l).readable
  where
    by_read : (t : Bool)
        → (cond t (outcome (holding Second (counted 0) (read_config l).config) []) (broken first_run)).run
        ≡ cond t (holding Second (counted 0) (read_config l).config) (passed first_run Ended)
    by_read true = refl
    by_read false = refl

-- behind line 1 alone a run does not go on yet
pub first_waits : (l : List ℕ) → (step_of first_run l).phase ≡ Running → ⊥
unfolding holding passed
first_waits l h = by_read (read_config l).readable (rw (first_run_law l) at h)
  where
    by_read : (t : Bool) → (cond t (holding Second (counted 0) (read_config l).config) (passed first_run Ended)).phase ≡ Running → ⊥
    by_read true r = let z : ◌≡◌ {A = ℕ} 0 1 = cc in omega arith
    by_read false r = let z : ◌≡◌ {A = ℕ} 0 1 = cc in omega arith

-- from two lines on
pub reached_from : (l m : List ℕ) (ls : List (List ℕ)) → (after step_of first_run (l ∷ m ∷ ls)).phase ≡ Running
    → From (config_in (l ∷ m ∷ ls)) (calls_in (lines_behind (l ∷ m ∷ ls))) (after step_of first_run (l ∷ m ∷ ls))
unfolding after config_in lines_behind
reached_from l m ls h =
    let e = first_run_law l in
    subst (λ (r : Run). Behind r) (sym e) (by_read (read_config l).readable (subst (λ (r : Run). (after step_of (step_of r m) ls).phase ≡ Running) e h))
  where
    Behind : Run → Type 0
    Behind r =
        From (cond (is_partial m) (read_partial (read_config l).config m).config (read_config l).config) (calls_in (cond (is_partial m) ls (m ∷ ls)))
        (after step_of (step_of r m) ls)

    by_read : (t : Bool)
        → (after step_of (step_of (cond t (holding Second (counted 0) (read_config l).config) (passed first_run Ended)) m) ls).phase ≡ Running
        → Behind (cond t (holding Second (counted 0) (read_config l).config) (passed first_run Ended))
    by_read true r =
        let e = held_step (counted 0) (read_config l).config m in
        rw e (second_from (read_config l).config (counted 0) m ls (rw e at r))
    by_read false r = absurd (not_running (passed_stays first_run (m ∷ ls)) r)
