-- The channel of a run at the end of the input is the one that the calls of its lines reach. Assumes nothing.
use mathlib.Core.Path.{◌≡◌, refl, sym, ap, subst, ◌∙◌}
use mathlib.Core.Bool.{Bool, true, false, false≢true, cond}
use mathlib.Core.List.{List, [], ◌∷◌}
use Prim.Native.Nat.{ℕ}
use native.Mathlib.Omega.{arith}
use Rattle.channel.specs.Channel.{fresh, initialised}
use Rattle.config.specs.declared.Config.{Config}
use Rattle.refusals.specs.Refusals.{is_done}
use Rattle.config_line.specs.ConfigLine.{read_config}
use Rattle.pn_line.specs.PnLine.{is_partial, read_partial}
use Rattle.blocks.specs.Runs.{after}
use Rattle.runs.specs.declared.Phase.{Phase}
use Rattle.runs.specs.declared.Phase.TheVariants.{First, Second, Running, Ended}
use Rattle.runs.specs.declared.Run.{Run}
use Rattle.runs.specs.Runs.{Outcome, counted, passed}
use Rattle.config_lines.specs.ConfigLines.{begun, broken, holding, judged_phase, partial_line}
use Rattle.trace_line.specs.TraceLine.{ending, ending_in, following, is_running, line_in, second_line, step_of}
use Rattle.trace.specs.Trace.{first_run}
use Rattle.trace_claims.specs.Claims.{calls_in, config_in, lines_behind}
use Rattle.trace_claims.proofs.Either.{either}
use Rattle.trace_claims.proofs.Reached.{From, begun_from, first_run_law, held_step, later_phase, reached_from}

-- ---- behind two lines the configuration is judged

abbrev settled : Phase → Bool
settled First = false
settled Second = false
settled Running = true
settled Ended = true

settled_step : (run : Run) (l : List ℕ) → settled run.phase ≡ true → settled (step_of run l).phase ≡ true
unfolding line_in passed
settled_step run l h = by_phase run.phase h
  where
    by_phase : (p : Phase) → settled p ≡ true → settled (line_in p run l).run.phase ≡ true
    by_phase First e = absurd (false≢true e)
    by_phase Second e = absurd (false≢true e)
    by_phase Running e = ap settled (later_phase run l)
    by_phase Ended e = refl

settled_stays : (run : Run) (ls : List (List ℕ)) → settled run.phase ≡ true → settled (after step_of run ls).phase ≡ true
unfolding after
settled_stays run [] e = e
settled_stays run (l ∷ ls) e = settled_stays (step_of run l) ls (settled_step run l e)

abbrev Settled : Outcome → Type 0
Settled o = settled o.run.phase ≡ true

begun_settled : (c : Config) (n : ℕ) → Settled (begun c n)
unfolding begun
begun_settled c n = by_answer (is_done (initialised c).answer)
  where
    by_answer : (t : Bool) → settled (judged_phase t) ≡ true
    by_answer true = refl
    by_answer false = refl

partial_settled : (run : Run) (m : List ℕ) → Settled (partial_line run m)
unfolding partial_line broken passed
partial_settled run m = either Settled (read_partial run.channel.own.config m).readable (begun_settled _ _) refl

following_settled : (run : Run) (m : List ℕ) → settled run.phase ≡ true → Settled (following run m)
unfolding following passed
following_settled run m e = either Settled (is_running run.phase) (ap settled (later_phase run m)) e

second_settled : (run : Run) (m : List ℕ) → Settled (second_line run m)
unfolding second_line
second_settled run m = either Settled (is_partial m) (partial_settled run m) (following_settled _ m (begun_settled _ _))

settled_ended : settled (passed first_run Ended).phase ≡ true
unfolding passed
settled_ended = refl

two_settled : (l m : List ℕ) → settled (step_of (step_of first_run l) m).phase ≡ true
two_settled l m = subst (λ (r : Run). settled (step_of r m).phase ≡ true) (sym (first_run_law l)) (by_read (read_config l).readable)
  where
    by_read : (t : Bool) → settled (step_of (cond t (holding Second (counted 0) (read_config l).config) (passed first_run Ended)) m).phase ≡ true
    by_read true = ap (λ (r : Run). settled r.phase) (held_step (counted 0) (read_config l).config m) ∙ second_settled (holding Second (counted 0) (read_config l).config) m
    by_read false = settled_step (passed first_run Ended) m settled_ended

-- ---- the end of the input

-- where the configuration is judged, the end changes nothing
ending_settled : (run : Run) → settled run.phase ≡ true → (ending run).run ≡ run
unfolding ending
ending_settled run h = by_phase run.phase h
  where
    by_phase : (p : Phase) → settled p ≡ true → (ending_in p run).run ≡ run
    by_phase First e = absurd (false≢true e)
    by_phase Second e = absurd (false≢true e)
    by_phase Running e = refl
    by_phase Ended e = refl

-- behind line 1 alone it judges the configuration
lone_from : (l : List ℕ) → (ending (step_of first_run l)).run.phase ≡ Running → From (read_config l).config [] (ending (step_of first_run l)).run
unfolding ending holding passed after calls_in fresh
lone_from l h = subst (λ (r : Run). From (read_config l).config [] (ending r).run) (sym (first_run_law l)) (by_read (read_config l).readable (subst (λ (r : Run). (ending r).run.phase ≡ Running) (first_run_law l) h))
  where
    by_read : (t : Bool)
        → (ending (cond t (holding Second (counted 0) (read_config l).config) (passed first_run Ended))).run.phase ≡ Running
        → From (read_config l).config [] (ending (cond t (holding Second (counted 0) (read_config l).config) (passed first_run Ended))).run
    by_read true r = begun_from (read_config l).config (counted 0) [] r
    by_read false r = let z : ◌≡◌ {A = ℕ} 0 1 = cc in absurd (omega arith)

pub end_reached : (ls : List (List ℕ)) → (ending (after step_of first_run ls)).run.phase ≡ Running
    → From (config_in ls) (calls_in (lines_behind ls)) (ending (after step_of first_run ls)).run
unfolding after config_in lines_behind calls_in ending first_run holding
end_reached [] h = let z : ◌≡◌ {A = ℕ} 0 1 = cc in absurd (omega arith)
end_reached (l ∷ []) h = lone_from l h
end_reached (l ∷ m ∷ ls) h =
    let r = after step_of first_run (l ∷ m ∷ ls) in
    let e = ending_settled r (settled_stays (step_of (step_of first_run l) m) ls (two_settled l m)) in
    rw e (reached_from l m ls (rw e at h))
