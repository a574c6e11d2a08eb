-- Every case of the table holds: one test that is computed over the whole table, and one law that turns it into an equation
-- for each case. Assumes nothing.
use mathlib.Core.Path.{◌≡◌, refl}
use mathlib.Core.Bool.{Bool, true, false, ◌&&◌, false≢true, xor}
use mathlib.Core.List.{List, [], ◌∷◌}
use Prim.Native.Nat.{ℕ, zero, suc, ◌<◌}
use native.Mathlib.Nat.{le_of_suc-le-suc, not-suc-le-zero}
use lib.Dec.{eqb}
use lib.ListN.{length, get_or}
use borrow.Author.Tests.{eqb-true}
use Rattle.choice.proofs.Tests.{and_left, and_right}
use Rattle.ticks.specs.Ticks.{conversion_of, ticks_of}
use Rattle.bits.specs.Bits.{some_masked}
use Rattle.config.specs.Bounds.{within}
use Rattle.config.specs.Ranges.{header_length}
use Rattle.rules.specs.Rules.{first_broken, first_broken_by}
use Rattle.time_rules.specs.TimeRules.{ticks_for, rule1, rule2, rule3, rule4, rule5, times_within}
use Rattle.header_rules.specs.HeaderRules.{rule6, rule7}
use Rattle.pn_rules.specs.PnRules.{rule8, pn_range, pn_time, pn_absent}
use Rattle.filter.specs.Filter.{verdict_of, keeps}
use Rattle.timers.specs.Timers.{all_within, counted_down, loaded_where}
use Rattle.vectors.specs.Vectors.{vectors_differ}
use Rattle.decision.specs.Decision.{rule_at, table}
use Rattle.modes.specs.Mode.{enabled, enter_network, enter_repeat, heard, restart}
use Rattle.mode_steps.specs.ModeSteps.{nm_in_ready, nm_in_repeat_or_normal, prepared, repeat_in_repeat, wait_in_prepare}
use Rattle.mode_transitions.specs.ModeTransitions.{mode_by}
use Rattle.traffic_transitions.specs.TrafficTransitions.{traffic_by}
use Rattle.traffic_steps.specs.TrafficSteps.{in_normal, in_ready, in_repeat}
use Rattle.traffic.specs.Traffic.{setup_of, to_repeat}
use Rattle.sending.specs.Sending.{counts, framing, is_due}
use Rattle.notes.specs.Notes.{first_by, second_by}
use Rattle.kept_ticks.specs.KeptTicks.{configured}
use Rattle.conditions.specs.Conditions.{mode_sound, passive_sound, traffic_sound}
use Rattle.soundness.specs.Sound.{scalars_sound}
use Rattle.heard.specs.Heard.{accepted, asks_repeat, loaded_by}
use Rattle.frames.specs.Frames.{sent_loaded}
use Rattle.refusals.specs.Refusals.{refusal}
use Rattle.channel.specs.Channel.{
  again_for,
  answer_of,
  carried_out,
  eira_after,
  era_after,
  fresh,
  heard_by,
  initialised,
  mode_after,
  notes_after,
  own_after,
  refused,
  replied,
  requests_after,
  rule_for,
  sends,
  sound,
  traffic_after,
  traffic_moved,
  user_after,
}
use Rattle.cases.specs.Cases.{Case}
use Rattle.cases.specs.Cases as cases

-- two lists of numbers are equal, as a test
same : List ℕ → List ℕ → Bool
same [] [] = true
same [] (b ∷ ys) = false
same (a ∷ xs) [] = false
same (a ∷ xs) (b ∷ ys) = eqb a b && same xs ys

same_true : (a b : List ℕ) → same a b ≡ true → a ≡ b
unfolding same
same_true [] [] e = refl
same_true [] (b ∷ ys) e = absurd (false≢true e)
same_true (a ∷ xs) [] e = absurd (false≢true e)
same_true (a ∷ xs) (b ∷ ys) e = rw (eqb-true a b (and_left (eqb a b) (same xs ys) e), same_true xs ys (and_right (eqb a b) (same xs ys) e))

-- each case of a table passes the test
pass : List Case → Bool
pass [] = true
pass (x ∷ xs) = same x.got x.wanted && pass xs

each : (xs : List Case) (none : Case) → pass xs ≡ true → (k : ℕ) → k < length xs → (get_or xs k none).got ≡ (get_or xs k none).wanted
unfolding pass
each [] d e k h = absurd (not-suc-le-zero h)
each (x ∷ xs) d e zero h = same_true x.got x.wanted (and_left (same x.got x.wanted) (pass xs) e)
each (x ∷ xs) d e (suc k) h = each xs d (and_right (same x.got x.wanted) (pass xs) e) k (le_of_suc-le-suc h)

all_pass : pass cases.table ≡ true
unfolding pass same conversion_of ticks_of first_broken first_broken_by ticks_for rule1 rule2 rule3 rule4 rule5 rule6 rule7 rule8 times_within pn_range pn_time pn_absent within header_length verdict_of keeps some_masked initialised fresh replied answer_of refused carried_out own_after notes_after mode_after traffic_after traffic_moved user_after requests_after era_after eira_after heard_by sends rule_for again_for sound scalars_sound configured mode_sound traffic_sound passive_sound refusal rule_at table mode_by enter_network enter_repeat restart heard enabled nm_in_repeat_or_normal prepared nm_in_ready wait_in_prepare repeat_in_repeat setup_of to_repeat traffic_by in_ready in_repeat in_normal framing counts is_due first_by second_by accepted asks_repeat loaded_by sent_loaded all_within counted_down vectors_differ loaded_where xor
all_pass = refl

pub every_case : (none : Case) (k : ℕ) → k < length cases.table → (get_or cases.table k none).got ≡ (get_or cases.table k none).wanted
every_case none k h = each cases.table none all_pass k h
