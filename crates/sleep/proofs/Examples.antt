-- Lists of calls that the claims speak of, by computation: none of the claims is empty. T = 4, W = 3 and R = 4 ticks of 10 ms.
-- Assumes nothing.
use Rattle.std.specs.Prelude.{Ok}
use Prim.Native.Nat.{ℕ, zero, suc}
use mathlib.Core.Path.{◌≡◌, refl, sym}
use mathlib.Core.Bool.{Bool, true, false}
use mathlib.Core.List.{List, [], ◌∷◌, ◌++◌}
use native.Mathlib.Nat.{le_refl}
use Rattle.ticks.specs.Ticks.{conversion_of, ticks_of}
use Rattle.config.specs.declared.Config.{Config}
use Rattle.config.specs.Bounds.{within}
use Rattle.config.specs.Ranges.{header_length}
use Rattle.rules.specs.Rules.{first_broken, first_broken_by}
use Rattle.pn_rules.specs.PnRules.{pn_absent, pn_range, pn_time, rule8}
use Rattle.time_rules.specs.TimeRules.{rule1, rule2, rule3, rule4, rule5, ticks_for, times_within}
use Rattle.header_rules.specs.HeaderRules.{rule6, rule7}
use Rattle.states.specs.declared.State.{State}
use Rattle.states.specs.declared.State.TheVariants.{BusSleep, PrepareBusSleep, NormalOperation, ReadySleep}
use Rattle.decision.specs.Decision.{
  Call,
  disable_communication,
  enable_communication,
  main_function,
  network_request,
  passive_start_up,
  rule_at,
  table,
}
use Rattle.refusals.specs.Refusals.{refusal}
use Rattle.sleep.specs.Summary.{Since, Summary, ago, blank, history, shown, summarised, turned}
use Rattle.sleep.specs.Quiet.{Quiet}
use Rattle.sleep.specs.Sleep.{reached}
use Rattle.sleep.proofs.Theorem.{every_channel_sleeps}

-- active or passive
abbrev example : Bool → Config
example passive =
    record {
      period = 10;
      times = record { timeout = 40; wait = 30; repeat = 40; cycle = 20; offset = 0; fast = 0; remote = 0; reset = 0 };
      immediate = 0;
      node = 33;
      passive = passive;
      layout = record { length = 8; sni = 0; cbv = 1 };
      pn =
          record {
            on = false;
            start = 0;
            length = 0;
            awake = false;
            masked = 0;
            mask = 0 ∷ 0 ∷ 0 ∷ 0 ∷ 0 ∷ 0 ∷ 0 ∷ 0 ∷ [];
          };
    }

abbrev ticks : ℕ → List Call
ticks zero = []
ticks (suc n) = main_function true 8 ∷ ticks n

-- it passes, active and passive, so that the claims hold of it
pub example_passes : (passive : Bool) → first_broken (example passive) ≡ Ok tt
unfolding first_broken first_broken_by ticks_for rule1 rule2 rule3 rule4 rule5 rule6 rule7 rule8 times_within pn_range pn_time pn_absent within header_length conversion_of ticks_of
example_passes true = refl
example_passes false = refl

-- the state of the channel after a list of calls, and k
abbrev state_of : Bool → List Call → State
state_of passive xs = (reached (example passive) xs).own.mode.state

abbrev since_of : Bool → List Call → Since
since_of passive xs = (history (example passive) (ticks_for (example passive)) blank xs).since

-- the state that the calls alone show, which is computed here, is the channel's
abbrev shown_by : (passive : Bool) (xs : List Call) → state_of passive xs ≡ shown (ticks_for (example passive)) (history (example passive) (ticks_for (example passive)) blank xs)
shown_by passive xs = (every_channel_sleeps (example passive) (example_passes passive)).agrees xs

-- on a passive channel Bus-Sleep is entered in tick 11 = R+T+W, not in tick 10: the NM timer restarted in tick 4
pub passive_sleeps : (state_of true (passive_start_up ∷ ticks 10) ≡ PrepareBusSleep) × (state_of true (passive_start_up ∷ ticks 11) ≡ BusSleep)
unfolding rule_at table refusal ticks_for conversion_of ticks_of summarised turned shown
passive_sleeps = (shown_by true (passive_start_up ∷ ticks 10), shown_by true (passive_start_up ∷ ticks 11))

pub due_after_seven : since_of true (passive_start_up ∷ ticks 11) ≡ ago 7
unfolding rule_at table refusal ticks_for conversion_of ticks_of summarised turned shown
due_after_seven = refl

-- the timeout in tick 4 is a keep-awake: k is 0 after it
pub timeout_restarts : since_of true (passive_start_up ∷ ticks 4) ≡ ago 0
unfolding rule_at table refusal ticks_for conversion_of ticks_of summarised turned shown
timeout_restarts = refl

-- a requested channel stays awake
pub requested_stays : state_of false (network_request ∷ ticks 30) ≡ NormalOperation
unfolding rule_at table refusal ticks_for conversion_of ticks_of summarised turned shown
requested_stays = shown_by false (network_request ∷ ticks 30)

-- sending disabled past T: still in Network Mode, and after an enable T+W ticks to Bus-Sleep
abbrev silenced : List Call
silenced = passive_start_up ∷ disable_communication ∷ ticks 9

pub disabled_stays : state_of false silenced ≡ ReadySleep
unfolding rule_at table refusal ticks_for conversion_of ticks_of summarised turned shown
disabled_stays = shown_by false silenced

pub enabled_sleeps : (state_of false (silenced ++ (enable_communication ∷ ticks 6)) ≡ PrepareBusSleep) × (state_of false (silenced ++ (enable_communication ∷ ticks 7)) ≡ BusSleep)
unfolding rule_at table refusal ticks_for conversion_of ticks_of summarised turned shown
enabled_sleeps = (shown_by false (silenced ++ (enable_communication ∷ ticks 6)), shown_by false (silenced ++ (enable_communication ∷ ticks 7)))

-- ticks alone are quiet
quiet_ticks : (passive : Bool) (n : ℕ) (b : Summary) → Quiet (example passive) (ticks_for (example passive)) b (ticks n)
quiet_ticks passive zero b = tt
quiet_ticks passive (suc n) b = (λ e. refl, quiet_ticks passive n _)

-- what the bound asks for is met: released, enabled and left quiet for R+T+W ticks
pub quiet_sleeps : state_of true (passive_start_up ∷ ticks 11) ≡ BusSleep
unfolding rule_at table refusal ticks_for conversion_of ticks_of summarised turned shown
quiet_sleeps =
    let s = every_channel_sleeps (example true) (example_passes true) in
    s.sleeps (passive_start_up ∷ []) (ticks 11) (ticks 11) refl
    (sym (s.same (passive_start_up ∷ [])).0)
    (sym (s.same (passive_start_up ∷ [])).1)
    (quiet_ticks true 11 (history (example true) (ticks_for (example true)) blank (passive_start_up ∷ [])))
    (le_refl 11)
