-- What it says of a configuration that no rule is broken: each rule is kept. Assumes nothing.
use mathlib.Core.Path.{◌≡◌, refl, sym, ap}
use mathlib.Core.Bool.{Bool, true, false, not, ◌&&◌, ◌||◌, false≢true}
use Rattle.std.specs.Prelude.{Result, Ok, Err, is_ok, ⊤}
use Rattle.answers.specs.declared.BrokenRule.{BrokenRule}
use Rattle.answers.specs.Answers.{Done, ruled}
use Rattle.choice.proofs.Tests.{and_left, and_right}
use Rattle.config.specs.declared.Config.{Config}
use Rattle.time_rules.specs.TimeRules.{ticks_for, rule1, rule2, rule3, rule4, rule5}
use Rattle.header_rules.specs.HeaderRules.{rule6, rule7}
use Rattle.pn_rules.specs.PnRules.{rule8}
use Rattle.rules.specs.Rules.{first_broken, first_broken_by, first_failed}

-- every rule is kept
pub record Passes (c : Config) : Type 0 where
  pub period : rule1 c ≡ true
  pub bounds : rule2 c ≡ true
  pub offset : rule3 (ticks_for c) ≡ true
  pub fast : rule4 c (ticks_for c) ≡ true
  pub timeout : rule5 (ticks_for c) ≡ true
  pub length : rule6 c.layout ≡ true
  pub header : rule7 c.layout ≡ true
  pub partial : rule8 c (ticks_for c) ≡ true

-- a test that holds of both truth values holds of each
both : (Bool → Bool) → Bool
both p = p true && p false

each : (p : Bool → Bool) → both p ≡ true → (b : Bool) → p b ≡ true
unfolding both
each p h true = and_left (p true) (p false) h
each p h false = and_right (p true) (p false) h

-- where no test fails all eight hold, whatever their order: tried for all of their values
abbrev all_hold : Bool → Bool → Bool → Bool → Bool → Bool → Bool → Bool → Bool
all_hold r1 r2 r3 r4 r5 r6 r7 r8 = not (is_ok (first_failed r1 r2 r3 r4 r5 r6 r7 r8)) || (r1 && (r2 && (r3 && (r4 && (r5 && (r6 && (r7 && r8)))))))

tried : both (λ r1. both (λ r2. both (λ r3. both (λ r4. both (λ r5. both (λ r6. both (λ r7. both (λ r8. all_hold r1 r2 r3 r4 r5 r6 r7 r8)))))))) ≡ true
unfolding both
tried = refl

-- where a judgement is ok, no rule is broken; where it is not, the answer is a refusal
pub kept : (r : Result ⊤ BrokenRule) → is_ok r ≡ true → r ≡ Ok tt
kept (Ok tt) e = refl
kept (Err rule) e = absurd (false≢true e)

pub not_done : (r : Result ⊤ BrokenRule) → is_ok r ≡ false → ruled r ≡ Done → ⊥
not_done (Ok tt) e d = false≢true (sym e)
not_done (Err rule) e d = false≢true (ap is_ok d)

pub passes : (c : Config) → first_broken c ≡ Ok tt → Passes c
unfolding first_broken first_broken_by
passes c e =
    let t = ticks_for c in
    let l = c.layout in
    let a = each _ (each _ (each _ (each _ (each _ (each _ (each _ (each _ tried (rule1 c)) (rule2 c)) (rule3 t)) (rule4 c t)) (rule5 t)) (rule6 l)) (rule7 l)) (rule8 c t) in
    let k1 = rw e at a in
    let k2 = and_right (rule1 c) _ k1 in
    let k3 = and_right (rule2 c) _ k2 in
    let k4 = and_right (rule3 t) _ k3 in
    let k5 = and_right (rule4 c t) _ k4 in
    let k6 = and_right (rule5 t) _ k5 in
    let k7 = and_right (rule6 l) _ k6 in
    record {
      period = and_left (rule1 c) _ k1;
      bounds = and_left (rule2 c) _ k2;
      offset = and_left (rule3 t) _ k3;
      fast = and_left (rule4 c t) _ k4;
      timeout = and_left (rule5 t) _ k5;
      length = and_left (rule6 l) _ k6;
      header = and_left (rule7 l) _ k7;
      partial = and_right (rule7 l) _ k7;
    }
