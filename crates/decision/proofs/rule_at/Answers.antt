-- `decision::rule_at` meets its contract at a run of keys. Assumes nothing.
use mathlib.Core.Path.{refl, sym}
use native.Mathlib.Omega.{arith}
use lib.ListN.{get_or-eq_default}
use Rattle.decision.specs.declared.Rule.TheVariants.{Keep, NotHere, WakeUp, ActiveWakeUp, Request, Release, Repeat, Disable, Enable, Confirm, FilterOn}
use Rattle.decision.specs.Decision.{rule_at, table}
use Rattle.decision.proofs.Table.{run_at}
use Rattle.decision.proofs.rule_at.Goals as goal

pub returns-in-0-to-1 : goal.returns-in-0-to-1
unfolding rule_at table
returns-in-0-to-1 c = sym (run_at table ActiveWakeUp Keep 0 2 c.args.key refl (omega arith) (omega arith))

pub returns-in-2-to-3 : goal.returns-in-2-to-3
unfolding rule_at table
returns-in-2-to-3 c = sym (run_at table Request Keep 2 2 c.args.key refl (omega arith) (omega arith))

pub returns-in-5-to-7 : goal.returns-in-5-to-7
unfolding rule_at table
returns-in-5-to-7 c = sym (run_at table Release Keep 5 3 c.args.key refl (omega arith) (omega arith))

pub returns-in-10-to-11 : goal.returns-in-10-to-11
unfolding rule_at table
returns-in-10-to-11 c = sym (run_at table WakeUp Keep 10 2 c.args.key refl (omega arith) (omega arith))

pub returns-in-12-to-14 : goal.returns-in-12-to-14
unfolding rule_at table
returns-in-12-to-14 c = sym (run_at table NotHere Keep 12 3 c.args.key refl (omega arith) (omega arith))

pub returns-in-15-to-17 : goal.returns-in-15-to-17
unfolding rule_at table
returns-in-15-to-17 c = sym (run_at table NotHere Keep 15 3 c.args.key refl (omega arith) (omega arith))

pub returns-in-18-to-19 : goal.returns-in-18-to-19
unfolding rule_at table
returns-in-18-to-19 c = sym (run_at table Repeat Keep 18 2 c.args.key refl (omega arith) (omega arith))

pub returns-in-20-to-21 : goal.returns-in-20-to-21
unfolding rule_at table
returns-in-20-to-21 c = sym (run_at table NotHere Keep 20 2 c.args.key refl (omega arith) (omega arith))

pub returns-in-22-to-24 : goal.returns-in-22-to-24
unfolding rule_at table
returns-in-22-to-24 c = sym (run_at table Disable Keep 22 3 c.args.key refl (omega arith) (omega arith))

pub returns-in-25-to-26 : goal.returns-in-25-to-26
unfolding rule_at table
returns-in-25-to-26 c = sym (run_at table NotHere Keep 25 2 c.args.key refl (omega arith) (omega arith))

pub returns-in-27-to-29 : goal.returns-in-27-to-29
unfolding rule_at table
returns-in-27-to-29 c = sym (run_at table Enable Keep 27 3 c.args.key refl (omega arith) (omega arith))

pub returns-in-30-to-31 : goal.returns-in-30-to-31
unfolding rule_at table
returns-in-30-to-31 c = sym (run_at table Keep Keep 30 2 c.args.key refl (omega arith) (omega arith))

pub returns-in-32-to-34 : goal.returns-in-32-to-34
unfolding rule_at table
returns-in-32-to-34 c = sym (run_at table Confirm Keep 32 3 c.args.key refl (omega arith) (omega arith))

pub returns-in-40-to-44 : goal.returns-in-40-to-44
unfolding rule_at table
returns-in-40-to-44 c = sym (run_at table FilterOn Keep 40 5 c.args.key refl (omega arith) (omega arith))

pub returns-in-45-to-49 : goal.returns-in-45-to-49
unfolding rule_at table
returns-in-45-to-49 c = sym (run_at table Keep Keep 45 5 c.args.key refl (omega arith) (omega arith))

pub returns-in-50-to-54 : goal.returns-in-50-to-54
unfolding rule_at table
returns-in-50-to-54 c = sym (run_at table Keep Keep 50 5 c.args.key refl (omega arith) (omega arith))

pub returns-in-55-to-59 : goal.returns-in-55-to-59
unfolding rule_at table
returns-in-55-to-59 c = sym (run_at table Keep Keep 55 5 c.args.key refl (omega arith) (omega arith))

pub returns-in-65-to-255 : goal.returns-in-65-to-255
unfolding rule_at table
returns-in-65-to-255 c = sym (get_or-eq_default table Keep {n = c.args.key} (omega arith))
