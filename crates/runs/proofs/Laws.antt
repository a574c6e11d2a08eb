-- Laws of runs and of printed lines. Assumes nothing.
use mathlib.Core.Bool.{Bool, true, false, cond}
use mathlib.Core.List.{List, []}
use Prim.Native.Nat.{ℕ, ◌≤◌}
use native.Mathlib.Omega.{arith}
use lib.ListN.{length, length-take}
use Rattle.std.specs.Prelude.{Ok, Err}
use Rattle.answers.specs.declared.Refusal.TheVariants.{Unsound, Rule, State, Passive, Length, PnOff}
use Rattle.answers.specs.Answers.{Answer, number_of}
use Rattle.report.proofs.Lengths.{length_line}
use Rattle.runs.specs.Runs.{Outcome, bare_text, quiet, sent_bytes}
use Rattle.report.specs.Report.{report_most}

-- an answer's number has one digit
pub number_le : (a : Answer) → number_of a ≤ 6
number_le (Ok done) = omega arith
number_le (Err Unsound) = omega arith
number_le (Err (Rule rule)) = omega arith
number_le (Err State) = omega arith
number_le (Err Passive) = omega arith
number_le (Err Length) = omega arith
number_le (Err PnOff) = omega arith

-- how much room a line without notes and frame takes
pub bare_le : (n answer state : ℕ) → length (bare_text n answer state) ≤ report_most
unfolding bare_text
bare_le n answer state = omega (arith, length_line n answer state quiet [])

-- one of two outcomes has the room that both have
pub either_le : {k : ℕ} (t : Bool) (o p : Outcome) → length o.text ≤ k → length p.text ≤ k → length (cond t o p).text ≤ k
either_le true o p h i = h
either_le false o p h i = i

-- what is printed of a frame is no longer than it
pub sent_le : (sent : Bool) (n : ℕ) (frame : List ℕ) → length (sent_bytes sent n frame) ≤ length frame
unfolding sent_bytes
sent_le sent n frame = rw length-take (omega arith)
