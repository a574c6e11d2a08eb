-- Laws of steps: an outcome behind another, and a line by the phase of its run. Assumes nothing.
use mathlib.Core.Path.{◌≡◌, refl, sym, subst}
use mathlib.Core.Bool.{true, false≢true}
use mathlib.Core.List.{List}
use Prim.Native.Nat.{ℕ}
use Rattle.print.specs.declared.Writer.{Writer}
use Rattle.print.proofs.Wrote.{puts_then}
use Rattle.runs.specs.declared.Phase.{Phase}
use Rattle.runs.specs.declared.Phase.TheVariants.{First, Second, Running, Ended}
use Rattle.runs.specs.declared.Run.{Run}
use Rattle.runs.specs.Runs.{Outcome, Prints}
use Rattle.trace_line.specs.TraceLine.{and_then, is_running, line_in, line_of}

pub prints_then : {o p : Outcome} {u v w : Writer} {r s : Run} → Prints o u r v → Prints p v s w → Prints (and_then o p) u s w
prints_then g h = record { run = h.run; text = puts_then g.text h.text }

-- a line in the phase of its run
pub prints_in : (run : Run) (l : List ℕ) {p : Phase} {w v : Writer} {r : Run} → run.phase ≡ p → Prints (line_in p run l) w r v → Prints (line_of run l) w r v
prints_in run l {p} {w} {v} {r} e g = subst (λ (q : Phase). Prints (line_in q run l) w r v) (sym e) g

-- a phase that tests as running is
pub running_true : (p : Phase) → is_running p ≡ true → p ≡ Running
running_true First e = absurd (false≢true e)
running_true Second e = absurd (false≢true e)
running_true Running e = refl
running_true Ended e = absurd (false≢true e)
