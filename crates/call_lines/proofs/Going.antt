-- Laws of a loop over lines. Assumes nothing.
use mathlib.Core.Path.{◌≡◌, refl, sym, subst}
use mathlib.Core.List.{List, [], ◌∷◌}
use Prim.Native.Nat.{ℕ}
use Rattle.print.specs.declared.Writer.{Writer}
use Rattle.print.proofs.Wrote.{puts_none, puts_then}
use Rattle.blocks.specs.Runs.{after, outs}
use Rattle.runs.specs.declared.Phase.{Phase}
use Rattle.runs.specs.declared.Phase.TheVariants.{Running}
use Rattle.runs.specs.declared.Run.{Run}
use Rattle.runs.specs.Runs.{Prints, run_of}
use Rattle.trace_line.specs.TraceLine.{line_of}
use Rattle.call_lines.specs.CallLines.{lines_from}

-- a loop that started with the run o, the lines `all` and the writer u has come to the run r and the writer w, with the lines
-- `left` before it: where these are printed from here on, all are printed from the start on
pub record Going (o : Run) (all : List (List ℕ)) (u w : Writer) (r : Run) (left : List (List ℕ)) : Type 0 where
  pub rest : (s : Run) (v : Writer) → Prints (lines_from r left) w s v → Prints (lines_from o all) u s v

pub going_start : (o : Run) (all : List (List ℕ)) (u : Writer) → Going o all u u o all
going_start o all u = record { rest = λ s v p. p }

-- a line, and those behind it
line_then : (o : Run) (x : List ℕ) (left : List (List ℕ)) {r s : Run} {u v w : Writer} → Prints (line_of o x) u r v
    → Prints (lines_from r left) v s w
    → Prints (lines_from o (x ∷ left)) u s w
unfolding lines_from after outs
line_then o x left {r} {s} {u} {v} {w} g h =
    let k = subst (λ (q : Run). Prints (lines_from q left) v s w) g.run h in
    record { run = k.run; text = puts_then g.text k.text }

-- one more line
pub going_on : {o r s : Run} {all left : List (List ℕ)} {x : List ℕ} {u v w : Writer} → Going o all u v r (x ∷ left)
    → Prints (line_of r x) v s w
    → Going o all u w s left
going_on {r = r} {left = left} {x = x} g p = record { rest = λ s v q. g.rest s v (line_then r x left p q) }

-- none is left
pub going_end : {o r : Run} {all : List (List ℕ)} {u w : Writer} → Going o all u w r [] → Prints (lines_from o all) u r w
unfolding lines_from after outs
going_end {r = r} {w = w} g = g.rest r w (record { run = refl; text = puts_none w })

-- lines from a run in its calls, by its count and its channel
pub prints_running : (run : Run) (ls : List (List ℕ)) {u w : Writer} {s : Run} → run.phase ≡ Running
    → Prints (lines_from (run_of Running run.lines run.channel) ls) u s w
    → Prints (lines_from run ls) u s w
prints_running run ls {u} {w} {s} e g =
    subst (λ (p : Phase). Prints (lines_from (run_of p run.lines run.channel) ls) u s w) (sym e) g
