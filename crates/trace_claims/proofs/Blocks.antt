-- A trace in blocks: what is between two of them, which are taken, and what they come to. Assumes nothing.
use mathlib.Core.Path.{◌≡◌, refl, sym, ap, subst, ◌∙◌}
use mathlib.Core.Bool.{Bool, true, false, false≢true, ◌&&◌, cond}
use mathlib.Core.List.{List, [], ◌∷◌, ◌++◌, append_assoc, append-nil}
use Prim.Native.Nat.{ℕ, ◌≤◌}
use native.Mathlib.Omega.{arith}
use lib.Dec.{leb}
use lib.ListN.{length, replicate}
use borrow.Author.Tests.{le-leb, leb-true}
use Rattle.std.specs.Prelude.{Err}
use Rattle.answers.specs.declared.Refusal.TheVariants.{Length}
use Rattle.answers.specs.Answers.{Done}
use Rattle.text.specs.Lines.{lines_of}
use Rattle.text.proofs.Filled.{filled_front}
use Rattle.text.proofs.Lines.{lines_grow}
use Rattle.blocks.specs.Blocks.{cut, finished_len, finished_lines, kept_of, lines_most}
use Rattle.blocks.specs.Runs.{after, outs}
use Rattle.blocks.proofs.Finished.{kept_short}
use Rattle.blocks.proofs.Blocks.{after_end, after_more, count_more, kept_more}
use Rattle.runs.specs.declared.Run.{Run}
use Rattle.runs.specs.Runs.{Outcome, outcome}
use Rattle.config_lines.specs.ConfigLines.{holding}
use Rattle.trace_line.specs.TraceLine.{and_then, ending, line_of, step_of, text_of}
use Rattle.call_lines.specs.CallLines.{lines_from}
use Rattle.trace.specs.declared.Trace.{Trace}
use Rattle.trace.specs.Trace.{BlockOutcome, block_most, block_of, ended, first_run, is_taken, keeping, kept_in, kept_most, refused, start, taken, whole, whole_from}
use Rattle.trace_claims.specs.Claims.{AllShort, EveryBlockIsJudged, EveryCutIsOfItsText, EveryCutIsTheWhole, EveryTextIsTaken, Progress, after_blocks, after_text, fits, joined, taken_behind, taken_text}
use Rattle.trace_claims.proofs.Counted.{after_lines}
use Rattle.trace_claims.proofs.Cut.{line_cut}

-- ---- lines with what they print

-- an outcome with one line more
abbrev onward : Outcome → List ℕ → Outcome
onward o l = and_then o (line_of o.run l)

-- it looks at no more than the start of the line
enough : (o : Outcome) (l : List ℕ) → onward o (cut l) ≡ onward o l
enough o l = ap (and_then o) (line_cut o.run l)

-- an outcome with more lines
onward_is : (o : Outcome) (ls : List (List ℕ)) → after onward o ls ≡ and_then o (lines_from o.run ls)
unfolding after outs lines_from
onward_is o [] = ap (outcome o.run) (sym (append-nil o.text))
onward_is o (l ∷ ls) =
    onward_is (onward o l) ls
    ∙ ap (outcome (after step_of (step_of o.run l) ls)) (append_assoc o.text (text_of o.run l) (outs step_of text_of (step_of o.run l) ls))

-- what lines come to from the first run on
abbrev from : List (List ℕ) → Outcome
from ls = lines_from first_run ls

from_is : (ls : List (List ℕ)) → after onward (outcome first_run []) ls ≡ from ls
from_is ls = onward_is (outcome first_run []) ls

-- two runs of lines that lead to the same outcome, one in two parts
from_both : (a b c : List (List ℕ))
    → after onward (after onward (outcome first_run []) a) b ≡ after onward (outcome first_run []) c
    → and_then (from a) (lines_from (from a).run b) ≡ from c
from_both a b c e = sym (onward_is (from a) b) ∙ ap (λ (o : Outcome). after onward o b) (sym (from_is a)) ∙ e ∙ from_is c

-- ---- a trace between two blocks

-- what the finished lines of a text come to
abbrev finished : List ℕ → Outcome
finished s = from (finished_lines s)

-- with a block, the text has in addition those of what was kept and the block
more : (s b : List ℕ) → and_then (finished s) (lines_from (finished s).run (finished_lines (kept_of s ++ b))) ≡ finished (s ++ b)
more s b = from_both (finished_lines s) (finished_lines (kept_of s ++ b)) (finished_lines (s ++ b)) (after_more onward enough (outcome first_run []) s b)

-- at the end, what was kept is the last
last : (s : List ℕ) → and_then (finished s) (lines_from (finished s).run (lines_of (kept_of s))) ≡ from (lines_of s)
last s = from_both (finished_lines s) (lines_of (kept_of s)) (lines_of s) (after_end onward enough (outcome first_run []) s)

-- the trace behind a text
abbrev trace_behind : List ℕ → Trace
trace_behind s = keeping (finished s).run (kept_of s)

-- what is kept is found again
kept_in_law : (run : Run) (k : List ℕ) → length k ≤ kept_most → kept_in (keeping run k) ≡ k
unfolding keeping
kept_in_law run k h = filled_front (replicate kept_most 0) k (omega (arith, h))

kept_behind : (s : List ℕ) → kept_in (trace_behind s) ≡ kept_of s
kept_behind s = kept_in_law (finished s).run (kept_of s) (kept_short s)

run_in_law : (s : List ℕ) → (trace_behind s).run ≡ (finished s).run
unfolding keeping
run_in_law s = refl

-- before the first block
start_is : start ≡ trace_behind []
unfolding start lines_from after finished_len lines_of
start_is = refl

-- the lines of a text can be counted
abbrev Countable : List ℕ → Type 0
Countable s = length (lines_of s) ≤ lines_most

none : Countable []
unfolding lines_of
none = omega arith

finished_count : (s : List ℕ) → length (finished_lines s) ≤ length (lines_of s)
finished_count s = let e = rw (append-nil, append-nil) at (count_more s []) in omega (arith, e)

lines_behind_law : (s : List ℕ) → Countable s → (finished s).run.lines ≡ length (finished_lines s)
unfolding lines_from first_run holding
lines_behind_law s h = after_lines first_run (finished_lines s) (omega (arith, finished_count s)) ∙ omega arith

-- ---- one block

module _ (s b : List ℕ) (h : Countable s) where
  judged : is_taken (trace_behind s) b ≡ fits s b
  unfolding is_taken
  judged = rw (kept_behind s, run_in_law s, lines_behind_law s h, count_more s b)

  -- a block that is taken is a block of the text
  abbrev next : BlockOutcome
  next = record { answer = Done; trace = trace_behind (s ++ b); text = (lines_from (finished s).run (finished_lines (kept_of s ++ b))).text }

  taken_is : taken (finished s).run (kept_in (trace_behind s) ++ b) ≡ next
  taken_is = rw (kept_behind s, kept_more s b, ap (λ (o : Outcome). o.run) (more s b))

  block_is : block_of (trace_behind s) b ≡ cond (fits s b) next (refused (trace_behind s))
  unfolding block_of keeping
  block_is = ap (λ (t : Bool). cond t (taken (finished s).run (kept_in (trace_behind s) ++ b)) (refused (trace_behind s))) judged ∙ ap (λ (o : BlockOutcome). cond (fits s b) o (refused (trace_behind s))) taken_is

  right : (t u : Bool) → t && u ≡ true → u ≡ true
  right true u e = e
  right false u e = absurd (false≢true e)

  fits_count : fits s b ≡ true → Countable (s ++ b)
  fits_count e = leb-true _ _ (right (leb (length b) block_most) (leb (length (lines_of (s ++ b))) lines_most) e)

  -- what holds behind a block that fits, and behind one that does not, holds behind a block
  either_fits : (Holds : BlockOutcome → List ℕ → Type 0) → (Countable (s ++ b) → Holds next (s ++ b)) → Holds (refused (trace_behind s)) s
      → Holds (block_of (trace_behind s) b) (cond (fits s b) (s ++ b) s)
  either_fits Holds f g = subst (λ (o : BlockOutcome). Holds o (cond (fits s b) (s ++ b) s)) (sym block_is) (by_fit (fits s b) refl)
    where
      by_fit : (t : Bool) → fits s b ≡ t → Holds (cond t next (refused (trace_behind s))) (cond t (s ++ b) s)
      by_fit true e = f (fits_count e)
      by_fit false e = g

-- ---- all blocks

countable_behind : (s : List ℕ) (bs : List (List ℕ)) → Countable s → Countable (taken_behind s bs)
unfolding taken_behind
countable_behind s [] h = h
countable_behind s (b ∷ bs) h =
    either_fits s b h (λ (o : BlockOutcome) (u : List ℕ). Countable (taken_behind u bs)) (λ i. countable_behind (s ++ b) bs i) (countable_behind s bs h)

trace_is : (s : List ℕ) (bs : List (List ℕ)) → Countable s → (after_blocks (trace_behind s) bs).trace ≡ trace_behind (taken_behind s bs)
unfolding after_blocks taken_behind
trace_is s [] h = refl
trace_is s (b ∷ bs) h =
    either_fits s b h (λ (o : BlockOutcome) (u : List ℕ). (after_blocks o.trace bs).trace ≡ trace_behind (taken_behind u bs))
    (λ i. trace_is (s ++ b) bs i)
    (trace_is s bs h)

text_is : (s : List ℕ) (bs : List (List ℕ)) → Countable s → (finished s).text ++ (after_blocks (trace_behind s) bs).text ≡ (finished (taken_behind s bs)).text
unfolding after_blocks taken_behind
text_is s [] h = append-nil (finished s).text
text_is s (b ∷ bs) h =
    let x = (after_blocks (trace_behind (s ++ b)) bs).text in
    either_fits s b h
    (λ (o : BlockOutcome) (u : List ℕ). (finished s).text ++ (o.text ++ (after_blocks o.trace bs).text) ≡ (finished (taken_behind u bs)).text)
    (λ i. sym (append_assoc (finished s).text (next s b h).text x) ∙ ap (λ (o : Outcome). o.text ++ x) (more s b) ∙ text_is (s ++ b) bs i)
    (text_is s bs h)

-- ---- the end of the input

-- the unfinished line and the end, behind what the finished lines came to
abbrev ended_behind : Progress → Outcome
ended_behind p = outcome (ended p.trace).run (p.text ++ (ended p.trace).text)

ended_is : (s : List ℕ) → ended_behind (after_text s) ≡ whole s
unfolding ended whole_from
ended_is s =
    let o = lines_from (finished s).run (lines_of (kept_of s)) in
    let e = ending o.run in
    rw (kept_behind s, run_in_law s)
    (ap (outcome e.run) (sym (append_assoc (finished s).text o.text e.text)) ∙ ap (λ (p : Outcome). and_then p (ending p.run)) (last s))

-- ---- the claims

pub every_cut_is_of_its_text : EveryCutIsOfItsText
unfolding lines_from outs after finished_len lines_of
every_cut_is_of_its_text bs = ap (λ (t : Trace). after_blocks t bs) start_is ∙ both (trace_is [] bs none) (text_is [] bs none)
  where
    both : {p q : Progress} → p.trace ≡ q.trace → p.text ≡ q.text → p ≡ q
    both e f = λ i. record { trace = e i; text = f i }

pub every_block_is_judged : EveryBlockIsJudged
every_block_is_judged bs b =
    ap (λ (p : Progress). (block_of p.trace b).answer) (every_cut_is_of_its_text bs)
    ∙ ap (λ (o : BlockOutcome). o.answer) (block_is s b h)
    ∙ by_fit (fits s b)
  where
    s : List ℕ
    s = taken_text bs

    h : Countable s
    h = countable_behind [] bs none

    by_fit : (t : Bool) → (cond t (next s b h) (refused (trace_behind s))).answer ≡ cond t Done (Err Length)
    by_fit true = refl
    by_fit false = refl

pub every_cut_is_the_whole : EveryCutIsTheWhole
every_cut_is_the_whole bs = ap ended_behind (every_cut_is_of_its_text bs) ∙ ended_is (taken_text bs)

taken_all : (s : List ℕ) (bs : List (List ℕ)) → AllShort bs → Countable (s ++ joined bs) → taken_behind s bs ≡ s ++ joined bs
unfolding taken_behind
taken_all s [] a h = sym (append-nil s)
taken_all s (b ∷ bs) a h =
    let e = append_assoc s b (joined bs) in
    let i : Countable ((s ++ b) ++ joined bs) = rw e h in
    let l = le-leb (length b) block_most a.0 in
    let m = le-leb (length (lines_of (s ++ b))) lines_most (omega (arith, lines_grow (s ++ b) (joined bs), i)) in
    rw (l, m) (taken_all (s ++ b) bs a.1 i ∙ e)

pub every_text_is_taken : EveryTextIsTaken
every_text_is_taken bs a h = taken_all [] bs a h
