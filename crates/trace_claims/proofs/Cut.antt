-- A line comes to what its first 81 bytes come to. Assumes nothing.
use mathlib.Core.Path.{◌≡◌, refl, ap}
use mathlib.Core.Bool.{Bool, true, false, cond}
use mathlib.Core.List.{List, []}
use Prim.Native.Nat.{ℕ}
use lib.ListN.{replicate}
use Rattle.commands.specs.Commands.{Reading}
use Rattle.commands.proofs.Cut.{reading_cut}
use Rattle.config.specs.declared.Config.{Config}
use Rattle.settings.specs.Settings.{Setting}
use Rattle.settings.proofs.Cut.{Alike}
use Rattle.config_line.proofs.Cut.{read_config_cut}
use Rattle.pn_line.proofs.Cut.{is_partial_cut, read_partial_cut}
use Rattle.blocks.specs.Blocks.{cut}
use Rattle.runs.specs.declared.Phase.{Phase}
use Rattle.runs.specs.declared.Phase.TheVariants.{First, Second, Running, Ended}
use Rattle.runs.specs.declared.Run.{Run}
use Rattle.runs.specs.Runs.{Outcome, counted, outcome}
use Rattle.replay.specs.Replay.{bytes_most, doing, later_line}
use Rattle.config_lines.specs.ConfigLines.{begun, broken, first_line, holding, partial_line}
use Rattle.trace_line.specs.TraceLine.{following, line_in, second_line}
use Rattle.trace_claims.specs.Claims.{EveryLineIsCut}

-- settings that can't be told apart come to the same
same_by : (f : Config → Outcome) (g : Outcome) {s t : Setting} → Alike s t
    → cond s.readable (f s.config) g ≡ cond t.readable (f t.config) g
same_by f g {s} {t} a = by_flag t.readable refl
  where
    by_flag : (b : Bool) → t.readable ≡ b → cond s.readable (f s.config) g ≡ cond t.readable (f t.config) g
    by_flag true e = rw (a.0, e) (ap f (a.1 e))
    by_flag false e = rw (a.0, e)

first_cut : (run : Run) (l : List ℕ) → first_line run (cut l) ≡ first_line run l
unfolding first_line
first_cut run l = same_by (λ (c : Config). outcome (holding Second (counted run.lines) c) []) (broken run) (read_config_cut l)

partial_cut : (run : Run) (l : List ℕ) → partial_line run (cut l) ≡ partial_line run l
unfolding partial_line
partial_cut run l = same_by (λ (c : Config). begun c (counted run.lines)) (broken run) (read_partial_cut run.channel.own.config l)

later_cut : (run : Run) (l : List ℕ) → later_line run (cut l) ≡ later_line run l
unfolding later_line
later_cut run l = ap (λ (r : Reading). doing run r.asked r.bytes) (reading_cut l (replicate bytes_most 0))

following_cut : (run : Run) (l : List ℕ) → following run (cut l) ≡ following run l
unfolding following
following_cut run l = rw (later_cut run l)

second_cut : (run : Run) (l : List ℕ) → second_line run (cut l) ≡ second_line run l
unfolding second_line
second_cut run l = rw (is_partial_cut l, partial_cut run l, following_cut (begun run.channel.own.config run.lines).run l)

pub line_cut : EveryLineIsCut
unfolding line_in
line_cut run l = by_phase run.phase
  where
    by_phase : (p : Phase) → line_in p run (cut l) ≡ line_in p run l
    by_phase First = first_cut run l
    by_phase Second = second_cut run l
    by_phase Running = later_cut run l
    by_phase Ended = refl
