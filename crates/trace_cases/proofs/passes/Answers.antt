-- `trace_cases::passes` meets its contract. Assumes nothing.
use mathlib.Core.Path.{◌≡◌, sym, ◌∙◌}
use mathlib.Core.List.{List}
use Prim.Native.Nat.{ℕ, ◌≤◌}
use native.Mathlib.Nat.{zero-add}
use native.Mathlib.Omega.{arith}
use lib.ListN.{length, take}
use Rattle.std.proofs.lemmas.Bool.Decides.{Decides-eqb}
use Rattle.std.proofs.lemmas.Slice.Eq.{slice_eq-Decides}
use Rattle.print.specs.Print.{Wrote}
use Rattle.text.proofs.Filled.{filled_front}
use Rattle.trace.specs.Trace.{first_run, printed}
use Rattle.trace.proofs.Room.{whole_le}
use Rattle.trace_cases.proofs.passes.Goals as goal

-- a text that was written at the start of a list with room is its first bytes
front : (l a : List ℕ) {m : List ℕ} {n : ℕ} → Wrote l 0 a m n → length a ≤ length l → take n m ≡ a
front l a w h = rw (w.next, zero-add, w.list) (filled_front l a h)

pub returns : goal.returns
returns c =
    let text = c.args.text.now in
    let p = c.part.ensures ∙ front c.args.out.now (printed text) c.whole-s.ensures.text (omega (arith, whole_le first_run text)) in
    let same = slice_eq-Decides Decides-eqb _ _ _ c.eq.ensures in
    (λ e. sym p ∙ same.0 e, λ e. same.1 (p ∙ e))
