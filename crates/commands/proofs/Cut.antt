-- The first 81 bytes of a line ask what the line asks: of a line that is too long a reader need not keep more. Assumes nothing.
use mathlib.Core.Path.{◌≡◌, refl}
use mathlib.Core.Bool.{Bool, true, false}
use mathlib.Core.List.{List}
use Prim.Native.Nat.{ℕ, suc, ◌<◌}
use native.Mathlib.Omega.{arith}
use lib.Dec.{ltb}
use lib.ListN.{length}
use lib.Seq.{length-take-le, take_all}
use borrow.Author.Tests.{lt-ltb, ltb-true, ltb-false}
use Rattle.blocks.specs.Blocks.{cut, line_most}
use Rattle.commands.specs.Commands.{reading}

pub reading_cut : (l bytes : List ℕ) → reading (cut l) bytes ≡ reading l bytes
unfolding reading
reading_cut l bytes = by_length (ltb line_most (length l)) refl
  where
    by_length : (t : Bool) → ltb line_most (length l) ≡ t → reading (cut l) bytes ≡ reading l bytes
    by_length true e =
        let h = ltb-true line_most (length l) e in
        let long : line_most < length (cut l) = rw (length-take-le (suc line_most) l (omega arith)) (omega arith) in
        rw (lt-ltb line_most (length (cut l)) long, lt-ltb line_most (length l) h)
    by_length false e =
        let h = ltb-false line_most (length l) e in
        rw (take_all (suc line_most) l (omega arith))
