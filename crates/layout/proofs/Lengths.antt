-- Fields laid out in a frame keep its length, wherever they stand. Assumes nothing.
use mathlib.Core.Path.{◌≡◌, refl, ◌∙◌}
use mathlib.Core.Bool.{Bool, true, false, cond}
use mathlib.Core.List.{List}
use Prim.Native.Nat.{ℕ}
use lib.Dec.{eqb}
use lib.ListN.{length, set, length-set}
use lib.Seq.{sets, length-sets}
use Rattle.config.specs.Ranges.{off}
use Rattle.layout.specs.Layout.{put_byte}

-- a header field
pub put_length : (position value : ℕ) (l : List ℕ) → length (put_byte position value l) ≡ length l
put_length position value l = go (eqb position off)
  where
    go : (t : Bool) → length (cond t l (set l position value)) ≡ length l
    go true = refl
    go false = length-set l position value

-- two header fields, PN bytes and user data
pub laid_length : (p v q w i j : ℕ) (pn user frame : List ℕ)
    → length (sets (sets (put_byte p v (put_byte q w frame)) i pn) j user) ≡ length frame
laid_length p v q w i j pn user frame = length-sets _ j user ∙ length-sets _ i pn ∙ put_length p v (put_byte q w frame) ∙ put_length q w frame
