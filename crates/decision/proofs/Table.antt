-- A run of equal entries of a table. Assumes nothing.
use mathlib.Core.Path.{◌≡◌, sym, ◌∙◌}
use mathlib.Core.List.{List}
use Prim.Native.Nat.{ℕ, ◌+◌, ◌-◌, ◌<◌, ◌≤◌}
use native.Mathlib.Omega.{arith}
use lib.ListN.{get_or, take, drop, replicate, get_or-replicate}
use lib.Seq.{get_or-take, get_or-drop}

-- n entries from place i on are r, so each of them is
pub run_at : {A : Type 0} (t : List A) (r d : A) (i n k : ℕ) → take n (drop i t) ≡ replicate n r → i ≤ k → k < i + n → get_or t k d ≡ r
run_at t r d i n k e h w =
    let q : i + (k - i) ≡ k = omega arith in
    rw q at (sym (get_or-take n (drop i t) (k - i) d (omega arith) ∙ get_or-drop i t (k - i) d)) ∙ rw e (get_or-replicate n (k - i) r d (omega arith))
