-- The PN timers stay within the reset time and the mask. Assumes nothing.
use Prim.Native.Nat.{ℕ, ◌/◌, ◌<◌, ◌≤◌}
use mathlib.Core.Path.{◌≡◌, refl}
use mathlib.Core.Bool.{Bool, true, false, cond, ◌&&◌}
use mathlib.Core.List.{List}
use native.Mathlib.Omega.{arith}
use lib.Dec.{ltb}
use lib.ListN.{length, get_or, take, length-take}
use borrow.Author.Tests.{ltb-false}
use Rattle.bits.specs.Bits.{bit_at}
use Rattle.timers.specs.Timers.{all_within, loaded_where, limit_at}
use Rattle.bits.proofs.Bits.{bit_past, bit_take}
use Rattle.timers.proofs.Timers.{at_loaded_where, length_loaded_where, within_at, within_each}

-- PN bytes of at most n bytes load no timer outside the mask's first n
pub loaded_within : (bytes mask : List ℕ) (n p : ℕ) (ts : List ℕ) → length bytes ≤ n → all_within (take n mask) p ts ≡ true
    → all_within (take n mask) p (loaded_where bytes mask p ts) ≡ true
loaded_within bytes mask n p ts h e =
    within_each (take n mask) p (loaded_where bytes mask p ts)
    (λ k b.
    let w : k < length ts = rw (length_loaded_where bytes mask p ts) at b in
    rw (at_loaded_where bytes mask p ts k w) (go k (bit_at bytes k) (bit_at mask k) refl refl (within_at (take n mask) p ts k e w)))
  where
    marked : (k : ℕ) (t : Bool) → ltb (k / 8) n ≡ t → bit_at bytes k ≡ true → bit_at mask k ≡ true → bit_at (take n mask) k ≡ true
    marked k true z x y = rw (bit_take n mask k, z, y)
    marked k false z x y =
        let past : bit_at bytes k ≡ false = bit_past bytes k (omega (arith, ltb-false (k / 8) n z)) in
        absurd (let q : ◌≡◌ {A = ℕ} 0 1 = cc in omega arith)

    go : (k : ℕ) (a b : Bool) → bit_at bytes k ≡ a → bit_at mask k ≡ b → get_or ts k 0 ≤ limit_at (take n mask) p k
        → cond (a && b) p (get_or ts k 0) ≤ limit_at (take n mask) p k
    go k true true x y u = rw (marked k (ltb (k / 8) n) refl x y) (omega arith)
    go k true false x y u = u
    go k false b x y u = u

-- a part of n bytes is no longer
pub part_short : (n : ℕ) (l : List ℕ) → length (take n l) ≤ n
part_short n l = omega (arith, length-take n l)
