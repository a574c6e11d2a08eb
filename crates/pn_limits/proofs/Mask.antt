-- The limits by a mask with zeros behind its first n bytes are those by these n bytes. Assumes nothing.
use mathlib.Core.Path.{◌≡◌, refl, ap, sym, ◌∙◌}
use mathlib.Core.Bool.{Bool, true, false, cond}
use mathlib.Core.List.{List}
use mathlib.Core.Logic.{inr}
use Prim.Native.Nat.{ℕ, zero, suc, ◌/◌, ◌%◌, ◌<◌, ◌≤◌}
use native.Mathlib.Nat.{zero-add}
use native.Mathlib.Omega.{arith}
use lib.Dec.{ltb}
use lib.ListN.{length, get_or, take, length-take, replicate, length-replicate, get_or-replicate, get_or-eq_default}
use lib.Seq.{sets, length-sets, ext_get_or}
use borrow.Author.Tests.{ltb-true, ltb-false}
use Rattle.bits.specs.Bits.{bit_of}
use Rattle.bits.proofs.Bits.{byte_take}
use Rattle.bits.proofs.Lists.{map_from_ext}
use Rattle.slices.proofs.Bytes.{at_inside, at_outside}
use Rattle.pn_limits.specs.Limits.{limits_of}
use Rattle.pn_limits.specs.Mask.{byte_within, filled_mask}

-- a byte of the first n
within_take : (n : ℕ) (m : List ℕ) (j : ℕ) → byte_within n m j ≡ get_or (take n m) j 0
within_take n m j = sym (byte_take n m j)

-- each of the eight bytes
filled_at : (n : ℕ) (m : List ℕ) (j : ℕ) → j < 8 → get_or (filled_mask n m) j 0 ≡ get_or (take n m) j 0
unfolding filled_mask
filled_at n m zero h = within_take n m 0
filled_at n m (suc zero) h = within_take n m 1
filled_at n m (suc (suc zero)) h = within_take n m 2
filled_at n m (suc (suc (suc zero))) h = within_take n m 3
filled_at n m (suc (suc (suc (suc zero)))) h = within_take n m 4
filled_at n m (suc (suc (suc (suc (suc zero))))) h = within_take n m 5
filled_at n m (suc (suc (suc (suc (suc (suc zero)))))) h = within_take n m 6
filled_at n m (suc (suc (suc (suc (suc (suc (suc zero))))))) h = within_take n m 7
filled_at n m (suc (suc (suc (suc (suc (suc (suc (suc j)))))))) h = absurd (omega arith)

-- of a table with at most a timer for each bit of eight bytes
pub limits_filled : (n p : ℕ) (m ts : List ℕ) → length ts ≤ 64 → limits_of (filled_mask n m) p ts ≡ limits_of (take n m) p ts
unfolding limits_of
limits_filled n p m ts h =
    map_from_ext _ _ 0 ts (λ k x u. ap (λ (b : ℕ). cond (bit_of b (k % 8)) p 0) (filled_at n m (k / 8) (omega arith)))

-- bytes stored over zeros, among which there is room for them
over_zeros : (vs : List ℕ) (n j : ℕ) → length vs ≤ n → j < n → get_or (sets (replicate n 0) 0 vs) j 0 ≡ get_or vs j 0
over_zeros vs n j room h = go (ltb j (length vs)) refl
  where
    size : length (replicate {A = ℕ} n 0) ≡ n
    size = length-replicate n 0

    go : (t : Bool) → ltb j (length vs) ≡ t → get_or (sets (replicate n 0) 0 vs) j 0 ≡ get_or vs j 0
    go true e = rw zero-add at (at_inside vs (replicate n 0) 0 j (ltb-true j (length vs) e) (omega (arith, size)))
    go false e =
        let f = ltb-false j (length vs) e in
        at_outside vs (replicate n 0) 0 j (inr (omega (arith, f)))
        ∙ get_or-replicate n j 0 0 h
        ∙ sym (get_or-eq_default vs 0 f)

-- the first n bytes of a mask of eight, stored over zeros
pub filled_is : (n : ℕ) (m : List ℕ) → length m ≡ 8 → sets (replicate 8 0) 0 (take n m) ≡ filled_mask n m
unfolding filled_mask
filled_is n m e =
    let size = length-sets (replicate 8 0) 0 (take n m) in
    ext_get_or 0 (sets (replicate 8 0) 0 (take n m)) (filled_mask n m) size
    (λ j h.
    let h8 : j < 8 = omega (arith, size) in
    over_zeros (take n m) 8 j (omega (arith, length-take n m, e)) h8 ∙ sym (filled_at n m j h8))
