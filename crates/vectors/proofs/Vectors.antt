-- Laws of the vector behind a table of timers. Assumes nothing.
use mathlib.Core.Path.{◌≡◌, refl, ap, sym, ◌∙◌}
use mathlib.Core.Bool.{Bool, true, false, xor}
use mathlib.Core.List.{List}
use Prim.Native.Nat.{ℕ, zero, suc, ◌+◌, ◌*◌, ◌%◌, ◌^◌, ◌<◌, ◌≤◌}
use native.Mathlib.Nat.{pow-suc, le_of_suc-le-suc}
use native.Mathlib.Numerals.{add-one}
use native.Mathlib.Omega.{arith}
use lib.Dec.{eqb}
use lib.ListN.{length, get_or, take, drop, length-take, get_or-eq_default}
use lib.Pow.{pow_mono}
use lib.Seq.{get_or-take, get_or-drop}
use Rattle.bits.specs.Lists.{sum_below}
use Rattle.bits.proofs.Lists.{any_none, sum_ext, sum_rest}
use Rattle.vectors.specs.Vectors.{running_bit, vector_byte, vectors_differ}

-- a bit does not differ from itself
pub xor_self : (b : Bool) → xor b b ≡ false
unfolding xor
xor_self true = refl
xor_self false = refl

-- a vector does not differ from itself
pub differs_not : (ts : List ℕ) → vectors_differ ts ts ≡ false
unfolding vectors_differ
differs_not ts = any_none (λ k. xor (eqb (get_or ts k 0) 0) (eqb (get_or ts k 0) 0)) (length ts) (λ k. xor_self (eqb (get_or ts k 0) 0))

-- one bit more of a byte
pub bit_more : (f : ℕ → ℕ) (byte i d : ℕ) → i < 8 → d ≤ 1 → (byte < 2 ^ i) × (byte ≡ sum_below f i) → f i ≡ 2 ^ i * d
    → (byte + d * 2 ^ i % 256 < 2 ^ (i + 1)) × (byte + d * 2 ^ i % 256 ≡ sum_below f (i + 1))
bit_more f byte i zero h l w e = (
  rw (add-one, pow-suc) (omega (arith, w.0)),
  rw add-one (omega (arith, w.1, e)),
)
bit_more f byte i (suc zero) h l w e =
    let p : 2 ^ i ≤ 2 ^ 7 = pow_mono (le_of_suc-le-suc h) in (
      rw (add-one, pow-suc) (omega (arith, w.0, p)),
      rw add-one (omega (arith, w.1, e, p)),
    )
bit_more f byte i (suc (suc d)) h l w e = absurd (omega arith)

-- the bits of the timers from place p on, eight or as many as there are, make the byte that begins there
pub byte_of_part : (ts : List ℕ) (p n : ℕ) → n ≡ length (take 8 (drop p ts))
    → sum_below (λ k. 2 ^ k * running_bit (get_or (take 8 (drop p ts)) k 0)) n ≡ vector_byte ts p
unfolding vector_byte
byte_of_part ts p n e =
    let part = take 8 (drop p ts) in
    sym
    (sum_rest (λ k. 2 ^ k * running_bit (get_or part k 0)) n 8 (omega (arith, length-take 8 (drop p ts), e))
    (λ k a b. rw (get_or-eq_default {A = ℕ} part 0 {n = k} (omega (arith, e))) (omega arith)))
    ∙ sum_ext (λ k. 2 ^ k * running_bit (get_or part k 0)) (λ k. 2 ^ k * running_bit (get_or ts (p + k) 0)) 8
    (λ k l. ap (λ (t : ℕ). 2 ^ k * running_bit t) (get_or-take 8 (drop p ts) k 0 l ∙ get_or-drop p ts k 0))
