-- Laws of bits in bytes and in byte strings, for any length. Assumes nothing.
use mathlib.Core.Path.{◌≡◌, refl, ap, sym, ◌∙◌}
use mathlib.Core.Bool.{Bool, true, false, cond, ◌&&◌, and-false, not, true≢false, false≢true}
use mathlib.Core.List.{List, [], ◌∷◌}
use mathlib.Core.Logic.{◌⊎◌, inl, inr, ⊎_elim}
use Prim.Native.Nat.{ℕ, zero, suc, ◌+◌, ◌*◌, ◌/◌, ◌%◌, ◌^◌, ◌<◌, ◌≤◌, min, suc-le-suc}
use native.Mathlib.Nat.{zero-div, div-one, div-div-eq-div-mul, pow-suc, pow-succ', div-eq_of_lt, lt_of_lt_of_le, lt_of_not-le, zero-min, min-zero, not-suc-le-zero, le_of_suc-le-suc}
use native.Mathlib.Omega.{arith}
use lib.Dec.{eqb, leb, ltb}
use lib.ListN.{length, get_or, take, length-take, get_or-eq_default}
use lib.Seq.{get_or-take}
use lib.Arith.{lt-one}
use lib.Pow.{pow_mono}
use lib.Bits.{bit_and, and_shr, and_step, and_zero_l, and_zero_r}
use lib.Count.{count_trailing_zeros}
use borrow.Author.Tests.{leb-true, leb-false, ltb-true, ltb-false, eqb-true, eq-eqb, ne_eqb}
use Rattle.std.specs.Prelude.{None, Some}
use Rattle.bits.specs.Bits.{bit_of, bit_at, some_masked, lowest_in}
use Rattle.std.specs.List.{list_any, zip}
use Rattle.bits.proofs.Lists.{any_at, any_front, any_none, any_some}

-- a byte has no bit 8 or above
pub bit_above : (b k : ℕ) → b < 2 ^ 8 → 8 ≤ k → bit_of b k ≡ false
bit_above b k h l = rw (div-eq_of_lt (lt_of_lt_of_le h (pow_mono l)))

-- what the lesser of two numbers does not exceed, one of the two does not
min_cases : (a b k : ℕ) → min a b ≤ k → (a ≤ k) ⊎ (b ≤ k)
min_cases a b k h = by_test (leb a k) refl
  where
    by_test : (t : Bool) → leb a k ≡ t → (a ≤ k) ⊎ (b ≤ k)
    by_test true e = inl (leb-true a k e)
    by_test false e = inr (omega (arith, h, leb-false a k e))

-- past its end a byte string has no bits
pub bit_past : (m : List ℕ) (k : ℕ) → length m ≤ k / 8 → bit_at m k ≡ false
bit_past m k h = rw (get_or-eq_default {A = ℕ} m 0 h, zero-div)

-- past the end of either of two byte strings no bit stands in both
pub both_past : (m n : List ℕ) (k : ℕ) → min (length m) (length n) ≤ k / 8 → (bit_at m k && bit_at n k) ≡ false
both_past m n k h = ⊎_elim (λ l. rw (bit_past m k l)) (λ l. rw (bit_past n k l) (and-false (bit_at m k))) (min_cases (length m) (length n) (k / 8) h)

-- `byte_take`, by the answer of its test
take_by : (n : ℕ) (m : List ℕ) (j : ℕ) (b : Bool) → ltb j n ≡ b → get_or (take n m) j 0 ≡ cond b (get_or m j 0) 0
take_by n m j true e = get_or-take n m j 0 (ltb-true j n e)
take_by n m j false e = get_or-eq_default {A = ℕ} (take n m) 0 (rw length-take (omega (arith, ltb-false j n e)))

-- the first n bytes, and 0 behind them
pub byte_take : (n : ℕ) (m : List ℕ) (j : ℕ) → get_or (take n m) j 0 ≡ cond (ltb j n) (get_or m j 0) 0
byte_take n m j = take_by n m j (ltb j n) refl

bit_or_none : (b : Bool) (x j : ℕ) → bit_of (cond b x 0) j ≡ b && bit_of x j
bit_or_none true x j = refl
bit_or_none false x j = rw zero-div

-- the bits of the first n bytes
pub bit_take : (n : ℕ) (m : List ℕ) (k : ℕ) → bit_at (take n m) k ≡ ltb (k / 8) n && bit_at m k
bit_take n m k = rw (byte_take n m (k / 8)) (bit_or_none (ltb (k / 8) n) (get_or m (k / 8) 0) (k % 8))

-- the lowest one stands in the first byte that is not 0
pub lowest_found : (bytes : List ℕ) (i : ℕ) → i < length bytes → ((k : ℕ) → k < i → get_or bytes k 0 ≡ 0) → (get_or bytes i 0 ≡ 0 → ⊥)
    → lowest_in bytes ≡ Some (8 * i + count_trailing_zeros 8 (get_or bytes i 0))
unfolding lowest_in
lowest_found [] i h z n = absurd (not-suc-le-zero h)
lowest_found (b ∷ bs) zero h z n = rw (ne_eqb b 0 n) (ap Some (omega arith))
lowest_found (b ∷ bs) (suc i) h z n =
    rw (eq-eqb b 0 (z 0 (omega arith)), lowest_found bs i (le_of_suc-le-suc h) (λ k l. z (suc k) (suc-le-suc l)) n) (ap Some (omega arith))

-- where every byte is 0 there is no one
pub lowest_none : (bytes : List ℕ) → ((k : ℕ) → k < length bytes → get_or bytes k 0 ≡ 0) → lowest_in bytes ≡ None
unfolding lowest_in
lowest_none [] z = refl
lowest_none (b ∷ bs) z = rw (eq-eqb b 0 (z 0 (omega arith)), lowest_none bs (λ k l. z (suc k) (suc-le-suc l)))

-- ---- some bit stands in both

-- two numbers with a one at the same place have an AND that is not 0
and_of_bits : (a b j : ℕ) → bit_of a j ≡ true → bit_of b j ≡ true → bit_and a b ≡ 0 → ⊥
and_of_bits a b j p q z =
    let s : bit_and (a / 2 ^ j) (b / 2 ^ j) ≡ 0 = sym (and_shr a b j) ∙ rw z (zero-div (2 ^ j)) in
    let t = rw (eqb-true (a / 2 ^ j % 2) 1 p, eqb-true (b / 2 ^ j % 2) 1 q) at (and_step (a / 2 ^ j) (b / 2 ^ j)) in
    omega (arith, s, t)

-- a bit that stands in both is found
pub masked_of_bit : (bytes mask : List ℕ) (k : ℕ) → bit_at bytes k ≡ true → bit_at mask k ≡ true → some_masked bytes mask ≡ true
unfolding some_masked
masked_of_bit bytes mask k p q =
    any_at _ (length bytes) (k / 8)
    (lt_of_not-le (λ h. false≢true (sym (bit_past bytes k h) ∙ p)))
    (rw (ne_eqb _ 0 (and_of_bits (get_or bytes (k / 8) 0) (get_or mask (k / 8) 0) (k % 8) p q)))

-- the test of each pair of bytes
pub masked_pairs : (bytes mask : List ℕ) → list_any (λ (p : ℕ × ℕ). not (eqb (bit_and p.0 p.1) 0)) (zip bytes mask) ≡ some_masked bytes mask
unfolding some_masked
masked_pairs [] mask = refl
masked_pairs (b ∷ bs) [] = sym (any_none _ (suc (length bs)) (λ k. rw (and_zero_r (get_or (b ∷ bs) k 0))))
masked_pairs (b ∷ bs) (m ∷ ms) =
    rw (masked_pairs bs ms) (sym (any_front (λ k. not (eqb (bit_and (get_or (b ∷ bs) k 0) (get_or (m ∷ ms) k 0)) 0)) (length bs)))

-- two digits are both 1, or the smaller is 0
both_ones : (x y : ℕ) → x < 2 → y < 2 → ((x ≡ 1) × (y ≡ 1)) ⊎ (min x y ≡ 0)
both_ones zero y h l = inr (zero-min y)
both_ones (suc x) zero h l = inr (min-zero (suc x))
both_ones (suc x) (suc y) h l = inl (omega arith, omega arith)

-- two numbers whose AND is not 0 have a one at the same place
bits_of_and : (d a b : ℕ) → a < 2 ^ d → (bit_and a b ≡ 0 → ⊥) → (j : ℕ) × (j < d) × (bit_of a j ≡ true) × (bit_of b j ≡ true)
bits_of_and zero a b h n = absurd (n (rw (lt-one h) (and_zero_l b)))
bits_of_and (suc d) a b h n =
    ⊎_elim
    (λ o. (0, omega arith, rw (div-one a, o.0), rw (div-one b, o.1)))
    (λ o.
    let s = bits_of_and d (a / 2) (b / 2) (omega (arith, h, pow-suc 2 d)) (λ z. n (omega (arith, and_step a b))) in
    (suc s.0, suc-le-suc s.1, rw (pow-succ' 2 s.0, ← div-div-eq-div-mul a 2 (2 ^ s.0)) s.2, rw (pow-succ' 2 s.0, ← div-div-eq-div-mul b 2 (2 ^ s.0)) s.3))
    (both_ones (a % 2) (b % 2) (omega arith) (omega arith))

-- where something is found, some bit stands in both
pub bit_of_masked : (bytes mask : List ℕ) → ((j : ℕ) → get_or bytes j 0 < 2 ^ 8) → some_masked bytes mask ≡ true → (k : ℕ) × (bit_at bytes k ≡ true) × (bit_at mask k ≡ true)
unfolding some_masked
bit_of_masked bytes mask h e =
    let s = any_some (λ k. not (eqb (bit_and (get_or bytes k 0) (get_or mask k 0)) 0)) (length bytes) e in
    let b = bits_of_and 8 (get_or bytes s.0 0) (get_or mask s.0 0) (h s.0) (λ z. true≢false (sym s.2 ∙ rw z)) in
    let q : (8 * s.0 + b.0) / 8 ≡ s.0 = omega arith in
    let r : (8 * s.0 + b.0) % 8 ≡ b.0 = omega arith in
    (8 * s.0 + b.0, rw (q, r) b.2, rw (q, r) b.3)
