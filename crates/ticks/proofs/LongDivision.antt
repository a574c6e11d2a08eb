-- Long division in binary: what holds before each bit of the quotient, and what the last one leaves. Assumes nothing.
use mathlib.Core.Path.{◌≡◌, ◌∙◌, refl}
use mathlib.Core.Bool.{Bool, true, false}
use Prim.Native.Nat.{ℕ, zero, suc, ◌+◌, ◌*◌, ◌/◌, ◌^◌, ◌≤◌, ◌<◌}
use native.Mathlib.Nat.{le-mul_of_pos_right, lt_of_mul-lt-mul_left, mul-le-mul_left, pow-suc}
use native.Mathlib.Omega.{arith}
use lib.Arith.{digits_div}
use lib.Dec.{ltb}
use lib.Pow.{pow_pos}
use borrow.Author.Tests.{ltb-false, ltb-true}
use Rattle.ticks.specs.declared.QuotientBit.{QuotientBit}
use Rattle.ticks.specs.LongDivision.{next_bit}

-- a division, where the divisor is shifted by as many places as have no bit yet
abbrev pub Dividing : ℕ → ℕ → ℕ → ℕ → ℕ → Type 0
Dividing dividend divisor quotient remainder shifted =
    (places : ℕ) × (shifted ≡ divisor * 2 ^ places) × (quotient * shifted + remainder ≡ dividend) × (remainder < shifted)

-- no place has a bit yet: they are enough if the shifted divisor is above the dividend
module _ {remainder shifted : ℕ} (dividend divisor places : ℕ) where
  pub begun : remainder ≡ dividend → remainder < shifted → shifted ≡ divisor * 2 ^ places
      → Dividing dividend divisor 0 remainder shifted
  begun e h f = (places, f, omega (arith, e), h)

-- a bit takes away what it counts, and leaves less than the shifted divisor
module _ (quotient remainder shifted : ℕ) where
  abbrev Counts : QuotientBit → Type 0
  Counts next =
      ((quotient * 2 + next.bit) * shifted + next.remainder ≡ quotient * (shifted * 2) + remainder)
      × (next.remainder < shifted)

  counts : remainder < shifted * 2 → Counts (next_bit remainder shifted)
  unfolding next_bit
  counts h = go (ltb remainder shifted) refl
    where
      go : (less : Bool) → ltb remainder shifted ≡ less → Counts (next_bit remainder shifted)
      go true e = rw e (omega arith, ltb-true remainder shifted e)
      go false e = let f = ltb-false remainder shifted e in rw e (omega (arith, f), omega (arith, f))

module _ (dividend divisor quotient remainder shifted : ℕ) (i : Dividing dividend divisor quotient remainder shifted) where
  at_least : divisor ≤ shifted
  at_least = rw i.1 (le-mul_of_pos_right divisor (pow_pos i.0))

  -- the quotient is below k where the dividend is below k times the divisor
  below : (k : ℕ) → dividend < k * divisor → quotient < k
  below k h = lt_of_mul-lt-mul_left divisor (omega (arith, h, i.2, mul-le-mul_left quotient at_least))

  -- every place has its bit
  pub all_done : shifted ≤ divisor → dividend / divisor ≡ quotient
  all_done h = let e : shifted ≡ divisor = omega (arith, h, at_least) in rw (← i.2, ← e) (digits_div quotient i.3)

-- one place more has its bit
module _ (dividend divisor quotient remainder shifted : ℕ) (i : Dividing dividend divisor quotient remainder shifted)
    (h : divisor < shifted) where
  abbrev half : ℕ
  half = shifted / 2

  abbrev next : QuotientBit
  next = next_bit remainder half

  -- the shifted divisor is even, and its half is shifted by one place less
  evenly : (k : ℕ) → shifted ≡ divisor * 2 ^ k → (j : ℕ) × (half ≡ divisor * 2 ^ j) × (shifted ≡ half * 2)
  evenly zero e = absurd (omega (arith, e, h))
  evenly (suc k) e =
      let f : shifted ≡ divisor * 2 ^ k * 2 = rw pow-suc at e ∙ omega arith in (k, omega (arith, f), omega (arith, f))

  pub bit_done : Dividing dividend divisor (quotient * 2 + next.bit) next.remainder half
  bit_done =
      let e = evenly i.0 i.1 in
      let c = counts quotient remainder half (omega (arith, i.3, e.2)) in
      (e.0, e.1, c.0 ∙ rw (← e.2) i.2, c.1)

  -- the quotient has room for it
  pub room : (k : ℕ) → dividend < k * divisor → quotient * 2 + next.bit < k
  room = below dividend divisor (quotient * 2 + next.bit) next.remainder half bit_done
