-- Rounding up, by multiplying: k ticks are right for a time exactly if they last as long, by less than a tick. Assumes nothing.
use mathlib.Core.Path.{◌≡◌, refl, sym}
use mathlib.Core.Bool.{Bool, true, false, ◌&&◌}
use Prim.Native.Nat.{ℕ, ◌+◌, ◌-◌, ◌*◌, ◌/◌, ◌≤◌, ◌<◌}
use native.Mathlib.Nat.{div-mul-le_self, lt-div-mul-add}
use native.Mathlib.Omega.{arith}
use lib.Arith.{digits_div}
use lib.Dec.{leb, ltb, eqb}
use borrow.Author.Tests.{leb-true, leb-false, ltb-true, ltb-false, eqb-true, eqb-false}
use Rattle.ticks.specs.Ticks.{ticks_of}

-- the quotient is k where k ticks last as long as the time, by less than a tick
between : (p k ms : ℕ) → 1 ≤ p → ms ≤ k * p → k * p - ms < p → (ms + (p - 1)) / p ≡ k
between p k ms h a b =
    let e : ms + (p - 1) ≡ k * p + (ms + (p - 1) - k * p) = omega arith in rw e (digits_div k (omega arith))

-- and they last so where the quotient is k
lower : (p ms : ℕ) → 1 ≤ p → (ms + (p - 1)) / p * p < ms + p
lower p ms h = omega (arith, div-mul-le_self (ms + (p - 1)) p)

upper : (p ms : ℕ) → 1 ≤ p → ms ≤ (ms + (p - 1)) / p * p
upper p ms h = omega (arith, lt-div-mul-add {a = ms + (p - 1)} {b = p} h)

-- the two tests say that k is the number of ticks
pub covers_is : (p k ms : ℕ) → 1 ≤ p → (leb ms (k * p) && ltb (k * p - ms) p) ≡ eqb k (ticks_of p ms)
unfolding ticks_of
covers_is p k ms h = go (leb ms (k * p)) (ltb (k * p - ms) p) (eqb k ((ms + (p - 1)) / p)) refl refl refl
  where
    go : (a b c : Bool) → leb ms (k * p) ≡ a → ltb (k * p - ms) p ≡ b → eqb k ((ms + (p - 1)) / p) ≡ c → (a && b) ≡ c
    go true true true x y w = refl
    go true true false x y w =
        absurd (eqb-false k ((ms + (p - 1)) / p) w (sym (between p k ms h (leb-true ms (k * p) x) (ltb-true (k * p - ms) p y))))
    go true false true x y w =
        let q = rw (← eqb-true k ((ms + (p - 1)) / p) w) at (lower p ms h) in
        absurd (omega (arith, q, leb-true ms (k * p) x, ltb-false (k * p - ms) p y))
    go true false false x y w = refl
    go false b true x y w =
        let q = rw (← eqb-true k ((ms + (p - 1)) / p) w) at (upper p ms h) in absurd (omega (arith, q, leb-false ms (k * p) x))
    go false b false x y w = refl

-- a time takes a tick
pub some_tick : (p ms : ℕ) → 1 ≤ p → 1 ≤ ms → ticks_of p ms ≡ 0 → ⊥
unfolding ticks_of
some_tick p ms h z e = let q = rw e at (upper p ms h) in omega arith
