-- A test of each time, one behind the other, is the library's test of all of a list. Assumes nothing.
use mathlib.Core.Path.{◌≡◌, refl}
use mathlib.Core.Bool.{Bool, true, false, ◌&&◌}
use Prim.Native.Nat.{ℕ}
use Rattle.std.specs.List.{enumerate_from, list_all, zip}
use Rattle.config.specs.declared.Times.{Times}
use Rattle.config.specs.Times.{each}

all_eight : (a b c d e f g h : Bool)
    → (a && (b && (c && (d && (e && (f && (g && (h && true)))))))) ≡ (a && b && c && d && e && f && g && h)
all_eight false b c d e f g h = refl
all_eight true false c d e f g h = refl
all_eight true true false d e f g h = refl
all_eight true true true false e f g h = refl
all_eight true true true true false f g h = refl
all_eight true true true true true false g h = refl
all_eight true true true true true true false h = refl
all_eight true true true true true true true false = refl
all_eight true true true true true true true true = refl

-- with its number
pub all_counted : {A : Type 0} (test : ℕ × A → Bool) (t : Times A)
    → list_all test (enumerate_from 0 (each t))
    ≡ (test (0, t.timeout)
    && test (1, t.wait)
    && test (2, t.repeat)
    && test (3, t.cycle)
    && test (4, t.offset)
    && test (5, t.fast)
    && test (6, t.remote)
    && test (7, t.reset))
all_counted test t =
    all_eight (test (0, t.timeout)) (test (1, t.wait)) (test (2, t.repeat)) (test (3, t.cycle)) (test (4, t.offset)) (test (5, t.fast))
    (test (6, t.remote)) (test (7, t.reset))

-- with the same time of another unit
pub all_paired : {A B : Type 0} (test : A × B → Bool) (t : Times A) (u : Times B)
    → list_all test (zip (each t) (each u))
    ≡ (test (t.timeout, u.timeout)
    && test (t.wait, u.wait)
    && test (t.repeat, u.repeat)
    && test (t.cycle, u.cycle)
    && test (t.offset, u.offset)
    && test (t.fast, u.fast)
    && test (t.remote, u.remote)
    && test (t.reset, u.reset))
all_paired test t u =
    all_eight (test (t.timeout, u.timeout)) (test (t.wait, u.wait)) (test (t.repeat, u.repeat)) (test (t.cycle, u.cycle))
    (test (t.offset, u.offset)) (test (t.fast, u.fast)) (test (t.remote, u.remote)) (test (t.reset, u.reset))
