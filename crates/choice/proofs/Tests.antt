-- Laws of tests: two tests of one fact are equal, and what a joined test says. Assumes nothing.
use mathlib.Core.Path.{◌≡◌, refl}
use mathlib.Core.Bool.{Bool, true, false, not, xor, beq, ◌&&◌, ◌||◌}
use mathlib.Core.Logic.{◌⊎◌}
use Prim.Native.Nat.{ℕ, ◌≤◌}
use native.Mathlib.Omega.{arith}
use lib.Dec.{leb, eqb}
use borrow.Author.Tests.{leb-true, leb-false, eqb-true, eqb-false}
use Rattle.std.proofs.lemmas.Bool.{and_parts}

-- `≤` tested in two ways
pub same_leb : (a b c d : ℕ) → (a ≤ b → c ≤ d) → (c ≤ d → a ≤ b) → leb a b ≡ leb c d
same_leb a b c d to from = go (leb a b) (leb c d) refl refl
  where
    go : (s t : Bool) → leb a b ≡ s → leb c d ≡ t → s ≡ t
    go true true e f = refl
    go true false e f = absurd (omega (arith, to (leb-true a b e), leb-false c d f))
    go false true e f = absurd (omega (arith, from (leb-true c d f), leb-false a b e))
    go false false e f = refl

-- equality tested in two ways
pub same_eqb : (a b c d : ℕ) → (a ≡ b → c ≡ d) → (c ≡ d → a ≡ b) → eqb a b ≡ eqb c d
same_eqb a b c d to from = go (eqb a b) (eqb c d) refl refl
  where
    go : (s t : Bool) → eqb a b ≡ s → eqb c d ≡ t → s ≡ t
    go true true e f = refl
    go true false e f = absurd (eqb-false c d f (to (eqb-true a b e)))
    go false true e f = absurd (eqb-false a b e (from (eqb-true c d f)))
    go false false e f = refl

-- the parts of a conjunction that holds
pub and_left : (a b : Bool) → (a && b) ≡ true → a ≡ true
and_left a b e = (and_parts a b e).0

pub and_right : (a b : Bool) → (a && b) ≡ true → b ≡ true
and_right a b e = (and_parts a b e).1

-- one part of a disjunction that holds
pub or_cases : (a b : Bool) → (a || b) ≡ true → (a ≡ true) ⊎ (b ≡ true)
or_cases a b e = Rattle.std.proofs.lemmas.Bool.or_cases a b e

-- what `^` computes is the library's `xor`
pub xor_is : (a b : Bool) → not (beq a b) ≡ xor a b
unfolding xor
xor_is true true = refl
xor_is true false = refl
xor_is false true = refl
xor_is false false = refl
