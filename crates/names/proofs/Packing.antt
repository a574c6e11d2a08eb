-- Laws of names: packing, and that packing tells names apart. Assumes nothing.
use mathlib.Core.Path.{◌≡◌, refl, sym}
use mathlib.Core.Bool.{Bool, true, false, cond, ◌&&◌, and-eq-true_iff}
use mathlib.Core.List.{List, [], ◌∷◌, map}
use Prim.Native.Nat.{ℕ, zero, suc, ◌+◌, ◌*◌, ◌<◌}
use native.Mathlib.Omega.{arith}
use lib.ListN.{length, get_or}
use lib.Dec.{eqb, ltb}
use borrow.Author.Tests.{eqb-true, ltb-true}
use Rattle.names.specs.Names.{call_of, names, packed, place}

-- ---- packing, by the length

pub packed_one : (f : List ℕ) → length f ≡ 1 → 256 + get_or f 0 0 ≡ packed f
unfolding packed
packed_one [] e = absurd (omega arith)
packed_one (a ∷ []) e = refl
packed_one (a ∷ b ∷ r) e = absurd (omega arith)

pub packed_two : (f : List ℕ) → length f ≡ 2 → (256 + get_or f 0 0) * 256 + get_or f 1 0 ≡ packed f
unfolding packed
packed_two [] e = absurd (omega arith)
packed_two (a ∷ []) e = absurd (omega arith)
packed_two (a ∷ b ∷ []) e = refl
packed_two (a ∷ b ∷ c ∷ r) e = absurd (omega arith)

pub packed_three : (f : List ℕ) → length f ≡ 3 → ((256 + get_or f 0 0) * 256 + get_or f 1 0) * 256 + get_or f 2 0 ≡ packed f
unfolding packed
packed_three [] e = absurd (omega arith)
packed_three (a ∷ []) e = absurd (omega arith)
packed_three (a ∷ b ∷ []) e = absurd (omega arith)
packed_three (a ∷ b ∷ c ∷ []) e = refl
packed_three (a ∷ b ∷ c ∷ d ∷ r) e = absurd (omega arith)

pub packed_else : (f : List ℕ) → (length f ≡ 1 → ⊥) → (length f ≡ 2 → ⊥) → (length f ≡ 3 → ⊥) → 0 ≡ packed f
unfolding packed
packed_else [] p q r = refl
packed_else (a ∷ []) p q r = absurd (p refl)
packed_else (a ∷ b ∷ []) p q r = absurd (q refl)
packed_else (a ∷ b ∷ c ∷ []) p q r = absurd (r refl)
packed_else (a ∷ b ∷ c ∷ d ∷ s) p q r = refl

-- ---- a name that is found is that name

-- every byte has 8 bits
abbrev pub Bytes : List ℕ → Type 0
Bytes f = (k : ℕ) → get_or f k 0 < 256

packed_told : (f g : List ℕ) → Bytes f → Bytes g → (packed g ≡ 0 → ⊥) → packed f ≡ packed g → f ≡ g
unfolding packed
packed_told f [] p q n e = absurd (n refl)
packed_told f (x ∷ y ∷ z ∷ w ∷ g) p q n e = absurd (n refl)
packed_told [] (x ∷ []) p q n e = absurd (omega arith)
packed_told (a ∷ []) (x ∷ []) p q n e = let h : a ≡ x = omega arith in rw h
packed_told (a ∷ b ∷ []) (x ∷ []) p q n e = absurd (omega (arith, q 0))
packed_told (a ∷ b ∷ c ∷ []) (x ∷ []) p q n e = absurd (omega (arith, q 0))
packed_told (a ∷ b ∷ c ∷ d ∷ f) (x ∷ []) p q n e = absurd (omega arith)
packed_told [] (x ∷ y ∷ []) p q n e = absurd (omega arith)
packed_told (a ∷ []) (x ∷ y ∷ []) p q n e = absurd (omega (arith, p 0))
packed_told (a ∷ b ∷ []) (x ∷ y ∷ []) p q n e =
    let h : a ≡ x = omega (arith, p 1, q 1) in
    let k : b ≡ y = omega (arith, p 1, q 1) in
    rw (h, k)
packed_told (a ∷ b ∷ c ∷ []) (x ∷ y ∷ []) p q n e = absurd (omega (arith, q 0, q 1))
packed_told (a ∷ b ∷ c ∷ d ∷ f) (x ∷ y ∷ []) p q n e = absurd (omega arith)
packed_told [] (x ∷ y ∷ z ∷ []) p q n e = absurd (omega arith)
packed_told (a ∷ []) (x ∷ y ∷ z ∷ []) p q n e = absurd (omega (arith, p 0))
packed_told (a ∷ b ∷ []) (x ∷ y ∷ z ∷ []) p q n e = absurd (omega (arith, p 0, p 1))
packed_told (a ∷ b ∷ c ∷ []) (x ∷ y ∷ z ∷ []) p q n e =
    let h : a ≡ x = omega (arith, p 1, q 1, p 2, q 2) in
    let k : b ≡ y = omega (arith, p 1, q 1, p 2, q 2) in
    let l : c ≡ z = omega (arith, p 1, q 1, p 2, q 2) in
    rw (h, k, l)
packed_told (a ∷ b ∷ c ∷ d ∷ f) (x ∷ y ∷ z ∷ []) p q n e = absurd (omega arith)

-- a test of every name, which the table passes by computation: its bytes have 8 bits, and it packs to more than 0
small : List ℕ → Bool
small [] = true
small (x ∷ xs) = ltb x 256 && small xs

fine : List (List ℕ) → Bool
fine [] = true
fine (n ∷ ns) = (ltb 0 (packed n) && small n) && fine ns

small_at : (l : List ℕ) → small l ≡ true → Bytes l
unfolding small
small_at [] e k = omega arith
small_at (x ∷ xs) e zero = ltb-true x 256 ((and-eq-true_iff (ltb x 256) (small xs)).0 e).0
small_at (x ∷ xs) e (suc k) = small_at xs ((and-eq-true_iff (ltb x 256) (small xs)).0 e).1 k

-- what is found in a table of such names is the name
found : (f : List ℕ) (ns : List (List ℕ)) → Bytes f → fine ns ≡ true → place (packed f) (map packed ns) < length ns → f ≡ get_or ns (place (packed f) (map packed ns)) []
unfolding place fine
found f [] b e h = absurd (omega arith)
found f (n ∷ ns) b e h =
    let s = (and-eq-true_iff (ltb 0 (packed n) && small n) (fine ns)).0 e in
    let t = (and-eq-true_iff (ltb 0 (packed n)) (small n)).0 s.0 in
    by_test (eqb (packed n) (packed f)) refl (ltb-true 0 (packed n) t.0) (small_at n t.1) h (found f ns b s.1)
  where
    by_test : (u : Bool) → eqb (packed n) (packed f) ≡ u → 0 < packed n → Bytes n → cond u zero (suc (place (packed f) (map packed ns))) < suc (length ns)
        → (place (packed f) (map packed ns) < length ns → f ≡ get_or ns (place (packed f) (map packed ns)) [])
        → f ≡ get_or (n ∷ ns) (cond u zero (suc (place (packed f) (map packed ns)))) []
    by_test true p l s k r = packed_told f n b s (λ z. omega arith) (sym (eqb-true (packed n) (packed f) p))
    by_test false p l s k r = r (omega arith)

pub call_named : (f : List ℕ) → Bytes f → call_of f < length names → f ≡ get_or names (call_of f) []
unfolding call_of names fine small packed
call_named f b h = found f names b refl h
