-- Laws of reset timers, for any number of them. Assumes nothing.
use mathlib.Core.Path.{◌≡◌, refl, sym, ◌∙◌}
use mathlib.Core.Bool.{Bool, true, false, cond, ◌&&◌, xor}
use mathlib.Core.List.{List, [], ◌∷◌}
use Prim.Native.Nat.{ℕ, zero, suc, ◌-◌, ◌<◌, ◌≤◌, zero-le}
use native.Mathlib.Nat.{le_refl}
use native.Mathlib.Omega.{arith}
use lib.Dec.{eqb}
use lib.ListN.{length, get_or, replicate, length-replicate, get_or-replicate}
use borrow.Author.Tests.{ne_eqb, le-leb, leb-true}
use Rattle.bits.specs.Lists.{map_from, any_below}
use Rattle.bits.specs.Bits.{bit_at}
use Rattle.timers.specs.Timers.{counted_down, loaded_where, limit_at, all_within}
use Rattle.vectors.specs.Vectors.{vectors_differ}
use Rattle.bits.proofs.Lists.{length_map_from, at_map, all_true, all_at, any_ext, any_rest}
use Rattle.vectors.proofs.Vectors.{xor_self}

-- ---- counted down

-- counting down keeps the number of timers
pub length_counted_down : (ts : List ℕ) → length (counted_down ts) ≡ length ts
unfolding counted_down
length_counted_down ts = length_map_from _ 0 ts

-- each timer of a list that starts at any place is one down
down_from : (b : ℕ) (ts : List ℕ) (k : ℕ) → get_or (map_from (λ j t. t - 1) b ts) k 0 ≡ get_or ts k 0 - 1
down_from b [] k = refl
down_from b (t ∷ ts) zero = refl
down_from b (t ∷ ts) (suc k) = down_from (suc b) ts k

-- each timer is one down
pub at_counted_down : (ts : List ℕ) (k : ℕ) → get_or (counted_down ts) k 0 ≡ get_or ts k 0 - 1
unfolding counted_down
at_counted_down ts k = down_from 0 ts k

-- a timer that counts down leaves the vector exactly at 1
one_down : (x : ℕ) → eqb x 1 ≡ xor (eqb x 0) (eqb (x - 1) 0)
unfolding xor
one_down zero = refl
one_down (suc zero) = refl
one_down (suc (suc x)) = rw (ne_eqb (suc (suc x)) 1 (λ e. omega arith), ne_eqb (suc (suc x)) 0 (λ e. omega arith), ne_eqb (suc (suc x) - 1) 0 (λ e. omega arith))

-- counting down changes the vector if some timer is 1, and only then
pub counted_down_differs : (ts : List ℕ) → any_below (λ k. eqb (get_or ts k 0) 1) (length ts) ≡ vectors_differ ts (counted_down ts)
unfolding vectors_differ
counted_down_differs ts = any_ext _ _ (length ts) (λ k l. rw (at_counted_down ts k) (one_down (get_or ts k 0)))

-- ---- loaded

-- loading keeps the number of timers
pub length_loaded_where : (bytes mask : List ℕ) (p : ℕ) (ts : List ℕ) → length (loaded_where bytes mask p ts) ≡ length ts
unfolding loaded_where
length_loaded_where bytes mask p ts = length_map_from _ 0 ts

-- a timer holds p where its bit stands in both, and what it held elsewhere
pub at_loaded_where : (bytes mask : List ℕ) (p : ℕ) (ts : List ℕ) (k : ℕ) → k < length ts → get_or (loaded_where bytes mask p ts) k 0 ≡ cond (bit_at bytes k && bit_at mask k) p (get_or ts k 0)
unfolding loaded_where
at_loaded_where bytes mask p ts k h = at_map _ ts k h

-- ---- within a mask

-- in a table within its mask each timer is at most its limit
pub within_at : (mask : List ℕ) (p : ℕ) (ts : List ℕ) (k : ℕ) → all_within mask p ts ≡ true → k < length ts → get_or ts k 0 ≤ limit_at mask p k
unfolding all_within
within_at mask p ts k e h = leb-true (get_or ts k 0) (limit_at mask p k) (all_at _ (length ts) k e h)

-- a table whose timers are each at most their limit is within its mask
pub within_each : (mask : List ℕ) (p : ℕ) (ts : List ℕ) → ((k : ℕ) → k < length ts → get_or ts k 0 ≤ limit_at mask p k) → all_within mask p ts ≡ true
unfolding all_within
within_each mask p ts h = all_true _ (length ts) (λ k l. le-leb (get_or ts k 0) (limit_at mask p k) (h k l))

-- a table of stopped timers is within every mask
pub within_zeros : (mask : List ℕ) (p n : ℕ) → all_within mask p (replicate n 0) ≡ true
within_zeros mask p n =
    within_each mask p (replicate n 0) (λ k l. rw (get_or-replicate {A = ℕ} n k 0 0 (rw (length-replicate {A = ℕ} n 0) at l)) zero-le)

-- counting down keeps a table within its mask
pub within_counted_down : (mask : List ℕ) (p : ℕ) (ts : List ℕ) → all_within mask p ts ≡ true → all_within mask p (counted_down ts) ≡ true
within_counted_down mask p ts e =
    within_each mask p (counted_down ts)
    (λ k l. rw (at_counted_down ts k) (omega (arith, within_at mask p ts k e (rw (length_counted_down ts) at l))))

-- one loaded timer is at most its limit
loaded_one : (a b : Bool) (p t : ℕ) → t ≤ cond b p 0 → cond (a && b) p t ≤ cond b p 0
loaded_one true true p t h = le_refl p
loaded_one true false p t h = h
loaded_one false b p t h = h

-- loading keeps a table within its mask
pub within_loaded_where : (bytes mask : List ℕ) (p : ℕ) (ts : List ℕ) → all_within mask p ts ≡ true → all_within mask p (loaded_where bytes mask p ts) ≡ true
within_loaded_where bytes mask p ts e =
    within_each mask p (loaded_where bytes mask p ts)
    (λ k l.
    let h : k < length ts = rw (length_loaded_where bytes mask p ts) at l in
    rw (at_loaded_where bytes mask p ts k h) (loaded_one (bit_at bytes k) (bit_at mask k) p (get_or ts k 0) (within_at mask p ts k e h)))

-- loading changes the vector exactly if it changes the bit of one of the first n timers, where no later one is loaded
pub loaded_where_differs : (bytes mask : List ℕ) (p : ℕ) (ts : List ℕ) (n : ℕ) → n ≤ length ts
    → ((k : ℕ) → n ≤ k → k < length ts → (bit_at bytes k && bit_at mask k) ≡ false)
    → any_below (λ k. xor (eqb (get_or ts k 0) 0) (eqb (cond (bit_at bytes k && bit_at mask k) p (get_or ts k 0)) 0)) n
    ≡ vectors_differ ts (loaded_where bytes mask p ts)
unfolding vectors_differ
loaded_where_differs bytes mask p ts n l h =
    sym (any_rest _ n (length ts) l (λ k a b. rw (h k a b) (xor_self (eqb (get_or ts k 0) 0))))
    ∙ any_ext _ _ (length ts) (λ k b. rw (at_loaded_where bytes mask p ts k b))
