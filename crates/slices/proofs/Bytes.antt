-- Laws of elements stored one after the other, for any lists. Assumes nothing.
use mathlib.Core.Path.{◌≡◌, refl, ap, sym, ◌∙◌}
use mathlib.Core.List.{List, [], ◌∷◌, ◌++◌, append-nil}
use mathlib.Core.Logic.{◌⊎◌, inl, inr}
use Prim.Native.Nat.{ℕ, zero, suc, ◌+◌, ◌-◌, ◌<◌, ◌≤◌, min}
use native.Mathlib.Nat.{min-zero, add-zero, add-suc, suc-add, le_of_suc-le-suc, not-suc-le-zero}
use native.Mathlib.Numerals.{unary_clauses}
use native.Mathlib.Omega.{arith}
use lib.ListN.{length, get_or, set, take, drop, drop_of_length-le, length-drop, length-set}
use lib.Seq.{sets, set_out, take_all, get_or-set_same, get_or-set_other, get_or-take, get_or-drop, ext_get_or, length-take-le}

sets_nil : {A : Type 0} (i : ℕ) (vs : List A) → sets [] i vs ≡ []
sets_nil i [] = refl
sets_nil i (v ∷ vs) = sets_nil (suc i) vs

pub sets_cons : {A : Type 0} (x : A) (l : List A) (i : ℕ) (vs : List A) → sets (x ∷ l) (suc i) vs ≡ x ∷ sets l i vs
sets_cons x l i [] = refl
sets_cons x l i (v ∷ vs) = sets_cons x (set l i v) (suc i) vs

-- elements stored into the part from place i on
pub sets_part : {A : Type 0} (i : ℕ) (l vs : List A) → take i l ++ sets (drop i l) 0 vs ≡ sets l i vs
sets_part zero l vs = refl
sets_part (suc i) [] vs = sets_nil 0 vs ∙ sym (sets_nil (suc i) vs)
sets_part {A} (suc i) (x ∷ l) vs = ap (λ (r : List A). x ∷ r) (sets_part i l vs) ∙ sym (sets_cons x l i vs)

-- the same where the part has come back
pub sets_back : {A : Type 0} (i : ℕ) (l vs : List A)
    → take i l ++ (sets (take (length l - i) (drop i l)) 0 vs ++ drop (length l - i) (drop i l)) ≡ sets l i vs
sets_back i l vs =
    rw (
      take_all (length l - i) (drop i l) (omega (arith, length-drop i l)),
      drop_of_length-le (drop i l) {i = length l - i} (omega (arith, length-drop i l)),
      append-nil (sets (drop i l) 0 vs),
    )
    (sets_part i l vs)

-- past the end nothing is stored
pub sets_out : {A : Type 0} (l : List A) (i : ℕ) (vs : List A) → length l ≤ i → sets l i vs ≡ l
sets_out l i [] h = refl
sets_out l i (v ∷ vs) h = rw (set_out l i v h) (sets_out l (suc i) vs (omega arith))

-- stored from the start on, as many as there is room for
pub sets_first : {A : Type 0} (l vs : List A) → take (min (length vs) (length l)) vs ++ drop (min (length vs) (length l)) l ≡ sets l 0 vs
sets_first [] vs = rw (min-zero (length vs)) (sym (sets_nil 0 vs))
sets_first (x ∷ l) [] = simp unary_clauses
sets_first {A} (x ∷ l) (v ∷ vs) = simp unary_clauses (ap (λ (r : List A). v ∷ r) (sets_first l vs) ∙ sym (sets_cons v l 0 vs))

-- a list that is stored over whole is the other's beginning
pub sets_over : (l vs : List ℕ) → length l ≤ length vs → sets l 0 vs ≡ take (length l) vs
sets_over [] vs h = sets_nil 0 vs
sets_over (x ∷ l) [] h = absurd (not-suc-le-zero h)
sets_over (x ∷ l) (v ∷ vs) h = sets_cons v l 0 vs ∙ ap (λ (r : List ℕ). v ∷ r) (sets_over l vs (le_of_suc-le-suc h))

-- what stands at a place outside the bytes stored, and inside
pub at_outside : (vs l : List ℕ) (i k : ℕ) → (k < i) ⊎ (i + length vs ≤ k) → get_or (sets l i vs) k 0 ≡ get_or l k 0
at_outside [] l i k o = refl
at_outside (v ∷ vs) l i k (inl h) =
    at_outside vs (set l i v) (suc i) k (inl (omega arith)) ∙ get_or-set_other l i k v 0 (λ e. omega arith)
at_outside (v ∷ vs) l i k (inr h) =
    at_outside vs (set l i v) (suc i) k (inr (omega arith)) ∙ get_or-set_other l i k v 0 (λ e. omega arith)

pub at_inside : (vs l : List ℕ) (i j : ℕ) → j < length vs → i + length vs ≤ length l → get_or (sets l i vs) (i + j) 0 ≡ get_or vs j 0
at_inside [] l i j h w = absurd (not-suc-le-zero h)
at_inside (v ∷ vs) l i zero h w =
    at_outside vs (set l i v) (suc i) (i + 0) (inl (omega arith)) ∙ rw (add-zero i) (get_or-set_same l i v 0 (omega arith))
at_inside (v ∷ vs) l i (suc j) h w =
    rw (add-suc i j, ← suc-add i j) (at_inside vs (set l i v) (suc i) j (le_of_suc-le-suc h) (omega (arith, length-set l i v)))

-- n bytes from place i on, of the first l bytes
pub part_is : (x vs : List ℕ) (l i n : ℕ) → length vs ≡ n → i + n ≤ l → l ≤ length x
    → ((j : ℕ) → j < n → get_or x (i + j) 0 ≡ get_or vs j 0) → take n (drop i (take l x)) ≡ vs
part_is x vs l i n e h w each =
    let long : length (take l x) ≡ l = length-take-le l x w in
    let size : length (take n (drop i (take l x))) ≡ n =
    length-take-le n (drop i (take l x)) (omega (arith, length-drop i (take l x))) in
    ext_get_or 0 (take n (drop i (take l x))) vs (omega arith)
    (λ j below.
    get_or-take n (drop i (take l x)) j 0 (omega arith) ∙ get_or-drop i (take l x) j 0 ∙ get_or-take l x (i + j) 0 (omega arith)
    ∙ each j (omega arith))
