-- Laws of lists changed place by place, and of tests and sums over the places of a range, for any length. Assumes nothing.
use mathlib.Core.Path.{◌≡◌, refl, ap, sym, ◌∙◌}
use mathlib.Core.Bool.{Bool, true, false, ◌&&◌, ◌||◌, and-eq-true_iff, or-true, or-false, or_assoc, false≢true}
use mathlib.Core.List.{List, [], ◌∷◌, ◌++◌}
use mathlib.Core.Logic.{⊎_elim}
use Prim.Native.Nat.{ℕ, zero, suc, ◌+◌, ◌<◌, ◌≤◌, zero-le}
use native.Mathlib.Nat.{eq-or-lt_of_le, le_antisymm, add-zero, zero-add, add-suc, suc-add, le_of_suc-le-suc, not-suc-le-zero}
use native.Mathlib.Numerals.{add-one}
use native.Mathlib.Omega.{arith}
use lib.ListN.{length, get_or, set, take, drop, length-set}
use Rattle.std.specs.List.{sum_by}
use Rattle.std.proofs.lemmas.List.Sums.{sum_by-cons}
use Rattle.std.proofs.lemmas.Bool.{or_cases}
use Rattle.bits.specs.Lists.{map_from, all_below, any_below, sum_below}

-- ---- map_from

-- a change place by place keeps the length
pub length_map_from : (f : ℕ → ℕ → ℕ) (b : ℕ) (xs : List ℕ) → length (map_from f b xs) ≡ length xs
length_map_from f b [] = refl
length_map_from f b (x ∷ xs) = ap suc (length_map_from f (suc b) xs)

-- what stands at place k after the change
pub at_map_from : (f : ℕ → ℕ → ℕ) (b : ℕ) (xs : List ℕ) (k : ℕ) → k < length xs → get_or (map_from f b xs) k 0 ≡ f (b + k) (get_or xs k 0)
at_map_from f b [] k h = absurd (not-suc-le-zero h)
at_map_from f b (x ∷ xs) zero h = ap (λ (j : ℕ). f j x) (sym (add-zero b))
at_map_from f b (x ∷ xs) (suc k) h = at_map_from f (suc b) xs k (le_of_suc-le-suc h) ∙ ap (λ (j : ℕ). f j (get_or xs k 0)) (suc-add b k ∙ sym (add-suc b k))

-- changes that agree at each place of the list make the same list
pub map_from_ext : (f g : ℕ → ℕ → ℕ) (b : ℕ) (xs : List ℕ) → ((k x : ℕ) → k < b + length xs → f k x ≡ g k x) → map_from f b xs ≡ map_from g b xs
map_from_ext f g b [] h = refl
map_from_ext f g b (x ∷ xs) h = rw (h b x (omega arith), map_from_ext f g (suc b) xs (λ k y u. h k y (omega arith)))

-- the same for a change from place 0 on
pub at_map : (f : ℕ → ℕ → ℕ) (xs : List ℕ) (k : ℕ) → k < length xs → get_or (map_from f 0 xs) k 0 ≡ f k (get_or xs k 0)
at_map f xs k h = at_map_from f 0 xs k h ∙ ap (λ (j : ℕ). f j (get_or xs k 0)) (zero-add k)

-- ---- a loop that changes a slice place by place

-- map_from for the first n elements alone
abbrev pub map_first : (ℕ → ℕ → ℕ) → ℕ → ℕ → List ℕ → List ℕ
map_first f b zero xs = xs
map_first f b (suc n) [] = []
map_first f b (suc n) (x ∷ xs) = f b x ∷ map_first f (suc b) n xs

-- what stands at place n has not been changed yet
at_first : (f : ℕ → ℕ → ℕ) (b n : ℕ) (xs : List ℕ) → get_or (map_first f b n xs) n 0 ≡ get_or xs n 0
at_first f b zero xs = refl
at_first f b (suc n) [] = refl
at_first f b (suc n) (x ∷ xs) = at_first f (suc b) n xs

-- place n changed as well
first_more : (f : ℕ → ℕ → ℕ) (b n : ℕ) (xs : List ℕ) → n < length xs → set (map_first f b n xs) n (f (b + n) (get_or xs n 0)) ≡ map_first f b (suc n) xs
first_more f b n [] h = absurd (not-suc-le-zero h)
first_more f b zero (x ∷ xs) h = ap (λ (k : ℕ). f k x ∷ xs) (add-zero b)
first_more f b (suc n) (x ∷ xs) h =
    ap (λ (k : ℕ). f b x ∷ set (map_first f (suc b) n xs) n (f k (get_or xs n 0))) (add-suc b n ∙ sym (suc-add b n))
    ∙ ap (λ (l : List ℕ). f b x ∷ l) (first_more f (suc b) n xs (le_of_suc-le-suc h))

-- every place changed
first_all : (f : ℕ → ℕ → ℕ) (b n : ℕ) (xs : List ℕ) → length xs ≤ n → map_first f b n xs ≡ map_from f b xs
first_all f b zero [] h = refl
first_all f b zero (x ∷ xs) h = absurd (not-suc-le-zero h)
first_all f b (suc n) [] h = refl
first_all f b (suc n) (x ∷ xs) h = ap (λ (l : List ℕ). f b x ∷ l) (first_all f (suc b) n xs (le_of_suc-le-suc h))

-- the invariant: xs before the loop, ys now, n places done
abbrev pub Upto : (ℕ → ℕ → ℕ) → List ℕ → List ℕ → ℕ → Type 0
Upto f xs ys n = (ys ≡ map_first f 0 n xs) × (length ys ≡ length xs)

-- the next place still holds what it held before the loop
pub upto_here : (f : ℕ → ℕ → ℕ) (xs ys : List ℕ) (n : ℕ) → Upto f xs ys n → get_or ys n 0 ≡ get_or xs n 0
upto_here f xs ys n u = rw u.0 (at_first f 0 n xs)

-- one turn of the loop
pub upto_more : (f : ℕ → ℕ → ℕ) (xs ys : List ℕ) (n : ℕ) {v : ℕ} → n < length ys → Upto f xs ys n → v ≡ f n (get_or ys n 0) → Upto f xs (set ys n v) (n + 1)
upto_more f xs ys n {v} h u w = (
  rw (w, u.0, at_first f 0 n xs, add-one n)
      (ap (λ (k : ℕ). set (map_first f 0 n xs) n (f k (get_or xs n 0))) (sym (zero-add n)) ∙ first_more f 0 n xs (rw u.1 at h)),
  length-set ys n v ∙ u.1,
)

-- the loop's end
pub upto_all : (f : ℕ → ℕ → ℕ) (xs ys : List ℕ) (n : ℕ) → length ys ≤ n → Upto f xs ys n → ys ≡ map_from f 0 xs
upto_all f xs ys n h u = u.0 ∙ first_all f 0 n xs (rw u.1 at h)

-- a change that leaves every place from n on is done after the first n
first_rest : (f : ℕ → ℕ → ℕ) (b n : ℕ) (xs : List ℕ) → ((k x : ℕ) → b + n ≤ k → k < b + length xs → f k x ≡ x) → map_first f b n xs ≡ map_from f b xs
first_rest f b n [] h = first_all f b n [] zero-le
first_rest f b zero (x ∷ xs) h =
    rw (h b x (omega arith) (omega arith)) (ap (λ (l : List ℕ). x ∷ l) (first_rest f (suc b) zero xs (λ k y l m. h k y (omega arith) (omega arith))))
first_rest f b (suc n) (x ∷ xs) h =
    ap (λ (l : List ℕ). f b x ∷ l) (first_rest f (suc b) n xs (λ k y l m. h k y (omega arith) (omega arith)))

-- the first n elements changed, and the others as they were
first_front : (f : ℕ → ℕ → ℕ) (b n : ℕ) (xs : List ℕ) → map_from f b (take n xs) ++ drop n xs ≡ map_first f b n xs
first_front f b zero xs = refl
first_front f b (suc n) [] = refl
first_front f b (suc n) (x ∷ xs) = ap (λ (l : List ℕ). f b x ∷ l) (first_front f (suc b) n xs)

-- the end of a loop over the first n elements, behind which nothing changes
pub front_all : (f : ℕ → ℕ → ℕ) (n : ℕ) (xs : List ℕ) → ((k x : ℕ) → n ≤ k → k < length xs → f k x ≡ x)
    → map_from f 0 (take n xs) ++ drop n xs ≡ map_from f 0 xs
front_all f n xs h = first_front f 0 n xs ∙ first_rest f 0 n xs (λ k x l m. h k x (omega arith) (omega arith))

-- ---- the end of a loop

-- a loop that has come to its last place, m, holds what it was to find up to there
pub loop_done : {A : Type 0} (g : ℕ → A) {n m : ℕ} {x : A} → n ≤ m → m ≤ n → x ≡ g n → x ≡ g m
loop_done g h k w = rw (← le_antisymm h k) w

-- ---- tests at each place

-- one turn of a loop that tests each place
pub all_more : (p : ℕ → Bool) (n : ℕ) {b b' : Bool} → b ≡ all_below p n → b' ≡ b && p n → b' ≡ all_below p (n + 1)
all_more p n {b} e w = rw (w, e, add-one n)

-- the same test at each place, the same answer
pub all_ext : (p q : ℕ → Bool) (n : ℕ) → ((k : ℕ) → k < n → p k ≡ q k) → all_below p n ≡ all_below q n
all_ext p q zero h = refl
all_ext p q (suc n) h = rw (all_ext p q n (λ k l. h k (omega arith)), h n (omega arith))

-- what holds at each place is answered by true
pub all_true : (p : ℕ → Bool) (n : ℕ) → ((k : ℕ) → k < n → p k ≡ true) → all_below p n ≡ true
all_true p zero h = refl
all_true p (suc n) h = rw (all_true p n (λ k l. h k (omega arith)), h n (omega arith))

-- what was tested everywhere holds at each place
pub all_at : (p : ℕ → Bool) (n k : ℕ) → all_below p n ≡ true → k < n → p k ≡ true
all_at p zero k e h = absurd (not-suc-le-zero h)
all_at p (suc n) k e h =
    let s = (and-eq-true_iff (all_below p n) (p n)).0 e in
    ⊎_elim (λ q. rw q s.1) (λ l. all_at p n k s.0 l) (eq-or-lt_of_le (le_of_suc-le-suc h))

-- ---- tests at some place

-- one turn of a loop that looks for a place
pub any_more : (p : ℕ → Bool) (n : ℕ) {b b' : Bool} → b ≡ any_below p n → b' ≡ b || p n → b' ≡ any_below p (n + 1)
any_more p n {b} e w = rw (w, e, add-one n)

-- the same test at each place, the same answer
pub any_ext : (p q : ℕ → Bool) (n : ℕ) → ((k : ℕ) → k < n → p k ≡ q k) → any_below p n ≡ any_below q n
any_ext p q zero h = refl
any_ext p q (suc n) h = rw (any_ext p q n (λ k l. h k (omega arith)), h n (omega arith))

-- what holds at no place behind n holds below m exactly if it holds below n
pub any_rest : (p : ℕ → Bool) (n m : ℕ) → n ≤ m → ((k : ℕ) → n ≤ k → k < m → p k ≡ false) → any_below p m ≡ any_below p n
any_rest p n zero l h = let e : 0 ≡ n = omega arith in ap (any_below p) e
any_rest p n (suc m) l h =
    ⊎_elim (λ e. ap (any_below p) (sym e))
    (λ u. rw (any_rest p n m (le_of_suc-le-suc u) (λ k a b. h k a (omega arith)), h m (le_of_suc-le-suc u) (omega arith)) (or-false (any_below p n)))
    (eq-or-lt_of_le l)

-- a test that holds at one place is answered by true
pub any_at : (p : ℕ → Bool) (n k : ℕ) → k < n → p k ≡ true → any_below p n ≡ true
any_at p zero k h e = absurd (not-suc-le-zero h)
any_at p (suc n) k h e = ⊎_elim (λ q. rw (← q, e) (or-true (any_below p k))) (λ l. rw (any_at p n k l e)) (eq-or-lt_of_le (le_of_suc-le-suc h))

-- a test that is answered by true holds at some place
pub any_some : (p : ℕ → Bool) (n : ℕ) → any_below p n ≡ true → (k : ℕ) × (k < n) × (p k ≡ true)
any_some p zero e = absurd (false≢true e)
any_some p (suc n) e =
    ⊎_elim (λ l. let s = any_some p n l in (s.0, omega arith, s.2)) (λ h. (n, omega arith, h)) (or_cases (any_below p n) (p n) e)

-- the first place and the places behind it
pub any_front : (p : ℕ → Bool) (n : ℕ) → any_below p (suc n) ≡ p 0 || any_below (λ k. p (suc k)) n
any_front p zero = sym (or-false (p 0))
any_front p (suc n) = rw (any_front p n) (or_assoc (p 0) (any_below (λ k. p (suc k)) n) (p (suc n)))

-- a test that holds at no place is answered by false
pub any_none : (p : ℕ → Bool) (n : ℕ) → ((k : ℕ) → p k ≡ false) → any_below p n ≡ false
any_none p zero h = refl
any_none p (suc n) h = rw (any_none p n h, h n)

-- ---- sums

-- the first place and the places behind it
sum_front : (f : ℕ → ℕ) (n : ℕ) → sum_below f (suc n) ≡ f 0 + sum_below (λ k. f (suc k)) n
sum_front f zero = omega arith
sum_front f (suc n) = omega (arith, sum_front f n)

-- the sum over a list is the sum over its places
pub sum_places : (f : ℕ → ℕ) (xs : List ℕ) → sum_by f xs ≡ sum_below (λ k. f (get_or xs k 0)) (length xs)
sum_places f [] = refl
sum_places f (x ∷ xs) = rw (sum_by-cons f x xs, sum_places f xs) (sym (sum_front (λ k. f (get_or (x ∷ xs) k 0)) (length xs)))

-- the same number at each place, the same sum
pub sum_ext : (f g : ℕ → ℕ) (n : ℕ) → ((k : ℕ) → k < n → f k ≡ g k) → sum_below f n ≡ sum_below g n
sum_ext f g zero h = refl
sum_ext f g (suc n) h = rw (sum_ext f g n (λ k l. h k (omega arith)), h n (omega arith))

-- the sum below m is that below n if every place behind n counts 0
pub sum_rest : (f : ℕ → ℕ) (n m : ℕ) → n ≤ m → ((k : ℕ) → n ≤ k → k < m → f k ≡ 0) → sum_below f m ≡ sum_below f n
sum_rest f n zero l h = let e : 0 ≡ n = omega arith in ap (sum_below f) e
sum_rest f n (suc m) l h =
    ⊎_elim (λ e. ap (sum_below f) (sym e))
    (λ u. rw (sum_rest f n m (le_of_suc-le-suc u) (λ k a b. h k a (omega arith)), h m (le_of_suc-le-suc u) (omega arith)) (add-zero (sum_below f n)))
    (eq-or-lt_of_le l)
