-- Laws of numbers in decimal. Assumes nothing.
use mathlib.Core.Path.{◌≡◌, refl, ap}
use mathlib.Core.Bool.{Bool, true, false}
use mathlib.Core.List.{List, [], ◌∷◌, ◌++◌, append-nil, append_assoc}
use Prim.Native.Nat.{ℕ, zero, suc, ◌+◌, ◌*◌, ◌/◌, ◌%◌, ◌^◌, ◌≤◌, ◌<◌}
use native.Mathlib.Nat.{pow-suc, pow-le-pow_right, div-lt_iff_lt-mul, div-le_self, le-div_iff_mul-le, mod-eq_of_lt}
use native.Mathlib.Numerals.{add-one}
use native.Mathlib.Omega.{arith}
use lib.Dec.{ltb}
use lib.ListN.{length, drop, set, length-append, drop_of_length-le}
use borrow.Author.Tests.{lt-ltb, le-ltb, ltb-true}
use Rattle.print.specs.Print.{decimal, digits_most, number_text}
use Rattle.std.proofs.lemmas.List.{drop-set}

-- a number has no more digits than are asked for
length_decimal : (k n : ℕ) → length (decimal k n) ≤ k
unfolding decimal
length_decimal zero n = omega arith
length_decimal (suc k) n = by_test (ltb n 10) refl (length_decimal k (n / 10))
  where
    by_test : (t : Bool) → ltb n 10 ≡ t → length (decimal k (n / 10)) ≤ k → length (decimal (suc k) n) ≤ suc k
    by_test true e h = rw e (omega arith)
    by_test false e h = rw e (omega (arith, length-append (decimal k (n / 10)) ((48 + n % 10) ∷ [])))

pub length_number : (n : ℕ) → length (number_text n) ≤ digits_most
length_number n = length_decimal digits_most n

-- a tenth has a digit less
tenth : (k n : ℕ) → n < 10 ^ suc k → n / 10 < 10 ^ k
tenth k n h = (div-lt_iff_lt-mul {k = 10} {y = 10 ^ k} (omega arith)).1 (omega (arith, h, pow-suc 10 k))

-- digits that are not needed are not printed
decimal_same : (k n : ℕ) → n < 10 ^ suc k → decimal (suc k) n ≡ decimal (suc (suc k)) n
unfolding decimal
decimal_same zero n h = rw (lt-ltb n 10 (omega arith))
decimal_same (suc k) n h = rw (decimal_same k (n / 10) (tenth (suc k) n h))

-- a number of one digit
pub number_short : (n : ℕ) → n ≤ 9 → number_text n ≡ (48 + n) ∷ []
unfolding decimal
number_short n h = rw (lt-ltb n 10 (omega arith))

-- a number of more: those of its tenth, and the last
pub number_long : (n : ℕ) → n < 10 ^ digits_most → 9 < n → number_text n ≡ number_text (n / 10) ++ ((48 + n % 10) ∷ [])
unfolding decimal
number_long n h e = rw (le-ltb n 10 e) (ap (λ (l : List ℕ). l ++ ((48 + n % 10) ∷ [])) (decimal_same 18 (n / 10) (tenth 19 n h)))

-- ---- how many digits a number has

pub length_long : (n : ℕ) → n < 10 ^ digits_most → 9 < n → length (number_text n) ≡ 1 + length (number_text (n / 10))
length_long n h e = rw (number_long n h e, length-append) (omega arith)

-- a number between two powers of ten has a digit more than the lower one has zeros
pub width_of : (k n : ℕ) → n < 10 ^ digits_most → 10 ^ k ≤ n → n < 10 * 10 ^ k → length (number_text n) ≡ k + 1
width_of zero n b p h = ap length (number_short n (omega arith))
width_of (suc k) n b p h =
    let e : 10 ^ suc k ≡ 10 ^ k * 10 = pow-suc 10 k in
    let s : 1 ≤ 10 ^ k = pow-le-pow_right {n = 10} (omega arith) {i = 0} {j = k} (omega arith) in
    let l : 10 ^ k ≤ n / 10 = (le-div_iff_mul-le {k = 10} {x = 10 ^ k} (omega arith)).1 (omega arith) in
    let m : n / 10 < 10 * 10 ^ k = (div-lt_iff_lt-mul {k = 10} {y = 10 * 10 ^ k} (omega arith)).1 (omega arith) in
    omega (arith, length_long n b (omega arith), width_of k (n / 10) (omega (arith, div-le_self n 10)) l m)

-- ---- a number written from its last digit on

-- the last k digits, leading zeros counted
pub last_digits : ℕ → ℕ → List ℕ
last_digits zero n = []
last_digits (suc k) n = last_digits k (n / 10) ++ ((48 + n % 10) ∷ [])

decimal_digits : (k n : ℕ) → decimal k n ≡ last_digits (length (decimal k n)) n
unfolding decimal last_digits
decimal_digits zero n = refl
decimal_digits (suc k) n = by_test (ltb n 10) refl (decimal_digits k (n / 10))
  where
    by_test : (t : Bool) → ltb n 10 ≡ t → decimal k (n / 10) ≡ last_digits (length (decimal k (n / 10))) (n / 10)
        → decimal (suc k) n ≡ last_digits (length (decimal (suc k) n)) n
    by_test true e h = let m : n % 10 ≡ n = mod-eq_of_lt (ltb-true n 10 e) in rw (e, m) refl
    by_test false e h = rw (e, length-append, add-one) (ap (λ (l : List ℕ). l ++ ((48 + n % 10) ∷ [])) h)

pub digits_start : (n : ℕ) (l : List ℕ) → length l ≡ length (number_text n) → number_text n ≡ last_digits (length l) n ++ drop (length l) l
digits_start n l e = rw (drop_of_length-le l {i = length l} (omega arith), append-nil, e) (decimal_digits digits_most n)

-- one digit is written before those that stand
pub digits_more : (i j n : ℕ) (l : List ℕ) {d : ℕ} → i + 1 ≡ j → j ≤ length l → d ≡ 48 + n % 10
    → last_digits j n ++ drop j l ≡ last_digits i (n / 10) ++ drop i (set l i d)
unfolding last_digits
digits_more i j n l b h e = rw (← b, e, drop-set l i _ (omega arith), add-one i) (append_assoc (last_digits i (n / 10)) _ _)
