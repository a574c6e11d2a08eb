-- Laws of numbers by their text. Assumes nothing.
use mathlib.Core.Path.{◌≡◌, refl}
use mathlib.Core.Bool.{Bool, true, false, cond, ◌&&◌}
use mathlib.Core.List.{List, [], ◌∷◌}
use mathlib.Core.Logic.{◌⊎◌, inl, inr}
use Prim.Native.Nat.{ℕ, ◌+◌, ◌-◌, ◌*◌, ◌^◌, ◌≤◌, ◌<◌}
use native.Mathlib.Nat.{pow-suc, pow-le-pow_right}
use native.Mathlib.Numerals.{add-one}
use native.Mathlib.Omega.{arith}
use lib.ListN.{length, drop, get_or, drop_of_length-le, length-map}
use lib.Seq.{drop-cons}
use lib.Dec.{eqb, ltb}
use borrow.Author.Tests.{eq-eqb, ne_eqb, lt-ltb, le-ltb, ltb-false}
use Rattle.std.specs.Prelude.{Option, Some, None}
use Rattle.std.proofs.lemmas.Option.{none-some}
use Rattle.fields.specs.Fields.{fields_of}
use Rattle.fields.specs.Numbers.{dash_number, decimal_of, field_digits_most, number_from, token_of, tokens_of}
use Rattle.fields.proofs.Fields.{fields_short}

-- ---- reading digits

module _ (s : List ℕ) (n i : ℕ) where
  pub number_end : length s ≤ i → number_from n (drop i s) ≡ Some n
  unfolding number_from
  number_end h = rw (drop_of_length-le s h)

  number_low : i < length s → get_or s i 0 < 48 → number_from n (drop i s) ≡ None
  unfolding number_from
  number_low h e = rw (drop-cons s i 0, lt-ltb _ _ e)

  number_high : i < length s → 57 < get_or s i 0 → number_from n (drop i s) ≡ None
  unfolding number_from
  number_high h e = let f : 48 ≤ get_or s i 0 = omega arith in rw (drop-cons s i 0, le-ltb _ _ f, lt-ltb _ _ e)

  pub number_no_digit : i < length s → (get_or s i 0 < 48) ⊎ (57 < get_or s i 0) → number_from n (drop i s) ≡ None
  number_no_digit h (inl e) = number_low h e
  number_no_digit h (inr e) = number_high h e

  pub number_more : i < length s → 48 ≤ get_or s i 0 → get_or s i 0 ≤ 57 → number_from n (drop i s) ≡ number_from (n * 10 + (get_or s i 0 - 48)) (drop (i + 1) s)
  unfolding number_from
  number_more h e f = rw (add-one, drop-cons s i 0, le-ltb _ _ e, le-ltb _ _ f)

-- i digits make a number below 10 ^ i
pub grows : (n i d : ℕ) → n < 10 ^ i → d < 10 → n * 10 + d < 10 ^ (i + 1)
grows n i d h e = rw (add-one, pow-suc) (omega arith)

pub small : (n i : ℕ) → n < 10 ^ i → i ≤ field_digits_most → n < dash_number
small n i h e = let p : 10 ^ i ≤ 10 ^ field_digits_most = pow-le-pow_right (omega arith) e in omega arith

-- ---- what can be read

-- digits make a number below the dash
digits_told : (s : List ℕ) (n i : ℕ) → n < 10 ^ i → i + length s ≤ field_digits_most → {m : ℕ} → number_from n s ≡ Some m → m < dash_number
unfolding number_from
digits_told [] n i h l {m} e = let f : n ≡ m = cc in omega (arith, small n i h (omega arith))
digits_told (d ∷ s) n i h l {m} e =
    by_test (ltb d 48) (ltb 57 d) refl refl (λ p q. digits_told s (n * 10 + (d - 48)) (i + 1) (grows n i (d - 48) h (omega arith)) (omega arith)) e
  where
    by_test : (t u : Bool) → ltb d 48 ≡ t → ltb 57 d ≡ u → (48 ≤ d → d ≤ 57 → number_from (n * 10 + (d - 48)) s ≡ Some m → m < dash_number)
        → cond t None (cond u None (number_from (n * 10 + (d - 48)) s)) ≡ Some m → m < dash_number
    by_test true u p q f r = absurd (none-some _ r)
    by_test false true p q f r = absurd (none-some _ r)
    by_test false false p q f r = f (ltb-false d 48 p) (ltb-false 57 d q) r

-- two digits or more do not begin with a zero
pub decimal_zero : (s : List ℕ) → (length s ≡ 0 → ⊥) → 1 < length s → get_or s 0 0 ≡ 48 → None ≡ decimal_of s
decimal_zero s some h e =
    rw (ne_eqb (length s) 0 some, lt-ltb 1 (length s) h, eq-eqb (get_or s 0 0) 48 e) (either (ltb field_digits_most (length s)))
  where
    either : (t : Bool) → ◌≡◌ {A = Option ℕ} None (cond t None None)
    either true = refl
    either false = refl

-- so no number is a dash or unreadable
pub decimal_told : (s : List ℕ) {m : ℕ} → decimal_of s ≡ Some m → m < dash_number
decimal_told s {m} e = by_test (eqb (length s) 0) (ltb field_digits_most (length s)) (ltb 1 (length s) && eqb (get_or s 0 0) 48) refl e
  where
    by_test : (t u v : Bool) → ltb field_digits_most (length s) ≡ u → cond t None (cond u None (cond v None (number_from 0 s))) ≡ Some m → m < dash_number
    by_test true u v p r = absurd (none-some _ r)
    by_test false true v p r = absurd (none-some _ r)
    by_test false false true p r = absurd (none-some _ r)
    by_test false false false p r = let q = ltb-false field_digits_most (length s) p in digits_told s 0 0 (omega arith) (omega arith) r

-- a line of n bytes reads as at most n + 1 numbers
pub tokens_short : (s : List ℕ) → length (tokens_of s) ≤ 1 + length s
unfolding tokens_of
tokens_short s = rw (length-map (fields_of s) token_of) (fields_short s)
