-- Laws of hex pairs. Assumes nothing.
use Rattle.std.proofs.Common.{◌≡◌, ℕ, suc, ◌+◌, ◌*◌, ◌<◌, ◌≤◌, Bool, true, false, cond, ltb, List, [], ◌∷◌, length, get_or, drop, refl, arith, length-drop, le-ltb, lt-ltb}
use Rattle.std.proofs.Common.{take, ◌-◌}
use Rattle.std.proofs.lemmas.List.{take_all}
use mathlib.Core.Logic.{◌⊎◌, inl, inr}
use Rattle.hex_bytes.specs.Hex.{hex_value, hex_pairs}

-- ---- the pairs of a text

pub pairs_end : (s : List ℕ) → length s ≤ 1 → hex_pairs s ≡ []
unfolding hex_pairs
pairs_end [] k = refl
pairs_end (x ∷ []) k = refl
pairs_end (x ∷ y ∷ s) k = absurd (omega arith)

-- the first pair, by the values of its digits: none, or a byte and the pairs behind it
pub pairs_none : (s : List ℕ) {h l : ℕ} → 2 ≤ length s → h ≡ hex_value (get_or s 0 0) → l ≡ hex_value (get_or s 1 0) → (15 < h) ⊎ (h ≤ 15 × 15 < l) → hex_pairs s ≡ []
unfolding hex_pairs
pairs_none [] room high low e = absurd (omega arith)
pairs_none (x ∷ []) room high low e = absurd (omega arith)
pairs_none (x ∷ y ∷ s) {h} {l} room high low (inl e) = rw (← high, lt-ltb 15 h e)
pairs_none (x ∷ y ∷ s) {h} {l} room high low (inr e) = rw (← high, ← low, le-ltb 15 h e.0, lt-ltb 15 l e.1)

pub pairs_more : (s : List ℕ) {h l : ℕ} → 2 ≤ length s → h ≡ hex_value (get_or s 0 0) → l ≡ hex_value (get_or s 1 0) → h ≤ 15 → l ≤ 15 → hex_pairs s ≡ (h * 16 + l) ∷ hex_pairs (drop 2 s)
unfolding hex_pairs
pairs_more [] room high low e f = absurd (omega arith)
pairs_more (x ∷ []) room high low e f = absurd (omega arith)
pairs_more (x ∷ y ∷ s) {h} {l} room high low e f = rw (← high, ← low, le-ltb 15 h e, le-ltb 15 l f)

-- what stands behind the first pair
pub behind : (s : List ℕ) → take (length s - 2) (drop 2 s) ≡ drop 2 s
behind s = take_all (length s - 2) (drop 2 s) (rw length-drop (omega arith))

-- pairs have half as many bytes as digits
pub pairs_short : (s : List ℕ) → 2 * length (hex_pairs s) ≤ length s
unfolding hex_pairs
pairs_short [] = omega arith
pairs_short (h ∷ []) = omega arith
pairs_short (h ∷ l ∷ s) = by_test (ltb 15 (hex_value h)) (ltb 15 (hex_value l)) (pairs_short s)
  where
    by_test : (t u : Bool) → 2 * length (hex_pairs s) ≤ length s → 2 * length (cond t [] (cond u [] ((hex_value h * 16 + hex_value l) ∷ hex_pairs s))) ≤ suc (suc (length s))
    by_test true u k = omega arith
    by_test false true k = omega arith
    by_test false false k = omega arith
