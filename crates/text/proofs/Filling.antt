-- A loop that fills a lent buffer from its front, as far as it has room, for values of any kind. Assumes nothing.
use mathlib.Core.Path.{◌≡◌, refl, ap, ◌∙◌}
use mathlib.Core.List.{List, [], ◌∷◌}
use Prim.Native.Nat.{ℕ, suc, ◌+◌}
use native.Mathlib.Numerals.{add-one}
use native.Mathlib.Omega.{arith}
use lib.ListN.{length, set}
use lib.Seq.{sets}
use Rattle.text.specs.Filled.{filled, fill}

-- of the values vs for the buffer o the values r are left, for the buffer l as it is now, from place n on
pub record Filling (o vs l : List ℕ) (n : ℕ) (r : List ℕ) : Type 0 where
  pub list : sets o 0 vs ≡ sets l n r
  pub count : length vs ≡ n + length r

pub filling_start : (o vs : List ℕ) → Filling o vs o 0 vs
filling_start o vs = record { list = refl; count = omega arith }

-- one value stored
pub filling_one : {o vs l m r : List ℕ} {n v : ℕ} → Filling o vs l n (v ∷ r) → m ≡ set l n v → Filling o vs m (n + 1) r
filling_one {o} {vs} {l} {m} {r} {n} {v} f e = record {
  list = f.list ∙ rw (e, add-one n);
  count = let c : length vs ≡ n + suc (length r) = f.count in omega arith;
}

-- where no value is left, the buffer is filled
pub filling_end : {o vs l r : List ℕ} {n : ℕ} → Filling o vs l n r → r ≡ [] → filled n l ≡ fill o vs
filling_end {o} {vs} {l} {r} {n} f e =
    let c : n ≡ length vs = omega (arith, f.count, ap length e) in
    rw (f.list, e, c)
