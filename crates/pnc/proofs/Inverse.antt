-- A PNC's number and its place in the vector undo each other, in every range. Assumes nothing.
use mathlib.Core.Path.{◌≡◌, refl}
use mathlib.Core.Bool.{Bool, true, false, cond, ◌&&◌}
use Prim.Native.Nat.{ℕ, ◌+◌, ◌-◌, ◌*◌, ◌<◌, ◌≤◌}
use native.Mathlib.Omega.{arith}
use lib.Dec.{leb, ltb}
use borrow.Author.Tests.{ltb-true, leb-true, lt-ltb, le-leb}
use Rattle.choice.proofs.Tests.{and_left, and_right}
use Rattle.pnc.specs.declared.PncNumber.{PncNumber}
use Rattle.pnc.specs.declared.VectorBit.{VectorBit}
use Rattle.pnc.specs.declared.PnRange.{PnRange}
use Rattle.std.specs.Prelude.{Some, None}
use Rattle.pnc.specs.Pnc.{pnc_of, number_in, bit_in, Inverse}

-- a bit of the vector has a number of the range, and that number the bit
there : (r : PnRange) (b : VectorBit) → b.0 < 8 * r.length → bit_in r (record { 0 = pnc_of r.start b.0 }) ≡ Some b
unfolding bit_in
there r b h =
    let e : pnc_of r.start b.0 - 8 * r.start ≡ b.0 = omega arith in
    rw (
      le-leb (8 * r.start) (pnc_of r.start b.0) (omega arith),
      lt-ltb (pnc_of r.start b.0) (8 * (r.start + r.length)) (omega arith),
      e,
    )

back : (r : PnRange) (p : PncNumber) → 8 * r.start ≤ p.0 → p.0 < 8 * (r.start + r.length)
    → number_in r (record { 0 = p.0 - 8 * r.start }) ≡ Some p
unfolding number_in
back r p a b =
    let e : pnc_of r.start (p.0 - 8 * r.start) ≡ p.0 = omega arith in
    rw (lt-ltb (p.0 - 8 * r.start) (8 * r.length) (omega arith), e)

pub inverse : (r : PnRange) → Inverse r
unfolding number_in bit_in
inverse r =
    record {
      number_back = λ b p e. go b p (ltb b.0 (8 * r.length)) refl e;
      bit_back = λ p b e. og p b (leb (8 * r.start) p.0 && ltb p.0 (8 * (r.start + r.length))) refl e;
    }
  where
    go : (b : VectorBit) (p : PncNumber) (t : Bool) → ltb b.0 (8 * r.length) ≡ t
        → cond t (Some (record { 0 = pnc_of r.start b.0 })) None ≡ Some p → bit_in r p ≡ Some b
    go b p true h e =
        let q : p ≡ record { 0 = pnc_of r.start b.0 } = cc in rw q (there r b (ltb-true b.0 (8 * r.length) h))
    go b p false h e = absurd (let z : ◌≡◌ {A = ℕ} 0 1 = cc in omega arith)

    og : (p : PncNumber) (b : VectorBit) (t : Bool)
        → (leb (8 * r.start) p.0 && ltb p.0 (8 * (r.start + r.length))) ≡ t
        → cond t (Some (record { 0 = p.0 - 8 * r.start })) None ≡ Some b → number_in r b ≡ Some p
    og p b true h e =
        let q : b ≡ record { 0 = p.0 - 8 * r.start } = cc in
        let low = leb (8 * r.start) p.0 in
        let high = ltb p.0 (8 * (r.start + r.length)) in
        rw q (back r p (leb-true (8 * r.start) p.0 (and_left low high h)) (ltb-true p.0 (8 * (r.start + r.length)) (and_right low high h)))
    og p b false h e = absurd (let z : ◌≡◌ {A = ℕ} 0 1 = cc in omega arith)
