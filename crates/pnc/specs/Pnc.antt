-- A PNC's number and its place in the vector. Assumes nothing.
use Rattle.std.specs.Prelude.{ℕ, ◌+◌, ◌-◌, ◌*◌, ◌/◌, ◌%◌, ◌≡◌, cond, ◌&&◌, leb, ltb, Option, Some, None}
use Rattle.config.specs.declared.Config.{Config}
use Rattle.pnc.specs.declared.PncNumber.{PncNumber}
use Rattle.pnc.specs.declared.VectorBit.{VectorBit}
use Rattle.pnc.specs.declared.PnRange.{PnRange}

-- eight for each byte of the PDU up to the one that holds the bit, and the bit's place in it
abbrev pub pnc_of : ℕ → ℕ → ℕ
pnc_of start bit = 8 * (start + bit / 8) + bit % 8

unfoldable pub number_in : PnRange → VectorBit → Option PncNumber
number_in r b = cond (ltb b.0 (8 * r.length)) (Some (record { 0 = pnc_of r.start b.0 })) None

unfoldable pub bit_in : PnRange → PncNumber → Option VectorBit
bit_in r p =
    cond (leb (8 * r.start) p.0 && ltb p.0 (8 * (r.start + r.length)))
    (Some (record { 0 = p.0 - 8 * r.start }))
    None

-- the PN range of a configuration
abbrev narrowed : ℕ → ℕ
narrowed x = cond (ltb x 65536) x 0

unfoldable pub range_of : Config → PnRange
range_of c = record { start = narrowed c.pn.start; length = narrowed c.pn.length }

-- the number alone, 0 for none
abbrev pub number_or_zero : Option PncNumber → ℕ
number_or_zero (Some p) = p.0
number_or_zero None = 0

-- the claim that the two conversions undo each other, in every range
pub record Inverse (r : PnRange) : Type 0 where
  pub number_back : (b : VectorBit) (p : PncNumber) → number_in r b ≡ Some p → bit_in r p ≡ Some b
  pub bit_back : (p : PncNumber) (b : VectorBit) → bit_in r p ≡ Some b → number_in r b ≡ Some p
