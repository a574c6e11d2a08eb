-- `names::pack` meets its contract. Assumes nothing.
use native.Mathlib.Omega.{arith}
use Rattle.names.proofs.Packing.{packed_one, packed_two, packed_three, packed_else}
use Rattle.names.proofs.pack.Goals as goal

pub returns-in-len1 : goal.returns-in-len1
returns-in-len1 c = rw c.from.ensures (packed_one _ (omega arith))

pub returns-in-len2 : goal.returns-in-len2
returns-in-len2 c = rw (c.from-in-len2.ensures, c.from-in-len2-2.ensures) (packed_two _ (omega arith))

pub returns-in-len3 : goal.returns-in-len3
returns-in-len3 c = rw (c.from-in-len3.ensures, c.from-in-len3-2.ensures, c.from-in-len3-3.ensures) (packed_three _ (omega arith))

-- no byte
pub returns-in_default : goal.returns-in_default
returns-in_default c = packed_else _ (λ e. omega arith) (λ e. omega arith) (λ e. omega arith)

-- more than three
pub returns-in_default-2 : goal.returns-in_default-2
returns-in_default-2 c = packed_else _ (λ e. omega arith) (λ e. omega arith) (λ e. omega arith)
