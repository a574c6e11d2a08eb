-- What the loop of `status::vector_of` keeps: the first `i` bytes are those of the vector. Assumes nothing.
use Prim.Native.Nat.{◌*◌}
use Rattle.vectors.specs.Vectors.{vector_byte}
use Rattle.bits.proofs.Lists.{Upto}
use Rattle.status.proofs.vector_of.Given as goal

abbrev pub invariant-loop-i : goal.invariant-loop-i
invariant-loop-i l = Upto (λ k b. vector_byte l.t (8 * k)) l.initial.byte-items l.byte-items l.i
