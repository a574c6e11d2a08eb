-- What the loop of `hex_bytes::hex_pairs` keeps, and what falls in each turn. Assumes nothing.
use Rattle.std.proofs.Common.{◌≡◌, ◌+◌, ◌*◌, ◌≤◌, length}
use Rattle.hex_bytes.specs.Hex.{hex_pairs}
use Rattle.text.proofs.Filling.{Filling}
use Rattle.hex_bytes.proofs.hex_pairs.Given as goal

abbrev pub invariant-loop-rest : goal.invariant-loop-rest
invariant-loop-rest l = Filling l.initial.out (hex_pairs l.s) l.out l.n (hex_pairs l.rest) × (2 * l.n + length l.rest ≤ length l.s) × (length l.out ≡ length l.initial.out)

abbrev pub decreases-loop-rest : goal.decreases-loop-rest
decreases-loop-rest l = length l.rest
