-- `commands::read_hex` meets its contract: pairs have half as many bytes as digits. Assumes nothing.
use mathlib.Core.Path.{ap}
use native.Mathlib.Omega.{arith}
use Rattle.text.specs.Filled.{Filled}
use Rattle.hex_bytes.proofs.Hex.{pairs_short}
use Rattle.commands.proofs.read_hex.Goals as goal

pub overflow_mul-n : goal.overflow_mul-n
overflow_mul-n c =
    let h = c.hex_pairs-n.ensures in
    let a = c.args in
    record { fits = omega (arith, ap (λ (f : Filled). f.count) h, pairs_short a.a.now) }
