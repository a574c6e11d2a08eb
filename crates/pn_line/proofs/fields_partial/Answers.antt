-- `pn_line::fields_partial` meets its contract. Assumes nothing.
use mathlib.Core.Path.{ap}
use Rattle.text.specs.Filled.{Filled}
use Rattle.pn_line.specs.PnLine.{read_partial}
use Rattle.pn_line.proofs.fields_partial.Goals as goal

pub returns : goal.returns
unfolding read_partial
returns c =
    let h = c.hex_pairs-pairs.ensures in
    rw (
      c.with_partial.ensures,
      ap (λ (f : Filled). f.list) h,
      ap (λ (f : Filled). f.count) h,
      ap (λ (f : Filled). f.list) c.tokens.ensures,
      c.mask_text.ensures,
    )
