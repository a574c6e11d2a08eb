-- `pn_line::is_partial` meets its contract. Assumes nothing.
use mathlib.Core.Path.{◌∙◌}
use Rattle.names.specs.declared.Name.TheVariants.{Pn}
use Rattle.names.proofs.Numbers.{same_name}
use Rattle.pn_line.specs.PnLine.{is_partial}
use Rattle.pn_line.proofs.is_partial.Goals as goal

pub returns : goal.returns
unfolding is_partial
returns c = rw (c.eq.ensures ∙ same_name c.name_of.result Pn, c.name_of.ensures)
