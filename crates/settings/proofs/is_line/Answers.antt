-- `settings::is_line` meets its contract. Assumes nothing.
use mathlib.Core.Path.{◌∙◌}
use Rattle.settings.specs.Settings.{is_line}
use Rattle.names.proofs.Numbers.{same_names}
use Rattle.settings.proofs.is_line.Goals as goal

pub returns : goal.returns
unfolding is_line
returns c = rw (c.eq.ensures ∙ same_names c.name_of.result c.args.name, c.name_of.ensures)
