-- `config_line::fields_config` meets its contract. Assumes nothing.
use mathlib.Core.Path.{ap}
use Rattle.text.specs.Filled.{Filled}
use Rattle.config_line.specs.ConfigLine.{read_config}
use Rattle.config_line.proofs.fields_config.Goals as goal

pub returns : goal.returns
unfolding read_config
returns c = rw (c.config_of.ensures, ap (λ (f : Filled). f.list) c.tokens.ensures)
