-- `settings::name_of` meets its contract. Assumes nothing.
use mathlib.Core.Path.{◌∙◌}
use native.Mathlib.Nat.{zero-add}
use Rattle.settings.specs.Settings.{name_of}
use Rattle.settings.proofs.name_of.Goals as goal

pub returns : goal.returns
unfolding name_of
returns c =
    rw (c.call.ensures, c.part.ensures, c.field_end.ensures ∙ zero-add _)
