-- The first 81 bytes of the PN line say what the line says. Assumes nothing.
use mathlib.Core.Path.{◌≡◌}
use mathlib.Core.List.{List}
use Prim.Native.Nat.{ℕ}
use lib.ListN.{length}
use borrow.Author.Tests.{lt-leb}
use Rattle.blocks.specs.Blocks.{cut, line_most}
use Rattle.config.specs.declared.Config.{Config}
use Rattle.settings.specs.Settings.{is_line}
use Rattle.settings.proofs.Cut.{Alike, alike_cut, name_cut}
use Rattle.pn_line.specs.PnLine.{is_partial, read_partial}

pub is_partial_cut : (l : List ℕ) → is_partial (cut l) ≡ is_partial l
unfolding is_partial
is_partial_cut l = rw (name_cut l)

pub read_partial_cut : (c : Config) (l : List ℕ) → Alike (read_partial c (cut l)) (read_partial c l)
unfolding read_partial is_line
read_partial_cut c l = alike_cut (read_partial c) (λ m h. rw (lt-leb (length m) line_most h)) l
