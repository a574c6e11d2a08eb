-- The first 81 bytes of line 1 say what the line says. Assumes nothing.
use mathlib.Core.List.{List}
use Prim.Native.Nat.{ℕ}
use lib.ListN.{length}
use borrow.Author.Tests.{lt-leb}
use Rattle.blocks.specs.Blocks.{cut, line_most}
use Rattle.settings.specs.Settings.{is_line}
use Rattle.settings.proofs.Cut.{Alike, alike_cut}
use Rattle.config_line.specs.ConfigLine.{read_config}

pub read_config_cut : (l : List ℕ) → Alike (read_config (cut l)) (read_config l)
unfolding read_config is_line
read_config_cut l = alike_cut read_config (λ m h. rw (lt-leb (length m) line_most h)) l
