-- What the loop of `fields::tokens` keeps. Assumes nothing.
use mathlib.Core.Path.{◌≡◌}
use mathlib.Core.List.{map}
use lib.ListN.{length, drop}
use Rattle.fields.specs.Fields.{fields_of}
use Rattle.fields.specs.Numbers.{token_of, tokens_of}
use Rattle.text.proofs.Filling.{Filling}
use Rattle.fields.proofs.tokens.Given as goal

abbrev pub invariant-loop-field : goal.invariant-loop-field
invariant-loop-field l = Filling l.initial.out (tokens_of l.line) l.out l.k (map token_of (drop l.k (fields_of l.line))) × (l.k ≡ length l.yielded) × (length l.out ≡ length l.initial.out)
