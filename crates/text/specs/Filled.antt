-- What a function leaves in a lent buffer, with the number that it answers. Assumes nothing.
use Rattle.std.specs.Prelude.{ℕ, List, length}
use Rattle.std.proofs.lemmas.List.Edits.{sets}

-- a number, and the buffer after the call
pub record Filled : Type 0 where
  pub count : ℕ
  pub list : List ℕ

abbrev pub filled : ℕ → List ℕ → Filled
filled n l = record { count = n; list = l }

-- the values in front of the buffer, as many as it has room for, and how many there are
abbrev pub fill : List ℕ → List ℕ → Filled
fill l vs = filled (length vs) (sets l 0 vs)
