-- Runs over lines that carry a state along. Assumes nothing.
use Rattle.std.specs.Prelude.{ℕ, List, [], ◌∷◌, ◌++◌}

module _ {ℓ} {S : Type ℓ} (step : S → List ℕ → S) where
  -- the state after some lines
  unfoldable pub after : S → List (List ℕ) → S
  after s [] = s
  after s (l ∷ ls) = after (step s l) ls

  module _ (out : S → List ℕ → List ℕ) where
    -- what lines put out
    unfoldable pub outs : S → List (List ℕ) → List ℕ
    outs s [] = []
    outs s (l ∷ ls) = out s l ++ outs (step s l) ls
