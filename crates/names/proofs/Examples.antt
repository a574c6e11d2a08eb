-- Examples of the definitions. Assumes nothing.
use mathlib.Core.Path.{◌≡◌, refl}
use mathlib.Core.List.{[], ◌∷◌}
use Rattle.names.specs.Names.{call_of, names, packed, place}

-- "T", and "TT", which is no name
tick : call_of (84 ∷ []) ≡ 12
unfolding call_of names packed place
tick = refl

no_name : call_of (84 ∷ 84 ∷ []) ≡ 15
unfolding call_of names packed place
no_name = refl
