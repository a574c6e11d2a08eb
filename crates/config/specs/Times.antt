-- The times of a channel, by their unit and as a list. Assumes nothing.
use Rattle.std.specs.Prelude.{ℕ, List, [], ◌∷◌}
use Rattle.config.specs.declared.Times.{Times}

-- both are numbers here; the code has 64 and 16 bits for them
abbrev pub Milliseconds : Type 0
Milliseconds = Times ℕ

abbrev pub Ticks : Type 0
Ticks = Times ℕ

-- the times in the order of their rows in the table of bounds
abbrev pub each : {T : Type 0} → Times T → List T
each t = t.timeout ∷ t.wait ∷ t.repeat ∷ t.cycle ∷ t.offset ∷ t.fast ∷ t.remote ∷ t.reset ∷ []

-- each time of u comes from the one of t
abbrev pub MapsTo : {T U : Type 0} → (T → U → Type 0) → Times T → Times U → Type 0
MapsTo from t u =
    from t.timeout u.timeout
    × from t.wait u.wait
    × from t.repeat u.repeat
    × from t.cycle u.cycle
    × from t.offset u.offset
    × from t.fast u.fast
    × from t.remote u.remote
    × from t.reset u.reset
