-- What holds of both holds of either. Assumes nothing.
use mathlib.Core.Bool.{Bool, true, false, cond}

pub either : {A : Type 0} (Holds : A → Type 0) (t : Bool) {a b : A} → Holds a → Holds b → Holds (cond t a b)
either Holds true h i = h
either Holds false h i = i
