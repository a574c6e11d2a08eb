-- The first 81 bytes of a line say what the line says: of a line that is too long a reader need not keep more. Assumes nothing.
use mathlib.Core.Path.{◌≡◌, refl, sym, ◌∙◌}
use mathlib.Core.Bool.{Bool, true, false, cond, false≢true}
use mathlib.Core.List.{List, [], ◌∷◌}
use Prim.Native.Nat.{ℕ, zero, suc, ◌<◌}
use native.Mathlib.Omega.{arith}
use lib.Dec.{eqb, leb}
use lib.ListN.{length, take}
use lib.Seq.{length-take-le, take_all}
use borrow.Author.Tests.{leb-true, leb-false}
use Rattle.blocks.specs.Blocks.{cut, line_most}
use Rattle.text.specs.Lines.{until}
use Rattle.fields.specs.Fields.{tab}
use Rattle.names.specs.Names.{call_of, packed}
use Rattle.settings.specs.Settings.{Setting, name_of}

-- ---- the name

-- the first field of a line's first k bytes, k above the three that a name may have, is the line's, or neither is a name
packed_cut : (k : ℕ) (l : List ℕ)
    → packed (take (until tab (take (suc (suc (suc (suc k)))) l)) (take (suc (suc (suc (suc k)))) l)) ≡ packed (take (until tab l) l)
unfolding packed until
packed_cut k [] = refl
packed_cut k (a ∷ []) = refl
packed_cut k (a ∷ b ∷ []) = refl
packed_cut k (a ∷ b ∷ c ∷ []) = refl
packed_cut k (a ∷ b ∷ c ∷ d ∷ l) = by_bytes (eqb a tab) (eqb b tab) (eqb c tab) (eqb d tab) (until tab (take k l)) (until tab l)
  where
    by_bytes : (p q r s : Bool) (m n : ℕ)
        → packed (take (cond p zero (suc (cond q zero (suc (cond r zero (suc (cond s zero (suc m)))))))) (a ∷ b ∷ c ∷ d ∷ take k l))
        ≡ packed (take (cond p zero (suc (cond q zero (suc (cond r zero (suc (cond s zero (suc n)))))))) (a ∷ b ∷ c ∷ d ∷ l))
    by_bytes true q r s m n = refl
    by_bytes false true r s m n = refl
    by_bytes false false true s m n = refl
    by_bytes false false false true m n = refl
    by_bytes false false false false m n = refl

pub name_cut : (l : List ℕ) → name_of (cut l) ≡ name_of l
unfolding name_of call_of
name_cut l = rw (packed_cut 77 l)

-- ---- the settings

-- two settings that a caller cannot tell apart, since it takes the configuration only of a line that can be read
abbrev pub Alike : Setting → Setting → Type 0
Alike s t = (s.readable ≡ t.readable) × (t.readable ≡ true → s.config ≡ t.config)

pub alike_cut : (f : List ℕ → Setting) → ((l : List ℕ) → line_most < length l → (f l).readable ≡ false) → (l : List ℕ) → Alike (f (cut l)) (f l)
alike_cut f none l = by_length (leb (length l) line_most) refl
  where
    by_length : (t : Bool) → leb (length l) line_most ≡ t → Alike (f (cut l)) (f l)
    by_length true e =
        let h = leb-true (length l) line_most e in
        rw (take_all (suc line_most) l (omega arith)) (refl, λ r. refl)
    by_length false e =
        let h = leb-false (length l) line_most e in
        let long : line_most < length (cut l) = rw (length-take-le (suc line_most) l (omega arith)) (omega arith) in
        (none (cut l) long ∙ sym (none l h), λ r. absurd (false≢true (sym (none l h) ∙ r)))
