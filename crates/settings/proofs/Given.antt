-- What is given of a line, and what it says of the line. Assumes nothing.
use mathlib.Core.Path.{◌≡◌, refl, sym}
use mathlib.Core.Bool.{Bool, true, false, cond}
use Rattle.std.specs.Prelude.{Some, None}
use Rattle.std.proofs.lemmas.Option.{none-some}
use Rattle.config.specs.declared.Config.{Config}
use Rattle.settings.specs.Settings.{Setting, given}

module _ (s : Setting) where
  pub given_some : {c : Config} → s.readable ≡ true → c ≡ s.config → Some c ≡ given s
  given_some r e = rw (r, e) refl

  pub given_none : s.readable ≡ false → None ≡ given s
  given_none r = rw r refl

  pub some_given : {c : Config} → Some c ≡ given s → (s.readable ≡ true) × (c ≡ s.config)
  some_given {c} e = by_flag s.readable e
    where
      by_flag : (t : Bool) → Some c ≡ cond t (Some s.config) None → (t ≡ true) × (c ≡ s.config)
      by_flag true h = (refl, cc)
      by_flag false h = absurd (none-some _ (sym h))

  pub none_given : None ≡ given s → s.readable ≡ false
  none_given e = by_flag s.readable e
    where
      by_flag : (t : Bool) → None ≡ cond t (Some s.config) None → t ≡ false
      by_flag true h = absurd (none-some _ h)
      by_flag false h = refl
