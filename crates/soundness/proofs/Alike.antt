-- Soundness by what the configuration comes to is soundness. Assumes nothing.
use mathlib.Core.Path.{◌≡◌}
use mathlib.Core.List.{List}
use Prim.Native.Nat.{ℕ, ◌≤◌}
use native.Mathlib.Omega.{arith}
use lib.ListN.{length, replicate, take}
use Rattle.pn_limits.specs.Limits.{limits_of}
use Rattle.pn_limits.proofs.Limits.{under_limits}
use Rattle.config.specs.Ranges.{pnc_most}
use Rattle.config.specs.declared.Config.{Config}
use Rattle.config.specs.Times.{Ticks}
use Rattle.states.specs.declared.Mode.{Mode}
use Rattle.states.specs.declared.Traffic.{Traffic}
use Rattle.traffic.specs.Traffic.{setup_of}
use Rattle.kept_ticks.specs.KeptTicks.{configured}
use Rattle.soundness.specs.Sound.{scalars_sound, sound_of}
use Rattle.soundness.specs.Kept.{prepared_of, sound_by}

pub sound_alike : (c : Config) (t : Ticks) (m : Mode) (x : Traffic) (xs era eira : List ℕ) → length era ≤ length xs → length eira ≤ length xs
    → sound_by (record { passes = configured c t; setup = setup_of c t; limits = limits_of (take c.pn.length c.pn.mask) t.reset xs }) m x era eira
    ≡ sound_of c t m x era eira
unfolding sound_by scalars_sound setup_of
sound_alike c t m x xs era eira h l =
    rw (under_limits (take c.pn.length c.pn.mask) t.reset xs era h, under_limits (take c.pn.length c.pn.mask) t.reset xs eira l)

-- the same of tables that are as long as a channel's
pub prepared_alike : (c : Config) (t : Ticks) (m : Mode) (x : Traffic) (era eira : List ℕ) → (length era ≡ pnc_most) × (length eira ≡ pnc_most)
    → sound_by (prepared_of c t) m x era eira ≡ sound_of c t m x era eira
unfolding prepared_of
prepared_alike c t m x era eira h =
    sound_alike c t m x (replicate pnc_most 0) era eira (omega (arith, h.0)) (omega (arith, h.1))
