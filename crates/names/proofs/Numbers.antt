-- Laws of the numbers of names. Assumes nothing.
use mathlib.Core.Path.{◌≡◌, refl, ap, ◌∙◌}
use Prim.Native.Nat.{ℕ}
use lib.Dec.{eqb}
use denote.Enum.Declared.{tag_of}
use Rattle.std.specs.Prelude.{Option, Some, None}
use Rattle.std.specs.Option.{option_eq}
use Rattle.names.specs.declared.Name.{Name}
use Rattle.names.specs.declared.Name.TheVariants.{Req, Rel, Pas, Rmr, Dis, Ena, Ok, Bad, Pna, Rx, Ud, Pnr, T, Cfg, Pn}
use Rattle.names.specs.contracts.Name.{the_type}
use Rattle.names.specs.contracts.NamePartialEq.TheImpl.{eq-value}
use Rattle.names.specs.Names.{is_name, is_same, name_at, number_of}

-- a name's number is its place in the enum
placed : (n : Name) → tag_of the_type n ≡ number_of n
placed Req = refl
placed Rel = refl
placed Pas = refl
placed Rmr = refl
placed Dis = refl
placed Ena = refl
placed Ok = refl
placed Bad = refl
placed Pna = refl
placed Rx = refl
placed Ud = refl
placed Pnr = refl
placed T = refl
placed Cfg = refl
placed Pn = refl

-- and the table of names has each at its number
pub numbered : (n : Name) → name_at (number_of n) ≡ Some n
unfolding name_at
numbered Req = refl
numbered Rel = refl
numbered Pas = refl
numbered Rmr = refl
numbered Dis = refl
numbered Ena = refl
numbered Ok = refl
numbered Bad = refl
numbered Pna = refl
numbered Rx = refl
numbered Ud = refl
numbered Pnr = refl
numbered T = refl
numbered Cfg = refl
numbered Pn = refl

-- `==` on names tells them by their numbers
pub same_name : (o : Option Name) (m : Name) → option_eq eq-value.it o (Some m) ≡ is_name o m
same_name None m = refl
same_name (Some n) m =
    ap (λ (k : ℕ). eqb k (tag_of the_type m)) (placed n) ∙ ap (λ (k : ℕ). eqb (number_of n) k) (placed m)

pub same_names : (o p : Option Name) → option_eq eq-value.it o p ≡ is_same o p
same_names None None = refl
same_names (Some n) None = refl
same_names o (Some m) = same_name o m
