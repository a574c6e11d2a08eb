-- k counts what its name says: the ticks answered 0 since the last keep-awake, none before the first. Assumes nothing.
use Prim.Native.Nat.{ℕ, ◌+◌}
use mathlib.Core.Path.{◌≡◌, refl, sym, ap}
use mathlib.Core.Bool.{Bool, true, false, cond, ◌&&◌}
use mathlib.Core.List.{List, [], ◌∷◌, ◌++◌}
use native.Mathlib.Omega.{arith}
use Rattle.config.specs.declared.Config.{Config}
use Rattle.config.specs.Times.{Ticks}
use Rattle.decision.specs.Decision.{Call}
use Rattle.refusals.specs.Refusals.{refusal, is_done}
use Rattle.channel.specs.Channel.{is_tick}
use Rattle.sleep.specs.Summary.{Since, none, ago, Summary, blank, shown, raised, keeps_awake, turned, summarised, history}
use Rattle.sleep.specs.Quiet.{counts_one, kept, ticks_in, Unkept}
use Rattle.sleep.proofs.Simulation.{clash}
use Rattle.sleep.proofs.Quieting.{history_then}

abbrev plus : Since → ℕ → Since
plus none n = none
plus (ago k) n = ago (k + n)

plus_plus : (k : Since) (a b : ℕ) → plus (plus k a) b ≡ plus k (a + b)
plus_plus none a b = refl
plus_plus (ago k) a b = ap ago (omega arith)

plus_zero : (k : Since) → plus k 0 ≡ k
plus_zero none = refl
plus_zero (ago k) = ap ago (omega arith)

plus_one : (k : Since) → plus k 1 ≡ raised k
plus_one none = refl
plus_one (ago k) = ap ago (omega arith)

step_since : (c : Config) (t : Ticks) (b : Summary) (x : Call) → kept c t b x ≡ false
    → (summarised c t b x).since ≡ plus b.since (counts_one c t b x)
unfolding summarised turned
step_since c t b x = go (is_done (refusal c (shown t b) x))
  where
    inner : (k : Since) (kp tk : Bool) → kp ≡ false → cond kp (ago 0) (cond tk (raised k) k) ≡ plus k (cond tk 1 0)
    inner k true tk e = clash e
    inner k false true e = sym (plus_one k)
    inner k false false e = sym (plus_zero k)

    go : (a : Bool) → (a && keeps_awake c t (shown t b) b x) ≡ false
        → (cond a (turned c t (shown t b) b x) b).since ≡ plus b.since (cond (a && is_tick x) 1 0)
    go true e = inner b.since (keeps_awake c t (shown t b) b x) (is_tick x) e
    go false e = sym (plus_zero b.since)

-- after a list without a keep-awake k has grown by its ticks
grows : (c : Config) (t : Ticks) (xs : List Call) (b : Summary) → Unkept c t b xs → (history c t b xs).since ≡ plus b.since (ticks_in c t b xs)
grows c t [] b u = sym (plus_zero b.since)
grows c t (x ∷ xs) b u = rw (grows c t xs (summarised c t b x) u.1, step_since c t b x u.0, plus_plus)

-- a keep-awake makes it 0
zeroed : (c : Config) (t : Ticks) (b : Summary) (x : Call) → kept c t b x ≡ true → (summarised c t b x).since ≡ ago 0
unfolding summarised turned
zeroed c t b x = go (is_done (refusal c (shown t b) x))
  where
    inner : (z : Since) (kp : Bool) → kp ≡ true → cond kp (ago 0) z ≡ ago 0
    inner z true e = refl
    inner z false e = clash (sym e)

    go : (a : Bool) → (a && keeps_awake c t (shown t b) b x) ≡ true → (cond a (turned c t (shown t b) b x) b).since ≡ ago 0
    go true e = inner _ (keeps_awake c t (shown t b) b x) e
    go false e = clash (sym e)

pub since_last : (c : Config) (t : Ticks) (ys : List Call) (x : Call) (zs : List Call) → kept c t (history c t blank ys) x ≡ true
    → Unkept c t (summarised c t (history c t blank ys) x) zs
    → (history c t blank (ys ++ (x ∷ zs))).since ≡ ago (ticks_in c t (summarised c t (history c t blank ys) x) zs)
since_last c t ys x zs e u =
    rw (history_then c t ys (x ∷ zs) blank, grows c t zs (summarised c t (history c t blank ys) x) u, zeroed c t (history c t blank ys) x e)
    (ap ago (omega arith))

pub since_never : (c : Config) (t : Ticks) (xs : List Call) → Unkept c t blank xs → (history c t blank xs).since ≡ none
since_never c t xs u = grows c t xs blank u
