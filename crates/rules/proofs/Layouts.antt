-- The byte ranges of a configuration that passes: the header's five forms, and header, PN range and user data that fill the
-- PDU and don't overlap. Over l, h, f and n alone. Assumes nothing.
use mathlib.Core.Path.{◌≡◌, refl}
use mathlib.Core.Bool.{Bool, true, false, cond, not, ◌&&◌, ◌||◌, false≢true}
use mathlib.Core.Logic.{◌⊎◌, inl, inr, ⊎_elim}
use Prim.Native.Nat.{ℕ, ◌+◌, ◌-◌, ◌≤◌, ◌<◌}
use native.Mathlib.Omega.{arith}
use lib.Dec.{eqb, leb}
use borrow.Author.Tests.{eqb-true, eqb-false, leb-true, leb-false}
use Rattle.choice.proofs.Tests.{and_left, and_right, or_cases}
use Rattle.config.specs.declared.Config.{Config}
use Rattle.config.specs.declared.Layout.{Layout}
use Rattle.config.specs.Ranges.{off, bytes_of, header_length, user_length, user_start, user_length_of, user_start_of}
use Rattle.header_rules.specs.HeaderRules.{rule7, placed, behind}
use Rattle.pn_rules.specs.PnRules.{rule8, pn_range, pn_absent, pn_time}
use Rattle.time_rules.specs.TimeRules.{ticks_for}
use Rattle.rules.proofs.Passes.{Passes}

-- the positions of source node id and control bit vector that rule 7 admits, with the header's length
pub data Header : ℕ → ℕ → ℕ → Type 0 where
  none : Header off off 0
  sni_alone : Header 0 off 1
  cbv_alone : Header off 0 1
  sni_first : Header 0 1 2
  cbv_first : Header 1 0 2

abbrev One : ℕ → Type 0
One position = (position ≡ off) ⊎ ((position ≡ 0) ⊎ (position ≡ 1))

one_of : (position : ℕ) → placed position ≡ true → One position
one_of p e =
    ⊎_elim
    (λ w. ⊎_elim (λ h. inl (eqb-true p off h)) (λ h. inr (inl (eqb-true p 0 h))) (or_cases (eqb p off) (eqb p 0) w))
    (λ h. inr (inr (eqb-true p 1 h)))
    (or_cases (eqb p off || eqb p 0) (eqb p 1) e)

form : (s c : ℕ) → One s → One c → (eqb s off || not (eqb s c)) ≡ true → behind s c ≡ true → behind c s ≡ true
    → Header s c (bytes_of s + bytes_of c)
form s c (inl e) (inl f) a b d = rw (e, f) none
form s c (inl e) (inr (inl f)) a b d = rw (e, f) cbv_alone
form s c (inl e) (inr (inr f)) a b d = absurd (false≢true (rw (e, f) at d))
form s c (inr (inl e)) (inl f) a b d = rw (e, f) sni_alone
form s c (inr (inl e)) (inr (inl f)) a b d = absurd (false≢true (rw (e, f) at a))
form s c (inr (inl e)) (inr (inr f)) a b d = rw (e, f) sni_first
form s c (inr (inr e)) (inl f) a b d = absurd (false≢true (rw (e, f) at b))
form s c (inr (inr e)) (inr (inl f)) a b d = rw (e, f) cbv_first
form s c (inr (inr e)) (inr (inr f)) a b d = absurd (false≢true (rw (e, f) at a))

-- what rule 7 says of the header
pub record Headed (l : Layout) : Type 0 where
  pub positions : Header l.sni l.cbv (header_length l)
  pub fits : header_length l ≤ l.length

six : (a b c d e f : Bool) → (a && b && c && d && e && f) ≡ true
    → ((a ≡ true) × (b ≡ true)) × ((c ≡ true) × (d ≡ true)) × ((e ≡ true) × (f ≡ true))
six true true true true true true h = ((refl, refl), (refl, refl), (refl, refl))
six true true true true true false h = absurd (false≢true h)
six true true true true false f h = absurd (false≢true h)
six true true true false e f h = absurd (false≢true h)
six true true false d e f h = absurd (false≢true h)
six true false c d e f h = absurd (false≢true h)
six false b c d e f h = absurd (false≢true h)

pub headed : (l : Layout) → rule7 l ≡ true → Headed l
unfolding rule7 header_length
headed l e =
    let s = l.sni in
    let c = l.cbv in
    let k =
    six (placed s) (placed c) (eqb s off || not (eqb s c)) (behind s c) (behind c s) (leb (header_length l) l.length) e in
    record {
      positions = form s c (one_of s k.0.0) (one_of c k.0.1) k.1.0 k.1.1 k.2.0;
      fits = leb-true (header_length l) l.length k.2.1;
    }

-- where header and PN range stand: no PN range, one that follows the header, or one that ends the PDU
pub data Placed (l h f n : ℕ) : Type 0 where
  without : h ≤ l → f ≡ 0 → n ≡ 0 → Placed l h f n
  follows : f ≡ h → f + n ≤ l → Placed l h f n
  closes : h ≤ f → f + n ≡ l → Placed l h f n

-- with user data of u bytes from s on, the three fill the PDU and none overlaps another
pub record Filled (l h f n s u : ℕ) : Type 0 where
  pub whole : h + n + u ≡ l
  pub user_behind_header : h ≤ s
  pub pn_behind_header : (n ≡ 0) ⊎ (h ≤ f)
  pub user_ends : s + u ≤ l
  pub pn_ends : f + n ≤ l
  pub apart : (n ≡ 0) ⊎ ((f + n ≤ s) ⊎ (s + u ≤ f))

pub filled : (l h f n : ℕ) → Placed l h f n → Filled l h f n (user_start l h f n) (user_length l h n)
unfolding user_start user_length
filled l h f n p = go (eqb f h) refl p
  where
    go : (t : Bool) → eqb f h ≡ t → Placed l h f n → Filled l h f n (cond t (l - (l - h - n)) h) (l - h - n)
    go true e (without q z w) =
        record {
          whole = omega arith;
          user_behind_header = omega arith;
          pn_behind_header = inl w;
          user_ends = omega arith;
          pn_ends = omega arith;
          apart = inl w;
        }
    go false e (without q z w) =
        record {
          whole = omega arith;
          user_behind_header = omega arith;
          pn_behind_header = inl w;
          user_ends = omega arith;
          pn_ends = omega arith;
          apart = inl w;
        }
    go true e (follows q z) =
        record {
          whole = omega arith;
          user_behind_header = omega arith;
          pn_behind_header = inr (omega arith);
          user_ends = omega arith;
          pn_ends = z;
          apart = inr (inl (omega arith));
        }
    go false e (follows q z) = absurd (eqb-false f h e q)
    go true e (closes q z) =
        let s = eqb-true f h e in
        record {
          whole = omega arith;
          user_behind_header = omega arith;
          pn_behind_header = inr q;
          user_ends = omega arith;
          pn_ends = omega arith;
          apart = inr (inl (omega arith));
        }
    go false e (closes q z) =
        record {
          whole = omega arith;
          user_behind_header = omega arith;
          pn_behind_header = inr q;
          user_ends = omega arith;
          pn_ends = omega arith;
          apart = inr (inr (omega arith));
        }

-- a byte behind the header and outside the PN range is a user byte
rest : {l h f n s u : ℕ} → Filled l h f n s u → (i : ℕ) → i < l → h ≤ i → (i < f) ⊎ (f + n ≤ i) → (n ≡ 0) ⊎ (h ≤ f)
    → (n ≡ 0) ⊎ ((f + n ≤ s) ⊎ (s + u ≤ f)) → (s ≤ i) × (i < s + u)
rest w i b x (inl y) q (inl z) = (omega arith, omega arith)
rest w i b x (inr y) q (inl z) = (omega arith, omega arith)
rest w i b x (inl y) (inl q) (inr z) = (omega arith, omega arith)
rest w i b x (inr y) (inl q) (inr z) = (omega arith, omega arith)
rest w i b x (inl y) (inr q) (inr (inl z)) = (omega arith, omega arith)
rest w i b x (inl y) (inr q) (inr (inr z)) = (omega arith, omega arith)
rest w i b x (inr y) (inr q) (inr (inl z)) = (omega arith, omega arith)
rest w i b x (inr y) (inr q) (inr (inr z)) = (omega arith, omega arith)

-- where a byte of the PDU stands: in the header, in the PN range or in the user data
abbrev pub Stands : ℕ → ℕ → ℕ → ℕ → ℕ → ℕ → Type 0
Stands h f n s u i = (i < h) ⊎ (((f ≤ i) × (i < f + n)) ⊎ ((s ≤ i) × (i < s + u)))

pub covers : {l h f n s u : ℕ} → Filled l h f n s u → (i : ℕ) → i < l → Stands h f n s u i
covers {l} {h} {f} {n} {s} {u} w i b = go (leb h i) (leb f i) (leb (f + n) i) refl refl refl
  where
    go : (x y z : Bool) → leb h i ≡ x → leb f i ≡ y → leb (f + n) i ≡ z → Stands h f n s u i
    go false y z p q r = inl (leb-false h i p)
    go true true false p q r = inr (inl (leb-true f i q, leb-false (f + n) i r))
    go true false z p q r = inr (inr (rest w i b (leb-true h i p) (inl (leb-false f i q)) w.pn_behind_header w.apart))
    go true true true p q r = inr (inr (rest w i b (leb-true h i p) (inr (leb-true (f + n) i r)) w.pn_behind_header w.apart))

-- the ranges of a configuration that passes
pub placed_by : (c : Config) → Passes c → Placed c.layout.length (header_length c.layout) c.pn.start c.pn.length
unfolding rule8 pn_range pn_absent
placed_by c p = go c.pn.on p.partial
  where
    l : ℕ
    l = c.layout.length

    h : ℕ
    h = header_length c.layout

    f : ℕ
    f = c.pn.start

    n : ℕ
    n = c.pn.length

    ranged : leb 1 n ≡ true → leb h f ≡ true → leb (f + n) l ≡ true → (eqb f h ≡ true) ⊎ (eqb (f + n) l ≡ true) → Placed l h f n
    ranged a b d (inl e) = follows (eqb-true f h e) (leb-true (f + n) l d)
    ranged a b d (inr e) = closes (leb-true h f b) (eqb-true (f + n) l e)

    go : (t : Bool)
        → cond t (not (eqb c.layout.cbv off) && pn_range c && eqb c.pn.masked n && pn_time (ticks_for c)) (pn_absent c) ≡ true
        → Placed l h f n
    go false e =
        let k = and_left (eqb f 0 && eqb n 0) (eqb c.times.reset 0) e in
        without (headed c.layout p.header).fits (eqb-true f 0 (and_left (eqb f 0) (eqb n 0) k)) (eqb-true n 0 (and_right (eqb f 0) (eqb n 0) k))
    go true e =
        let present = not (eqb c.layout.cbv off) in
        let k = and_left (present && pn_range c) (eqb c.pn.masked n) (and_left (present && pn_range c && eqb c.pn.masked n) (pn_time (ticks_for c)) e) in
        let r = and_right present (pn_range c) k in
        let a = leb 1 n in
        let b = leb h f in
        let d = leb (f + n) l in
        let e = eqb f h || eqb (f + n) l in
        ranged (and_left a b (and_left (a && b) d (and_left (a && b && d) e r))) (and_right a b (and_left (a && b) d (and_left (a && b && d) e r)))
        (and_right (a && b) d (and_left (a && b && d) e r)) (or_cases (eqb f h) (eqb (f + n) l) (and_right (a && b && d) e r))

pub filled_by : (c : Config) → Passes c
    → Filled c.layout.length (header_length c.layout) c.pn.start c.pn.length (user_start_of c) (user_length_of c)
unfolding user_start_of user_length_of
filled_by c p = filled c.layout.length (header_length c.layout) c.pn.start c.pn.length (placed_by c p)
