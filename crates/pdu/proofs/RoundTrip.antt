-- Composing a PDU and reading it undo each other. The argument goes place by place: header, PN range and user data fill
-- the PDU and don't overlap, whatever their numbers. Assumes nothing.
use mathlib.Core.Path.{◌≡◌, refl, ap, sym, ◌∙◌}
use mathlib.Core.Bool.{Bool, true, false, cond, ◌&&◌, false≢true}
use mathlib.Core.List.{List, [], ◌∷◌, ◌++◌}
use mathlib.Core.Logic.{◌⊎◌, inl, inr, ⊎_elim}
use Prim.Native.Nat.{ℕ, zero, suc, ◌+◌, ◌-◌, ◌<◌, ◌≤◌}
use native.Mathlib.Omega.{arith}
use lib.Dec.{eqb, leb}
use lib.ListN.{length, get_or, set, take, drop, length-set, length-drop, length-append, get_or-append}
use lib.Seq.{sets, length-sets, get_or-set_same, get_or-set_other, get_or-take, get_or-drop, get_or-append-add, ext_get_or, length-take-le}
use borrow.Author.Tests.{eqb-true, leb-true, leb-false, eq-eqb, le-leb}
use Rattle.slices.proofs.Bytes.{at_inside, at_outside, part_is}
use Rattle.choice.proofs.Tests.{and_left, and_right}
use Rattle.std.specs.Prelude.{Ok, Err, is_ok}
use Rattle.answers.specs.declared.Refusal.TheVariants.{Length}
use Rattle.answers.specs.Answers.{Done, ruled}
use Rattle.config.specs.declared.Config.{Config}
use Rattle.config.specs.Ranges.{off, header_length, user_start_of, user_length_of}
use Rattle.rules.specs.Rules.{first_broken}
use Rattle.rules.proofs.Passes.{kept, not_done, passes}
use Rattle.rules.proofs.Layouts.{Header, none, sni_alone, cbv_alone, sni_first, cbv_first, headed, Filled, filled_by, Stands, covers}
use Rattle.layout.specs.Fields.{Fields, fields}
use Rattle.layout.specs.Layout.{byte_at, fields_of, frame_of, of_lengths, put_byte}
use Rattle.layout.proofs.Lengths.{laid_length, put_length}
use Rattle.pdu.specs.Pdu.{composed, composing, reading, taken}
use Rattle.pdu.specs.RoundTrip.{RoundTrip, compared}

-- where the fields stand: the header fields, the header's length, the PDU's, the PN range and the user data
record Shape : Type 0 where
  sni : ℕ
  cbv : ℕ
  header : ℕ
  length : ℕ
  start : ℕ
  pn : ℕ
  ustart : ℕ
  user : ℕ

-- the frame over a shape alone
abbrev topped : Shape → Fields → List ℕ → List ℕ
topped g x frame = put_byte g.cbv x.cbv (put_byte g.sni x.sni frame)

abbrev laid_out : Shape → Fields → List ℕ → List ℕ
laid_out g x frame = sets (sets (topped g x frame) g.start x.pn) g.ustart x.user

limit_length : (g : Shape) (x : Fields) (frame : List ℕ) → length (topped g x frame) ≡ length frame
limit_length g x frame = put_length g.cbv x.cbv (put_byte g.sni x.sni frame) ∙ put_length g.sni x.sni frame

shape_length : (g : Shape) (x : Fields) (frame : List ℕ) → length (laid_out g x frame) ≡ length frame
shape_length g x frame = laid_length g.cbv x.cbv g.sni x.sni g.start g.ustart x.pn x.user frame

-- bytes of which there are none, or that all stand elsewhere
away : (vs l : List ℕ) (i k : ℕ) → (length vs ≡ 0) ⊎ ((k < i) ⊎ (i + length vs ≤ k)) → get_or (sets l i vs) k 0 ≡ get_or l k 0
away [] l i k o = refl
away (v ∷ vs) l i k (inl e) = absurd (omega arith)
away (v ∷ vs) l i k (inr o) = at_outside (v ∷ vs) l i k o

-- ---- the header

header_back : {s v h : ℕ} → Header s v h → (a b : ℕ) (frame x : List ℕ) (l : ℕ) → h ≤ l → l ≤ length frame
    → ((k : ℕ) → k < h → get_or x k 0 ≡ get_or (put_byte v b (put_byte s a frame)) k 0)
    → (byte_at s (take l x) ≡ cond (eqb s off) 0 a) × (byte_at v (take l x) ≡ cond (eqb v off) 0 b)
header_back none a b frame x l h w same = (refl, refl)
header_back sni_alone a b frame x l h w same =
    (get_or-take l x 0 0 (omega arith) ∙ same 0 (omega arith) ∙ get_or-set_same frame 0 a 0 (omega arith), refl)
header_back cbv_alone a b frame x l h w same =
    (refl, get_or-take l x 0 0 (omega arith) ∙ same 0 (omega arith) ∙ get_or-set_same frame 0 b 0 (omega arith))
header_back sni_first a b frame x l h w same = (
  get_or-take l x 0 0 (omega arith) ∙ same 0 (omega arith) ∙ get_or-set_other (set frame 0 a) 1 0 b 0 (λ e. omega arith)
      ∙ get_or-set_same frame 0 a 0 (omega arith),
  get_or-take l x 1 0 (omega arith) ∙ same 1 (omega arith)
      ∙ get_or-set_same (set frame 0 a) 1 b 0 (omega (arith, length-set frame 0 a)),
)
header_back cbv_first a b frame x l h w same = (
  get_or-take l x 1 0 (omega arith) ∙ same 1 (omega arith) ∙ get_or-set_other (set frame 1 a) 0 1 b 0 (λ e. omega arith)
      ∙ get_or-set_same frame 1 a 0 (omega arith),
  get_or-take l x 0 0 (omega arith) ∙ same 0 (omega arith)
      ∙ get_or-set_same (set frame 1 a) 0 b 0 (omega (arith, length-set frame 1 a)),
)

header_forth : {s v h : ℕ} → Header s v h → (pdu frame : List ℕ) → h ≤ length frame → (k : ℕ) → k < h
    → get_or (put_byte v (byte_at v pdu) (put_byte s (byte_at s pdu) frame)) k 0 ≡ get_or pdu k 0
header_forth none pdu frame w k h = absurd (omega arith)
header_forth sni_alone pdu frame w zero h = get_or-set_same frame 0 (get_or pdu 0 0) 0 (omega arith)
header_forth sni_alone pdu frame w (suc k) h = absurd (omega arith)
header_forth cbv_alone pdu frame w zero h = get_or-set_same frame 0 (get_or pdu 0 0) 0 (omega arith)
header_forth cbv_alone pdu frame w (suc k) h = absurd (omega arith)
header_forth sni_first pdu frame w zero h =
    get_or-set_other (set frame 0 (get_or pdu 0 0)) 1 0 (get_or pdu 1 0) 0 (λ e. omega arith) ∙ get_or-set_same frame 0 (get_or pdu 0 0) 0 (omega arith)
header_forth sni_first pdu frame w (suc zero) h =
    get_or-set_same (set frame 0 (get_or pdu 0 0)) 1 (get_or pdu 1 0) 0 (omega (arith, length-set frame 0 (get_or pdu 0 0)))
header_forth sni_first pdu frame w (suc (suc k)) h = absurd (omega arith)
header_forth cbv_first pdu frame w zero h =
    get_or-set_same (set frame 1 (get_or pdu 1 0)) 0 (get_or pdu 0 0) 0 (omega (arith, length-set frame 1 (get_or pdu 1 0)))
header_forth cbv_first pdu frame w (suc zero) h =
    get_or-set_other (set frame 1 (get_or pdu 1 0)) 0 1 (get_or pdu 0 0) 0 (λ e. omega arith) ∙ get_or-set_same frame 1 (get_or pdu 1 0) 0 (omega arith)
header_forth cbv_first pdu frame w (suc (suc k)) h = absurd (omega arith)

header_out : {s v h : ℕ} → Header s v h → (a b : ℕ) (frame : List ℕ) (k : ℕ) → h ≤ k
    → get_or (put_byte v b (put_byte s a frame)) k 0 ≡ get_or frame k 0
header_out none a b frame k h = refl
header_out sni_alone a b frame k h = get_or-set_other frame 0 k a 0 (λ e. omega arith)
header_out cbv_alone a b frame k h = get_or-set_other frame 0 k b 0 (λ e. omega arith)
header_out sni_first a b frame k h =
    get_or-set_other (set frame 0 a) 1 k b 0 (λ e. omega arith) ∙ get_or-set_other frame 0 k a 0 (λ e. omega arith)
header_out cbv_first a b frame k h =
    get_or-set_other (set frame 1 a) 0 k b 0 (λ e. omega arith) ∙ get_or-set_other frame 1 k a 0 (λ e. omega arith)

-- ---- each place of the frame

-- a shape that fills its PDU
record Fits (g : Shape) : Type 0 where
  limit : Header g.sni g.cbv g.header
  fill : Filled g.length g.header g.start g.pn g.ustart g.user

module _ (g : Shape) (w : Fits g) (x : Fields) (frame : List ℕ) (pns : length x.pn ≡ g.pn) (users : length x.user ≡ g.user)
    (room : g.length ≤ length frame) where
  in_header : (k : ℕ) → k < g.header → get_or (laid_out g x frame) k 0 ≡ get_or (topped g x frame) k 0
  in_header k b =
      away x.user (sets (topped g x frame) g.start x.pn) g.ustart k (inr (inl (omega (arith, w.fill))))
      ∙ away x.pn (topped g x frame) g.start k
      (⊎_elim (λ e. inl (omega arith)) (λ e. inr (inl (omega arith))) w.fill.pn_behind_header)

  in_pn : (j : ℕ) → j < g.pn → get_or (laid_out g x frame) (g.start + j) 0 ≡ get_or x.pn j 0
  in_pn j b =
      away x.user (sets (topped g x frame) g.start x.pn) g.ustart (g.start + j)
      (⊎_elim (λ e. absurd (omega arith)) (λ q. ⊎_elim (λ e. inr (inl (omega arith))) (λ e. inr (inr (omega arith))) q) w.fill.apart)
      ∙ at_inside x.pn (topped g x frame) g.start j (omega arith) (omega (arith, w.fill, limit_length g x frame))

  in_user : (j : ℕ) → j < g.user → get_or (laid_out g x frame) (g.ustart + j) 0 ≡ get_or x.user j 0
  in_user j b =
      at_inside x.user (sets (topped g x frame) g.start x.pn) g.ustart j (omega arith)
      (omega (arith, w.fill, length-sets (topped g x frame) g.start x.pn, limit_length g x frame))

  behind : (k : ℕ) → g.length ≤ k → get_or (laid_out g x frame) k 0 ≡ get_or frame k 0
  behind k b =
      away x.user (sets (topped g x frame) g.start x.pn) g.ustart k (inr (inr (omega (arith, w.fill))))
      ∙ away x.pn (topped g x frame) g.start k (inr (inr (omega (arith, w.fill))))
      ∙ header_out w.limit x.sni x.cbv frame k (omega (arith, w.fill))

  -- the fields, read off the PDU
  limit_back : (byte_at g.sni (take g.length (laid_out g x frame)) ≡ cond (eqb g.sni off) 0 x.sni)
      × (byte_at g.cbv (take g.length (laid_out g x frame)) ≡ cond (eqb g.cbv off) 0 x.cbv)
  limit_back = header_back w.limit x.sni x.cbv frame (laid_out g x frame) g.length (omega (arith, w.fill)) room in_header

  pn_back : take g.pn (drop g.start (take g.length (laid_out g x frame))) ≡ x.pn
  pn_back =
      part_is (laid_out g x frame) x.pn g.length g.start g.pn pns w.fill.pn_ends (omega (arith, shape_length g x frame)) in_pn

  user_back : take g.user (drop g.ustart (take g.length (laid_out g x frame))) ≡ x.user
  user_back =
      part_is (laid_out g x frame) x.user g.length g.ustart g.user users w.fill.user_ends (omega (arith, shape_length g x frame)) in_user

  later_kept : drop g.length (laid_out g x frame) ≡ drop g.length frame
  later_kept =
      ext_get_or 0 (drop g.length (laid_out g x frame)) (drop g.length frame)
      (omega (arith, length-drop g.length (laid_out g x frame), length-drop g.length frame, shape_length g x frame))
      (λ i b. get_or-drop g.length (laid_out g x frame) i 0 ∙ behind (g.length + i) (omega arith) ∙ sym (get_or-drop g.length frame i 0))

-- a place behind the PDU
beyond : (pdu frame : List ℕ) (l m : ℕ) → length pdu ≡ l → get_or (pdu ++ drop l frame) (l + m) 0 ≡ get_or frame (l + m) 0
beyond pdu frame l m e = rw (← e) (get_or-append-add pdu (drop (length pdu) frame) m 0 ∙ get_or-drop (length pdu) frame m 0)

-- a part of a PDU of l bytes
part_size : (pdu : List ℕ) (l i n : ℕ) → length pdu ≡ l → i + n ≤ l → length (take n (drop i pdu)) ≡ n
part_size pdu l i n e h = length-take-le n (drop i pdu) (omega (arith, length-drop i pdu))

part_at : (pdu : List ℕ) (i n k : ℕ) → i ≤ k → k < i + n → get_or (take n (drop i pdu)) (k - i) 0 ≡ get_or pdu k 0
part_at pdu i n k a b =
    let q : i + (k - i) ≡ k = omega arith in rw q at (get_or-take n (drop i pdu) (k - i) 0 (omega arith) ∙ get_or-drop i pdu (k - i) 0)

module _ (g : Shape) (w : Fits g) (pdu frame : List ℕ) (size : length pdu ≡ g.length) (room : g.length ≤ length frame) where
  abbrev x : Fields
  x =
      fields (byte_at g.sni pdu) (byte_at g.cbv pdu) (take g.pn (drop g.start pdu))
      (take g.user (drop g.ustart pdu))

  pn_size : length x.pn ≡ g.pn
  pn_size = part_size pdu g.length g.start g.pn size w.fill.pn_ends

  user_size : length x.user ≡ g.user
  user_size = part_size pdu g.length g.ustart g.user size w.fill.user_ends

  -- each place of the PDU holds its byte again
  each_back : (i : ℕ) → Stands g.header g.start g.pn g.ustart g.user i → get_or (laid_out g x frame) i 0 ≡ get_or pdu i 0
  each_back i (inl b) =
      in_header g w x frame pn_size user_size room i b ∙ header_forth w.limit pdu frame (omega (arith, w.fill)) i b
  each_back i (inr (inl b)) =
      let q : g.start + (i - g.start) ≡ i = omega (arith, b.0) in
      rw q at (in_pn g w x frame pn_size user_size room (i - g.start) (omega (arith, b.0, b.1)))
      ∙ part_at pdu g.start g.pn i b.0 b.1
  each_back i (inr (inr b)) =
      let q : g.ustart + (i - g.ustart) ≡ i = omega (arith, b.0) in
      rw q at (in_user g w x frame pn_size user_size room (i - g.ustart) (omega (arith, b.0, b.1)))
      ∙ part_at pdu g.ustart g.user i b.0 b.1

  whole_back : laid_out g x frame ≡ pdu ++ drop g.length frame
  whole_back =
      ext_get_or 0 (laid_out g x frame) (pdu ++ drop g.length frame)
      (omega (arith, shape_length g x frame, length-append pdu (drop g.length frame), length-drop g.length frame))
      (λ i b. go i (leb g.length i) refl)
    where
      go : (i : ℕ) (t : Bool) → leb g.length i ≡ t → get_or (laid_out g x frame) i 0 ≡ get_or (pdu ++ drop g.length frame) i 0
      go i true e =
          let q : g.length + (i - g.length) ≡ i = omega (arith, leb-true g.length i e) in
          behind g w x frame pn_size user_size room i (leb-true g.length i e)
          ∙ sym (rw q at (beyond pdu frame g.length (i - g.length) size))
      go i false e =
          each_back i (covers w.fill i (leb-false g.length i e))
          ∙ sym (get_or-append pdu (drop g.length frame) 0 i (omega (arith, leb-false g.length i e)))

-- ---- the claims

-- what it says that a PDU was composed, and that one was read
record Made (c : Config) (f : Fields) (frame : List ℕ) : Type 0 where
  whole : first_broken c ≡ Ok tt
  pns : length f.pn ≡ c.pn.length
  users : length f.user ≡ user_length_of c
  room : c.layout.length ≤ length frame
  is : composing c f frame ≡ composed Done (frame_of c f frame)

sizes : (c : Config) (a b : ℕ) → of_lengths c a b ≡ true → (a ≡ c.pn.length) × (b ≡ user_length_of c)
unfolding of_lengths
sizes c a b e = (
  eqb-true a c.pn.length (and_left (eqb a c.pn.length) (eqb b (user_length_of c)) e),
  eqb-true b (user_length_of c) (and_right (eqb a c.pn.length) (eqb b (user_length_of c)) e),
)

-- composing lays the fields out, or refuses and leaves the frame
made_or_left : (c : Config) (f : Fields) (frame : List ℕ)
    → Made c f frame ⊎ (((composing c f frame).frame ≡ frame) × ((composing c f frame).answer ≡ Done → ⊥))
unfolding composing
made_or_left c f frame = go (is_ok (first_broken c)) fit refl refl
  where
    lengths : Bool
    lengths = of_lengths c (length f.pn) (length f.user)

    fit : Bool
    fit = lengths && leb c.layout.length (length frame)

    go : (t r : Bool) → is_ok (first_broken c) ≡ t → fit ≡ r
        → Made c f frame ⊎ (((composing c f frame).frame ≡ frame) × ((composing c f frame).answer ≡ Done → ⊥))
    go true true e g =
        let k = sizes c (length f.pn) (length f.user) (and_left lengths (leb c.layout.length (length frame)) g) in
        inl
        (record {
          whole = kept (first_broken c) e;
          pns = k.0;
          users = k.1;
          room = leb-true c.layout.length (length frame) (and_right lengths (leb c.layout.length (length frame)) g);
          is = rw (e, g);
        })
    go true false e g =
        inr (rw (e, g), λ d. false≢true (ap is_ok (rw (e, g) at d)))
    go false r e g =
        inr (rw e, λ d. not_done (first_broken c) e (rw e at d))

record Seen (c : Config) (pdu pn user : List ℕ) : Type 0 where
  whole : first_broken c ≡ Ok tt
  size : length pdu ≡ c.layout.length
  is : reading c pdu pn user ≡ taken Done (fields_of c pdu)

seen : (c : Config) (pdu pn user : List ℕ) → (reading c pdu pn user).answer ≡ Done → Seen c pdu pn user
unfolding reading
seen c pdu pn user = go (is_ok (first_broken c)) fit _ _ refl refl
  where
    lengths : Bool
    lengths = of_lengths c (length pn) (length user)

    fit : Bool
    fit = lengths && eqb (length pdu) c.layout.length

    go : (t r : Bool) (x y : Fields) → is_ok (first_broken c) ≡ t → fit ≡ r
        → (cond t (cond r (taken Done (fields_of c pdu)) (taken (Err Length) x)) (taken (ruled (first_broken c)) y)).answer ≡ Done
        → Seen c pdu pn user
    go true true x y e g d =
        record {
          whole = kept (first_broken c) e;
          size = eqb-true (length pdu) c.layout.length (and_right lengths (eqb (length pdu) c.layout.length) g);
          is = rw (e, g);
        }
    go true false x y e g d = absurd (false≢true (ap is_ok d))
    go false r x y e g d = absurd (not_done (first_broken c) e d)

-- where nothing is refused
composes : (c : Config) (f : Fields) (frame : List ℕ) → first_broken c ≡ Ok tt → length f.pn ≡ c.pn.length
    → length f.user ≡ user_length_of c → c.layout.length ≤ length frame → composing c f frame ≡ composed Done (frame_of c f frame)
unfolding composing of_lengths
composes c f frame e a b r =
    rw (
      e,
      eq-eqb (length f.pn) c.pn.length a,
      eq-eqb (length f.user) (user_length_of c) b,
      le-leb c.layout.length (length frame) r,
    )

reads : (c : Config) (pdu pn user : List ℕ) → first_broken c ≡ Ok tt → length pn ≡ c.pn.length → length user ≡ user_length_of c
    → length pdu ≡ c.layout.length → reading c pdu pn user ≡ taken Done (fields_of c pdu)
unfolding reading of_lengths
reads c pdu pn user e a b l =
    rw (
      e,
      eq-eqb (length pn) c.pn.length a,
      eq-eqb (length user) (user_length_of c) b,
      eq-eqb (length pdu) c.layout.length l,
    )

-- the shape of a configuration
abbrev shape : Config → Shape
shape c =
    record {
      sni = c.layout.sni;
      cbv = c.layout.cbv;
      header = header_length c.layout;
      length = c.layout.length;
      start = c.pn.start;
      pn = c.pn.length;
      ustart = user_start_of c;
      user = user_length_of c;
    }

fits : (c : Config) → first_broken c ≡ Ok tt → Fits (shape c)
fits c e = record { limit = (headed c.layout (passes c e).header).positions; fill = filled_by c (passes c e) }

reads_back : (c : Config) (f : Fields) (frame pn user : List ℕ) → Made c f frame → length pn ≡ c.pn.length
    → length user ≡ user_length_of c
    → reading c (take c.layout.length (composing c f frame).frame) pn user ≡ taken Done (compared c f)
unfolding frame_of fields_of compared
reads_back c f frame pn user m a b =
    let w = fits c m.whole in
    let t = limit_back (shape c) w f frame m.pns m.users m.room in
    rw (
      m.is,
      reads c (take c.layout.length (frame_of c f frame)) pn user m.whole a b
          (length-take-le c.layout.length (frame_of c f frame) (omega (arith, shape_length (shape c) f frame, m.room))),
      t.0,
      t.1,
      pn_back (shape c) w f frame m.pns m.users m.room,
      user_back (shape c) w f frame m.pns m.users m.room,
    )

composes_back : (c : Config) (pdu pn user frame : List ℕ) → Seen c pdu pn user → c.layout.length ≤ length frame
    → composing c (reading c pdu pn user).fields frame ≡ composed Done (pdu ++ drop c.layout.length frame)
unfolding frame_of fields_of
composes_back c pdu pn user frame m r =
    let w = fits c m.whole in
    rw (
      m.is,
      composes c (fields_of c pdu) frame m.whole (pn_size (shape c) w pdu frame m.size r)
          (user_size (shape c) w pdu frame m.size r) r,
      whole_back (shape c) w pdu frame m.size r,
    )

pub round_trip : (c : Config) → RoundTrip c
unfolding frame_of
round_trip c =
    record {
      reads_back = λ f frame pn user d a b.
          ⊎_elim (λ m. reads_back c f frame pn user m a b) (λ q. absurd (q.1 d)) (made_or_left c f frame);
      composes_back = λ pdu pn user frame d r. composes_back c pdu pn user frame (seen c pdu pn user d) r;
      keeps_length = λ f frame.
          ⊎_elim (λ m. rw m.is (shape_length (shape c) f frame)) (λ q. ap length q.0) (made_or_left c f frame);
      keeps_later = λ f frame.
          ⊎_elim (λ m. rw m.is (later_kept (shape c) (fits c m.whole) f frame m.pns m.users m.room))
          (λ q. ap (drop c.layout.length) q.0)
          (made_or_left c f frame);
    }
