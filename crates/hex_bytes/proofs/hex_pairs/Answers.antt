-- `hex_bytes::hex_pairs` meets its contract. The loop's invariant: what is to be stored from the start on is what is left to be
-- stored from `n` on, of the pairs of `rest`. Assumes nothing.
use Rattle.std.proofs.Common.{refl, arith, length-set, length-drop}
use Rattle.text.proofs.Filling.{filling_start, filling_one, filling_end}
use Rattle.hex_bytes.proofs.Hex.{behind, pairs_end, pairs_none, pairs_more}
use Rattle.hex_bytes.proofs.hex_pairs.Goals as goal

pub loop-rest-init : goal.loop-rest-init
loop-rest-init c = (filling_start _ _, omega arith, refl)

pub returns-then-high-gt15 : goal.returns-then-high-gt15
returns-then-high-gt15 c =
    filling_end c.loop-rest.invariant.0
    (pairs_none _ c.in-len2-up.len_at_least c.hex_value-high.ensures c.hex_value-low.ensures c.then-high-gt15.either)

pub loop-rest-smaller : goal.loop-rest-smaller
loop-rest-smaller c = rw (behind c.loop-rest.rest.now, length-drop) (omega (arith, c.in-len2-up.len_at_least))

pub loop-rest-preserved : goal.loop-rest-preserved
loop-rest-preserved c =
    let l = c.loop-rest in
    let m = pairs_more l.rest.now c.in-len2-up.len_at_least c.hex_value-high.ensures c.hex_value-low.ensures c.if-high-gt15.false c.if-low-gt15.false in
    let f = filling_one (rw m at l.invariant.0) c.put.ensures in
    rw (behind l.rest.now) (
      f,
      omega (arith, l.invariant.1, length-drop 2 l.rest.now, c.in-len2-up.len_at_least),
      rw c.put.ensures (simp length-set (omega arith)),
    )

pub returns : goal.returns
returns c = filling_end c.loop-rest.invariant.0 (pairs_end _ (omega (arith, c.in_default.len_below)))
