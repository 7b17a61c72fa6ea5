use Rattle.std.proofs.Common.{◌≡◌, ◌∙◌, ◌-◌, ◌<◌, ◌++◌, ◌∷◌, ℕ, List, take, drop, refl, sym, ap, arith}
use Rattle.pmd_access.specs.NicDevice.DmaArena.Block.{Block}
use Rattle.pmd_access.specs.Bufs.{numbers_of}
use Rattle.pmd_tx.specs.Pieces.{pieces_in}
use Rattle.pmd_tx.specs.Sending.{parts_for}
use Rattle.pmd_tx.proofs.Starting.{started_ring, started_shown, firsts-split, numbers-split}
use Rattle.pmd_tx.proofs.ring.TransmitRing.lend_first.Goals as goal

-- The blocks of a packet's parts are the first block and the waiting blocks.
parts_are : (n count : ℕ) (bs others waiting : List Block) (first : Block) (b : ℕ) → 0 < n → bs ≡ first ∷ others
    → count ≡ n → waiting ≡ take (count - 1) others → b ≡ first.number
    → (waiting ≡ drop 1 (take n bs)) × (b ∷ numbers_of waiting ≡ take n (numbers_of bs))
parts_are n count bs others waiting first b some is all rest number =
    let at : waiting ≡ take (n - 1) others = rest ∙ ap (λ (k : ℕ). take (k - 1) others) all in (
      at ∙ sym (ap (λ (l : List Block). drop 1 l) (firsts-split n bs others first is some)),
      ap (λ (k : ℕ). k ∷ numbers_of waiting) number ∙ ap (λ (l : List Block). first.number ∷ numbers_of l) at
          ∙ sym (numbers-split n bs others first is some),
    )

pub invariant_of-self-in-Ok-None : goal.invariant_of-self-in-Ok-None
invariant_of-self-in-Ok-None g c =
    let p = c.args.packet in
    let long = c.requires.long in
    let parts = parts_are (parts_for p.len) _ p.bufs _ _ _ _ (omega (arith, long)) c.in-Some-take_first.ensures.first
    (c.from.ensures ∙ c.parts_for-parts.ensures.parts) c.split-waiting.ensures.first c.block-block.ensures.number in
    let pieces : c.add_pieces.new.pieces.items ≡ c.self.inside.pieces.items
    ++ pieces_in p.len (c.block-block.result ∷ numbers_of c.split-waiting.result.0) p.len =
    rw (c.add_pieces.ensures, c.room_for.ensures.pieces) refl in
    rw (
      pieces,
      parts.1,
      c.replace-none.ensures.after,
      parts.0,
      c.push_reserved.ensures.items,
      c.room_for.ensures.accepted,
      c.of-record.ensures,
    )
    (started_ring _ _ _ _ _ _ _ _ c.self.invariant c.args.self.now c.self.view_is p c.requires)

pub returns-in-Ok-None-clause-accepted : goal.returns-in-Ok-None-clause-accepted
returns-in-Ok-None-clause-accepted g c =
    let p = c.args.packet in
    let long = c.requires.long in
    let parts = parts_are (parts_for p.len) _ p.bufs _ _ _ _ (omega (arith, long)) c.in-Some-take_first.ensures.first
    (c.from.ensures ∙ c.parts_for-parts.ensures.parts) c.split-waiting.ensures.first c.block-block.ensures.number in
    let pieces : c.add_pieces.new.pieces.items ≡ c.self.inside.pieces.items
    ++ pieces_in p.len (c.block-block.result ∷ numbers_of c.split-waiting.result.0) p.len =
    rw (c.add_pieces.ensures, c.room_for.ensures.pieces) refl in
    rw (
      pieces,
      parts.1,
      c.push_reserved.ensures.items,
      c.room_for.ensures.accepted,
      c.of-record.ensures,
    )
    (started_shown _ _ _ _ _ _ _ _ c.self.invariant c.args.self.now c.self.view_is p c.requires)
