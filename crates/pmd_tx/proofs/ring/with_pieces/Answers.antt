use Rattle.std.proofs.Common.{◌∙◌, ◌<◌, ◌++◌, ◌∷◌, [], ℕ, List, length, take, sym, ap, arith, append_assoc}
use Rattle.std.proofs.lemmas.List.{take_more}
use Rattle.pmd_tx.specs.Pieces.{places_of}
use Rattle.pmd_tx.specs.declared.piece.Piece.{Piece}
use Rattle.pmd_tx.proofs.Outstanding.{place-at, length-places}
use Rattle.pmd_tx.proofs.ring.with_pieces.Goals as goal

pub loop-number-preserved : goal.loop-number-preserved
loop-number-preserved c =
    let ps = c.args.pieces.now.items in
    let k = c.loop-number.number in
    let piece = c.index.result.now in
    let test = c.loop-number-test.true in
    let end = c.from-number-end.ensures in
    let some = c.requires.some in
    let below : k < length ps = omega (arith, test, end, some) in
    let at = place-at ps k below piece 0 ∙ ap (λ (p : Piece). p.block) (sym c.index.ensures) in
    let more = take_more (places_of ps) k 0 (omega (arith, below, length-places ps)) in
    let len = c.push_back_reserved.ensures.len in
    let was = c.loop-number.invariant.len in
    record {
      items = c.push_back_reserved.ensures.items
          ∙ ap (λ (l : List ℕ). l ++ piece.block ∷ []) c.loop-number.invariant.items
          ∙ append_assoc c.args.blocks.items (take k (places_of ps)) (piece.block ∷ [])
          ∙ ap (λ (n : ℕ). c.args.blocks.items ++ (take k (places_of ps) ++ n ∷ [])) (sym at)
          ∙ ap (λ (l : List ℕ). c.args.blocks.items ++ l) (sym more);
      len = omega (arith, len, was);
      capacity = c.push_back_reserved.ensures.capacity ∙ c.loop-number.invariant.capacity;
    }
