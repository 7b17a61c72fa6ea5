use Rattle.std.proofs.Common.{◌≡◌, ◌∙◌, ◌++◌, ℕ, List, take, drop, sym, ap}
use Rattle.std.proofs.lemmas.List.{take-map}
use Rattle.pmd_access.specs.Slots.{ring_blocks}
use Rattle.pmd_tx.specs.Leaving.{lent_of, waiting_of}
use Rattle.pmd_tx.specs.Pieces.{places_of}
use Rattle.pmd_tx.specs.Sending.{Segment, blocks_of}
use Rattle.pmd_tx.specs.Shown.{outstanding_of}
use Rattle.pmd_tx.proofs.Fields.{hold-numbers}
use Rattle.pmd_tx.proofs.Outstanding.{blocks-outstanding}
use Rattle.pmd_tx.proofs.ring.TransmitRing.close.Goals as goal

pub returns-clause-way : goal.returns-clause-way
returns-clause-way c =
    let ps = c.self.inside.pieces.items in
    let ks = c.self.inside.accepted.items in
    let lent = c.self.inside.lent in
    let blocks : blocks_of (take lent (outstanding_of ps ks)) ≡ take lent (places_of ps) =
    sym (take-map (λ (s : Segment). s.block) lent (outstanding_of ps ks))
    ∙ ap (λ (l : List ℕ). take lent l) (blocks-outstanding ps ks c.self.invariant.tells) in
    c.of.ensures
    ∙ ap (λ (l : List ℕ). record { lent = l; lost = 0 })
    (c.with_ring-lent.ensures.items
    ∙ ap (λ (l : List ℕ). l ++ ring_blocks c.from-2.result c.self.inside.size) c.with_pieces.ensures.items
    ∙ ap (λ (l : List ℕ). (l ++ take lent (places_of ps)) ++ ring_blocks c.from-2.result c.self.inside.size)
    c.in-Ok.ensures.items
    ∙ ap (λ (n : ℕ). take lent (places_of ps) ++ ring_blocks n c.self.inside.size) c.from-2.ensures
    ∙ ap (λ (l : List ℕ). l ++ ring_blocks c.self.inside.ring c.self.inside.size) (sym blocks)
    ∙ ap lent_of c.self.view_is)

pub returns-clause-waiting : goal.returns-clause-waiting
returns-clause-waiting c =
    let ps = c.self.inside.pieces.items in
    let ks = c.self.inside.accepted.items in
    let lent = c.self.inside.lent in
    sym (hold-numbers (drop lent (outstanding_of ps ks)) c.self.inside.waiting c.self.invariant.held)
    ∙ ap waiting_of c.self.view_is
