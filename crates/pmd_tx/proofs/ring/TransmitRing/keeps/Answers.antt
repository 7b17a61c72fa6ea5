use Rattle.std.proofs.Common.{◌≡◌, ◌∙◌, ◌==◌, ◌||◌, ℕ, Bool, false, sym, ap}
use Rattle.std.specs.List.{list_any}
use Rattle.pmd_access.specs.Slots.{is_ring_block}
use Rattle.pmd_tx.specs.Sending.{Sender, blocks_of, keeps}
use Rattle.pmd_tx.specs.Shown.{outstanding_of}
use Rattle.pmd_tx.proofs.Outstanding.{any-places, blocks-outstanding}
use Rattle.pmd_tx.proofs.ring.TransmitRing.keeps.Goals as goal

pub returns-else-is_ring_block : goal.returns-else-is_ring_block
returns-else-is_ring_block c =
    let ps = c.self.inside.pieces.items in
    let ks = c.self.inside.accepted.items in
    let n = c.args.block in
    let ring : c.ring_block.result ≡ c.self.inside.ring =
    c.ring_block.ensures.block ∙ ap (λ (v : Sender). v.layout.ring) (sym c.self.view_is) in
    let own : is_ring_block c.self.inside.ring c.self.inside.size n ≡ false =
    ap (λ (r : ℕ). is_ring_block r c.self.inside.size n) (sym ring)
    ∙ sym c.is_ring_block.ensures ∙ c.if-is_ring_block.false in
    c.holds.ensures ∙ any-places n ps
    ∙ ap (list_any (λ b. n == b)) (sym (blocks-outstanding ps ks c.self.invariant.tells))
    ∙ ap (λ (t : Bool). t || list_any (λ b. n == b) (blocks_of (outstanding_of ps ks))) (sym own)
    ∙ ap (λ (v : Sender). keeps v n) c.self.view_is
