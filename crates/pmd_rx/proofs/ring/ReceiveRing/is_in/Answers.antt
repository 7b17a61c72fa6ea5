use Rattle.std.proofs.Common.{◌≡◌, ◌<◌, ◌↔◌, Bool, true, ap, sym, subst, ◌∙◌}
use Rattle.pmd_access.specs.NicDevice.DmaArena.Whereabouts.{times_in_hand}
use Rattle.pmd_access.specs.Slots.{ring_blocks, is_ring_block}
use Rattle.pmd_access.proofs.Rings.{ring_block_out}
use Rattle.pmd_rx.specs.Receive.{Receive}
use Rattle.pmd_rx.proofs.ring.ReceiveRing.is_in.Goals as goal

pub returns : goal.returns
returns c =
    let l = c.args.self.now.layout in
    let n = c.args.block in
    let own : c.is_ring_block.result ≡ is_ring_block l.ring l.size n =
    c.is_ring_block.ensures
    ∙ ap (λ (r : Receive). is_ring_block r.layout.ring r.layout.size n) c.self.view_is in
    subst (λ (b : Bool). (b ≡ true) ↔ (0 < times_in_hand (ring_blocks l.ring l.size) n)) (sym own)
    (ring_block_out l.ring l.size n)
