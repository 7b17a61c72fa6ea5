-- Re-exports the names that the laws on sending use most. Declares nothing.
pub use Rattle.pmd_tx.specs.Sending.{Accepts, Advances, Asks, Elsewhere, IsOwn, Layout, Lends, Looks, MayAccept, Move}
pub use Rattle.pmd_tx.specs.Sending.{Outgoing, Reaps, Segment, Sender, accepted_by, asking, descriptor_at, first_end}
pub use Rattle.pmd_tx.specs.Sending.{has_lent, is_sent, moved, no_segment, segment_at, segments_of, slot_at}
pub use Rattle.pmd_access.specs.{Packet.Kept, Slots.EachRingBlock, Slots.is_ring_block}
pub use Rattle.ring_laws.specs.Sides.{side_of}
