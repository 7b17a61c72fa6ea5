-- Re-exports the names that the laws of receiving use most. Declares nothing.
pub use Rattle.pmd_access.specs.Packet.{Kept, kept_of}
pub use Rattle.pmd_access.specs.Slots.{EachRingBlock, blocks_for, is_ring_block, wrapped}
pub use Rattle.pmd_access.specs.declared.packet.Packet.{Packet}
pub use Rattle.pmd_rx.specs.Receive.{IsOwn, Layout, MovesNext, NamesNext, PeeksNext, Receive, block_at, descriptor_at}
pub use Rattle.pmd_rx.specs.Receive.{drive, ended_of, extended, fresh_of, is_part, left_of, names, next_stage}
pub use Rattle.pmd_rx.specs.Receive.{no_packet, posts, reach, records_of, slot_at, took, vacant}
pub use Rattle.pmd_rx.specs.declared.ring.Stage.TheVariants.{Lent, Looks, Takes}
pub use Rattle.pmd_access.specs.Events.{is_step}
pub use Rattle.pmd_rx.specs.{declared.ring.Reported.Reported, declared.ring.Stage.Stage}
pub use Rattle.ring_laws.specs.Lent.{LendsAgain}
