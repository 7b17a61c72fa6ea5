-- Re-exports the device's names that the laws of histories and of both sides use most. Declares nothing.
unfoldable pub use Rattle.device_lock.specs.NicDevice.{DmaArena.Memory.write_at, Step.step_of}
pub use Rattle.device_lock.specs.NicDevice.DmaArena.Memory.{AreApart, Avoids, IsWhole, LiesIn, Memory, has_block}
pub use Rattle.device_lock.specs.NicDevice.DmaArena.Memory.{is_lent, read_at}
pub use Rattle.device_lock.specs.NicDevice.DmaRing.Descriptor.{first_half, second_half}
pub use Rattle.device_lock.specs.NicDevice.DmaRing.Receive.{bytes_in, ends_packet, is_done}
pub use Rattle.device_lock.specs.NicDevice.DmaRing.declared.dir.Dir.TheVariants.{Rx, Tx}
pub use Rattle.device_lock.specs.NicDevice.RegTable.declared.rows.RowId.TheVariants.{GcrExt, Maxfrs, Rdt, Tdt, Txdctl}
pub use Rattle.device_lock.specs.NicDevice.RegisterFile.Access.{asks_pool_reset, asks_reset}
pub use Rattle.device_lock.specs.NicDevice.RegisterFile.Queue.{is_on, ring_of}
pub use Rattle.device_lock.specs.NicDevice.RegisterFile.Registers.{Registers, is_wanted, word_of}
pub use Rattle.device_lock.specs.NicDevice.RegisterLaws.Sides.{ReceiveQueue, TransmitQueue}
pub use Rattle.device_lock.specs.NicDevice.RegisterLaws.Sides.{receive_queue_of, transmit_queue_of}
pub use Rattle.device_lock.specs.NicDevice.VfMap.declared.mode.Mode.TheVariants.{Off}
pub use Rattle.device_lock.specs.NicDevice.declared.event.Reply.TheVariants.{Bytes, Done, Sent, Wrote}
pub use Rattle.device_lock.specs.NicDevice.declared.named.Named.TheVariants.{Nothing, Register}
pub use Rattle.device_lock.specs.NicDevice.{Access.named_written, DmaArena.Block.Block, DmaRing.Ring.is_outside}
pub use Rattle.device_lock.specs.NicDevice.{DmaRing.declared.dir.Dir.Dir, DmaRing.declared.fault.RingFault.RingFault}
pub use Rattle.device_lock.specs.NicDevice.{DmaRing.declared.ring.Ring.Ring, Footprint.reported_address}
pub use Rattle.device_lock.specs.NicDevice.{Named.named, Outcome.Outcome}
pub use Rattle.device_lock.specs.NicDevice.{Outcome.gives, Receive.is_empty, Receive.rest_of, RegTable.Rows.row_of}
pub use Rattle.device_lock.specs.NicDevice.{RegTable.declared.place.Place.Place, RegTable.declared.rows.RowId.RowId}
pub use Rattle.device_lock.specs.NicDevice.{RegisterFile.Bits.has_bit, RegisterFile.Columns.place}
pub use Rattle.device_lock.specs.NicDevice.RegisterFile.Pools.{mode_in}
pub use Rattle.device_lock.specs.NicDevice.{RegisterFile.Settings.frame_limit, RegisterLaws.Laws.after_write}
pub use Rattle.device_lock.specs.NicDevice.{RxRing.Control.buffer_size_of, RxRing.Control.descriptor_type_of}
pub use Rattle.device_lock.specs.NicDevice.RxRing.Fill.{Rest}
pub use Rattle.device_lock.specs.NicDevice.{RxRing.declared.filled.Filled.Filled, Sound.IsEvent}
pub use Rattle.device_lock.specs.NicDevice.{Sound.IsSound, State.State}
pub use Rattle.device_lock.specs.NicDevice.{State.Waiting, State.new_state, Step.after}
pub use Rattle.device_lock.specs.NicDevice.{Step.reply_to, Transmit.sending_of}
pub use Rattle.device_lock.specs.NicDevice.{Transmit.staged_by, TxRing.Report.done_descriptor}
pub use Rattle.device_lock.specs.NicDevice.{TxRing.declared.fetched.Fetched.Fetched, VfMap.Owner.has_queue}
pub use Rattle.device_lock.specs.NicDevice.{VfMap.declared.mode.Mode.Mode, declared.event.Event.Event}
pub use Rattle.device_lock.specs.NicDevice.declared.event.Port.{Port}
pub use Rattle.device_lock.specs.NicDevice.{declared.event.Port.TheVariants.Pf, declared.event.Reply.Reply}
pub use Rattle.device_lock.specs.NicDevice.{declared.named.Named.Named}
pub use Rattle.device_lock.specs.Alone.{Blocks, EntryLeavesAlone, LeavesBlocks, LeavesRegisters, WritesOutside}
pub use Rattle.device_lock.specs.History.{AreEvents, IsLegal, calls_of, leads_to}
pub use Rattle.device_lock.specs.{Alone.has_begun, Alone.lent_by, Alone.mode_through, declared.alone.Watched.Watched}
pub use Rattle.device_lock.specs.{declared.entry.Entry.Entry}
pub use Rattle.device_laws.specs.Leaving.{LeavesBlock, LeavesQueues, LeavesReceive, LeavesTransmit}
pub use Rattle.device_laws.specs.{Laws.WritesNoSetting, Laws.piece_of, Replies.moved_on}
