-- Re-exports the definitions of the lower layers that several files of this crate use. Declares nothing.
pub use Rattle.nic_device.specs.Arrival.{let_in}
pub use Rattle.nic_device.specs.DmaArena.Block.{Block}
pub use Rattle.nic_device.specs.DmaArena.Memory.{AreApart, Memory, is_lent, write_at}
unfoldable pub use Rattle.nic_device.specs.DmaArena.Memory.{read_at}
unfoldable pub use Rattle.nic_device.specs.DmaRing.Descriptor.{first_half, of_halves, second_half}
pub use Rattle.nic_device.specs.DmaRing.Ring.{is_outside, slots_of}
unfoldable pub use Rattle.nic_device.specs.DmaRing.Transmit.{command_of}
pub use Rattle.nic_device.specs.DmaRing.declared.dir.Dir.{Dir}
pub use Rattle.nic_device.specs.DmaRing.declared.dir.Dir.TheVariants.{Rx, Tx}
pub use Rattle.nic_device.specs.DmaRing.declared.fault.RingFault.{RingFault}
pub use Rattle.nic_device.specs.DmaRing.declared.fault.RingFault.TheVariants.{DescType, NoBufferSize, NotLent, Outside}
pub use Rattle.nic_device.specs.DmaRing.declared.ring.Ring.{Ring}
pub use Rattle.nic_device.specs.Outcome.{Outcome, gives}
pub use Rattle.nic_device.specs.Receive.{is_empty, rest_of}
pub use Rattle.nic_device.specs.RegTable.declared.rows.RowId.TheVariants.{Ctrl, Eicr, GcrExt, Hlreg0, Maxfrs, Mrqc}
pub use Rattle.nic_device.specs.RegTable.declared.rows.RowId.TheVariants.{Pvfctrl, Rdbah, Rdbal, Rdh, Rssrk, Rxcsum}
pub use Rattle.nic_device.specs.RegTable.declared.rows.RowId.TheVariants.{Rxdctl, Srrctl, Tdbah, Tdbal, Tdh, Tdlen, Tdt}
pub use Rattle.nic_device.specs.RegTable.declared.rows.RowId.TheVariants.{Tdwbah, Tdwbal, Txdctl, Vfre, VtCtl}
pub use Rattle.nic_device.specs.RegisterFile.Bits.{has_bit}
pub use Rattle.nic_device.specs.RegisterFile.Columns.{place}
pub use Rattle.nic_device.specs.RegisterFile.Pools.{mode_in}
pub use Rattle.nic_device.specs.RegisterFile.Registers.{Registers, is_wanted, word_of}
pub use Rattle.nic_device.specs.RegisterFile.Settings.{drops, frame_limit, is_stopped, pads}
pub use Rattle.nic_device.specs.RegisterFile.Words.{row_words}
pub use Rattle.nic_device.specs.RegisterLaws.Sides.{receive_queue_of, transmit_queue_of}
pub use Rattle.nic_device.specs.RssHash.Choice.{code_of, hashed_part}
unfoldable pub use Rattle.nic_device.specs.RssHash.Flow.{flow_of}
unfoldable pub use Rattle.nic_device.specs.RssHash.Mrqc.{queue_mode_of}
pub use Rattle.nic_device.specs.RssHash.Registers.{bytes_of_registers}
unfoldable pub use Rattle.nic_device.specs.RssHash.Toeplitz.{toeplitz_hash}
pub use Rattle.nic_device.specs.RssHash.declared.choice.RssType.{RssType}
pub use Rattle.nic_device.specs.RssHash.declared.mrqc.QueueMode.{QueueMode}
pub use Rattle.nic_device.specs.RssHash.declared.mrqc.QueueMode.TheVariants.{Rss, Single, Vmdq32Rss, Vmdq64, Vmdq64Rss}
pub use Rattle.nic_device.specs.RxFilter.Address.{passes}
unfoldable pub use Rattle.nic_device.specs.RxFilter.Sorting.{sorted, target_of}
pub use Rattle.nic_device.specs.RxFilter.Sorting.{pool_target, rss_entry}
pub use Rattle.nic_device.specs.RxFilter.declared.target.Target.{Target}
pub use Rattle.nic_device.specs.RxFilter.declared.unwanted.Unwanted.{Unwanted}
pub use Rattle.nic_device.specs.RxRing.declared.filled.Filled.{Filled}
pub use Rattle.nic_device.specs.Sound.{AreWaiting, IsSound}
pub use Rattle.nic_device.specs.State.{State, Waiting}
pub use Rattle.nic_device.specs.Step.{after, reply_to}
unfoldable pub use Rattle.nic_device.specs.Step.{step_of}
pub use Rattle.nic_device.specs.Transmit.{staged_by}
pub use Rattle.nic_device.specs.TxRing.Frame.{frame_of}
pub use Rattle.nic_device.specs.TxRing.declared.fetched.Fetched.{Fetched}
pub use Rattle.nic_device.specs.VfMap.Pools.{mode_of}
pub use Rattle.nic_device.specs.VfMap.declared.mode.Mode.{Mode}
pub use Rattle.nic_device.specs.VfMap.declared.mode.Mode.TheVariants.{Off, Pools16, Pools32, Pools64}
pub use Rattle.nic_device.specs.declared.event.Reply.{Reply}
pub use Rattle.nic_device.specs.declared.event.Reply.TheVariants.{Advanced, Bytes, Done, Dropped, Fault, Idle, NoQueue}
pub use Rattle.nic_device.specs.declared.event.Reply.TheVariants.{Sent, Wrote}
pub use Rattle.nic_device.specs.declared.event.Why.{Why}
pub use Rattle.nic_device.specs.declared.event.Why.TheVariants.{NoSlot, QueueOff}
pub use Rattle.std.specs.Bool.{beq}
pub use Rattle.std.specs.Int.{to_le_bytes, w64}
