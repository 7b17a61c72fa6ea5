-- Re-exports the names that the laws on a driver use most. Declares nothing.
pub use Rattle.pmd_driver.specs.NicDevice.{DmaArena.Memory.Memory, DmaArena.Memory.has_block}
pub use Rattle.pmd_driver.specs.NicDevice.DmaRing.declared.dir.Dir.{Dir}
pub use Rattle.pmd_driver.specs.NicDevice.{DmaRing.declared.ring.Ring.Ring, Named.named}
pub use Rattle.pmd_driver.specs.NicDevice.{Receive.is_empty, RegTable.Rows.row_of}
pub use Rattle.pmd_driver.specs.NicDevice.{RegTable.declared.place.Place.Place, RegTable.declared.rows.RowId.RowId}
pub use Rattle.pmd_driver.specs.NicDevice.{RegisterFile.Access.asks_pool_reset, RegisterFile.Bits.has_bit}
pub use Rattle.pmd_driver.specs.NicDevice.{RegisterFile.Columns.place, RegisterFile.Pools.mode_in}
pub use Rattle.pmd_driver.specs.NicDevice.RegisterFile.Queue.{enable_row}
pub use Rattle.pmd_driver.specs.NicDevice.{RegisterFile.Queue.is_on, RegisterFile.Settings.frame_limit, Sound.IsEvent}
pub use Rattle.pmd_driver.specs.NicDevice.{Sound.IsSound, State.State, State.new_state, Step.after, Step.reply_to}
pub use Rattle.pmd_driver.specs.NicDevice.{VfMap.declared.mode.Mode.Mode, declared.event.Event.Event}
pub use Rattle.pmd_driver.specs.NicDevice.declared.event.Port.{Port}
pub use Rattle.pmd_driver.specs.NicDevice.{declared.event.Reply.Reply, declared.named.Named.TheVariants.Register}
pub use Rattle.pmd_driver.specs.NicDevice.DmaArena.Block.{Block, zero_block}
pub use Rattle.pmd_driver.specs.NicDevice.DmaArena.Numbers.{Numbers, is_free, is_own}
pub use Rattle.pmd_driver.specs.NicDevice.DmaArena.Whereabouts.{places_of, times_in_hand}
pub use Rattle.pmd_driver.specs.NicDevice.DmaRing.declared.dir.Dir.TheVariants.{Rx, Tx}
pub use Rattle.pmd_driver.specs.NicDevice.RegTable.declared.rows.RowId.TheVariants.{Rdbah, Rdbal, Rdh, Rdlen, Rdt}
pub use Rattle.pmd_driver.specs.NicDevice.RegTable.declared.rows.RowId.TheVariants.{Rxdctl, Srrctl}
pub use Rattle.pmd_driver.specs.NicDevice.RegTable.declared.rows.RowId.TheVariants.{Tdbah, Tdbal, Tdh, Tdlen, Tdt}
pub use Rattle.pmd_driver.specs.NicDevice.RegTable.declared.rows.RowId.TheVariants.{Tdwbal, Txdctl}
pub use Rattle.pmd_driver.specs.NicDevice.declared.event.Port.TheVariants.{Pf, Vf}
pub use Rattle.pmd_driver.specs.DeviceLock.Alone.{Blocks, LeavesBlocks, LeavesRegisters, WritesOutside, lends, lent_by}
pub use Rattle.pmd_driver.specs.DeviceLock.History.{AreEvents, IsLegal, call_in, calls_of, leads_to}
pub use Rattle.pmd_driver.specs.DeviceLock.Pass.{call_of}
pub use Rattle.pmd_driver.specs.DeviceLock.declared.{alone.Watched.Watched, entry.Call.Call, entry.Entry.Entry}
pub use Rattle.pmd_driver.specs.{Blocks.HasAll, Halted.Halted, Running.Running, declared.driver.Rings.Rings}
pub use Rattle.pmd_driver.specs.PmdAccess.{Events.is_step, Made.Adds, Made.AreSteps, declared.fault.PmdFault.PmdFault}
pub use Rattle.pmd_driver.specs.PmdAccess.{declared.packet.Packet.Packet}
pub use Rattle.pmd_driver.specs.{declared.start.Rest.Rest, declared.start.StartRefused.StartRefused}
pub use Rattle.pmd_driver.specs.Apart.{AllLendApart, DrivesApart, DrivesRings, FindsFault, LendsApart}
pub use Rattle.pmd_driver.specs.Driver.{WhereUp, accepted_of, arena_of, halted_of, handed_of}
pub use Rattle.pmd_driver.specs.Halves.{AllOwn, Doer, Halves, OwnCall, Receives, Sends, after_call, doers_other}
pub use Rattle.pmd_driver.specs.Halves.{halves_of, is_neither, played_by}
pub use Rattle.pmd_driver.specs.PmdRx.Receive.{Receive, drive, records_of}
pub use Rattle.pmd_driver.specs.PmdAccess.Begun.{entries_in, marked_entries}
pub use Rattle.pmd_driver.specs.PmdAccess.Both.{IsSwitched, SwitchFails, both_asked, both_quiet, receive_polled}
pub use Rattle.pmd_driver.specs.PmdAccess.Frames.{is_frame, most_blocks, packet_limit}
pub use Rattle.pmd_driver.specs.PmdAccess.Named.{AtPort, IsNumberOf, is_driven}
pub use Rattle.pmd_driver.specs.PmdAccess.QueueMade.{AreMade, IsMade, StopsBy}
pub use Rattle.pmd_driver.specs.PmdAccess.declared.registers.Access.{Access}
pub use Rattle.pmd_driver.specs.PmdAccess.declared.registers.Access.TheVariants.{Sees, Sets}
pub use Rattle.pmd_driver.specs.PmdAccess.Sides.{missed, polled, quiet, ring_words}
pub use Rattle.pmd_driver.specs.PmdAccess.Slots.{EachRingBlock, blocks_for, is_ring_block, ring_blocks}
pub use Rattle.pmd_driver.specs.PmdAccess.declared.fault.PmdFault.TheVariants.{DeviceFault, StartTimeout}
pub use Rattle.pmd_driver.specs.PmdTx.Sending.{Accepts, Advances, Asks, Elsewhere, Lends, Looks, Move, Reaps, Sender}
pub use Rattle.pmd_driver.specs.PmdTx.Sending.{has_lent, parts_for}
pub use Rattle.pmd_driver.specs.Started.{AreUp, StopsStarting, is_size, left_accepted, left_handed, start_gate}
pub use Rattle.pmd_driver.specs.Starting.{IsPrepared, IsReceiveReady, IsTransmitReady, LendsEach, PreparingFails}
pub use Rattle.pmd_driver.specs.Starting.{ReceiveFails}
pub use Rattle.pmd_driver.specs.declared.driver.Rings.TheVariants.{Down, Up}
pub use Rattle.ring_laws.specs.{Agreeing.Agrees, Agreeing.bytes_of, DeviceLaws.Laws.WritesNoSetting}
pub use Rattle.ring_laws.specs.{DeviceLaws.Leaving.LeavesBlock, Fitting.FitsBlocks, Fitting.partial_on}
pub use Rattle.ring_laws.specs.{Finding.FindsNone, Finding.ShowsNone, Alone.LeavesAloneFrom}
pub use Rattle.ring_laws.specs.{Sides.Side, Sides.side_of, Joint.Agree, Pieces.Piece}
pub use Rattle.ring_laws.specs.{Pieces.pieces, Sent.sent_by, Sent.sent_in, Sent.sent_since, TransmitUp.IsUp}
pub use Rattle.ring_laws.specs.Delivered.{delivered, packets_if_any, pieces_in, pieces_since}
pub use Rattle.ring_laws.specs.Lent.{LendsNone, OnlyLent, either}
