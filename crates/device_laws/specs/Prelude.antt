-- Re-exports definitions from lower layers that several files here cite. Declares nothing.
pub use Rattle.nic_device.specs.Access.{around, named_read, named_written, state_read, state_written}
pub use Rattle.nic_device.specs.DmaArena.Block.{Block}
pub use Rattle.nic_device.specs.DmaArena.Memory.{AreApart, Avoids, Memory, read_at}
pub use Rattle.nic_device.specs.DmaRing.Ring.{descriptor_address, slots_of}
pub use Rattle.nic_device.specs.DmaRing.declared.dir.Dir.{Dir}
pub use Rattle.nic_device.specs.DmaRing.declared.dir.Dir.TheVariants.{Rx, Tx}
pub use Rattle.nic_device.specs.DmaRing.declared.fault.RingFault.{RingFault}
pub use Rattle.nic_device.specs.Eeprom.{reset}
pub use Rattle.nic_device.specs.EepromImage.Triples.{triples_of}
unfoldable pub use Rattle.nic_device.specs.Interrupt.{function_of_queue, raised_by}
pub use Rattle.nic_device.specs.Interrupt.{function_counted, has_group, link_cause, missed_cause}
pub use Rattle.nic_device.specs.IntrUnit.declared.group.Group.{Group}
pub use Rattle.nic_device.specs.Named.{at_location, at_place, named}
pub use Rattle.nic_device.specs.Outcome.{Outcome, gives}
pub use Rattle.nic_device.specs.PoolReset.{others_waiting, with_pool_reset, written_below_reset}
pub use Rattle.nic_device.specs.Receive.{frame_counted, is_empty, piece_done, received, rest_of}
pub use Rattle.nic_device.specs.RegTable.Counter.{bumped}
pub use Rattle.nic_device.specs.RegTable.Place.{Names, place_among, view_among}
pub use Rattle.nic_device.specs.RegTable.Rows.{row_of}
unfoldable pub use Rattle.nic_device.specs.RegTable.Runs.{runs}
pub use Rattle.nic_device.specs.RegTable.declared.bank.Bank.{Bank}
pub use Rattle.nic_device.specs.RegTable.declared.bank.Bank.TheVariants.{VfCounters}
pub use Rattle.nic_device.specs.RegTable.declared.kind.Kind.{Kind}
pub use Rattle.nic_device.specs.RegTable.declared.kind.Kind.TheVariants.{Rc}
pub use Rattle.nic_device.specs.RegTable.declared.place.Place.{Place}
pub use Rattle.nic_device.specs.RegTable.declared.rows.RowId.{RowId}
pub use Rattle.nic_device.specs.RegTable.declared.rows.RowId.TheVariants.{Ctrl, Eerd, GcrExt, Gprc, Gptc, Hlreg0}
pub use Rattle.nic_device.specs.RegTable.declared.rows.RowId.TheVariants.{IvarMisc, Maxfrs, Mpc, Qprc, Qprdc, Qptc, Rdh}
pub use Rattle.nic_device.specs.RegTable.declared.rows.RowId.TheVariants.{Roc, Ruc, Tdh, Tdwbah, Tdwbal, Vfgprc, Vfgptc}
pub use Rattle.nic_device.specs.RegisterFile.Access.{after_read, asks_pool_reset, asks_reset, written}
pub use Rattle.nic_device.specs.RegisterFile.Bits.{has_bit, merged}
pub use Rattle.nic_device.specs.RegisterFile.Columns.{place}
pub use Rattle.nic_device.specs.RegisterFile.Counters.{counted, counter_of}
pub use Rattle.nic_device.specs.RegisterFile.Groups.{causes_raised, interrupts_of, masks_by_message}
pub use Rattle.nic_device.specs.RegisterFile.Owner.{is_group, is_owner, owner_in, owner_of}
pub use Rattle.nic_device.specs.RegisterFile.Pools.{mode_in}
pub use Rattle.nic_device.specs.RegisterFile.Queue.{head_row, ring_of, shut, with_head}
pub use Rattle.nic_device.specs.RegisterFile.Registers.{Registers, with_word, word_of}
pub use Rattle.nic_device.specs.RegisterFile.Settings.{can_receive, drops, frame_limit, is_stopped}
pub use Rattle.nic_device.specs.RegisterFile.Words.{word_at}
pub use Rattle.nic_device.specs.RegisterFile.declared.owner.Owner.{Owner}
pub use Rattle.nic_device.specs.RegisterLaws.Footprint.{AgreeWithin, ChangesWithin, LacksWord, Misses, counters}
pub use Rattle.nic_device.specs.RegisterLaws.Footprint.{is_alone, is_pending, is_place, of_group, of_owner, of_read}
pub use Rattle.nic_device.specs.RegisterLaws.Footprint.{of_side, pending, pool_agrees, pool_has, the_word}
pub use Rattle.nic_device.specs.RegisterLaws.Sides.{receive_queue_of, transmit_queue_of}
pub use Rattle.nic_device.specs.RegisterLaws.Sound.{HasShape}
pub use Rattle.nic_device.specs.RxFilter.declared.target.Target.{Target}
pub use Rattle.nic_device.specs.RxFilter.declared.unwanted.Unwanted.{Unwanted}
pub use Rattle.nic_device.specs.RxRing.declared.filled.Filled.{Filled}
pub use Rattle.nic_device.specs.Sound.{AreWaiting, IsSound}
pub use Rattle.nic_device.specs.State.{State, Waiting, cleared, new_state}
pub use Rattle.nic_device.specs.Step.{after, reply_to}
unfoldable pub use Rattle.nic_device.specs.Step.{step_of}
pub use Rattle.nic_device.specs.Transmit.{fetched_reply, slot_counted, slot_reported, staged_by, transmitted}
pub use Rattle.nic_device.specs.TxRing.declared.fetched.Fetched.{Fetched}
pub use Rattle.nic_device.specs.VfMap.Map.{located, mapped}
pub use Rattle.nic_device.specs.VfMap.Owner.{has_queue, is_of_pool_by}
pub use Rattle.nic_device.specs.VfMap.Pools.{mode_of, pool_of, queues_of}
pub use Rattle.nic_device.specs.VfMap.declared.located.Located.{Located}
pub use Rattle.nic_device.specs.VfMap.declared.mode.Mode.{Mode}
pub use Rattle.nic_device.specs.declared.event.Event.{Event}
pub use Rattle.nic_device.specs.declared.event.Port.{Port}
pub use Rattle.nic_device.specs.declared.event.Port.TheVariants.{Pf, Vf}
pub use Rattle.nic_device.specs.declared.event.Reply.{Reply}
pub use Rattle.nic_device.specs.declared.event.Reply.TheVariants.{Advanced, Done, Dropped, Fault, Idle, NoQueue, Sent}
pub use Rattle.nic_device.specs.declared.event.Reply.TheVariants.{Stray, Word, Wrote}
pub use Rattle.nic_device.specs.declared.event.Why.{Why}
pub use Rattle.nic_device.specs.declared.event.Why.TheVariants.{Full, NoSlot, QueueOff}
pub use Rattle.nic_device.specs.declared.named.Named.{Named}
pub use Rattle.nic_device.specs.declared.named.Named.TheVariants.{Nothing, Register}
