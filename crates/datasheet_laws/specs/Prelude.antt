-- Re-exports the definitions of the lower layers that several files of this crate use. Declares nothing.
pub use Rattle.device_laws.specs.Laws.{IsPlain, after_write, reply_to_read}
pub use Rattle.device_laws.specs.Raising.{Causes, IsOfTheDevice, after_causes}
pub use Rattle.nic_device.specs.Access.{around, named_read, named_written, state_read, state_written, word_read}
pub use Rattle.nic_device.specs.DmaArena.Block.{Block}
pub use Rattle.nic_device.specs.DmaRing.declared.dir.Dir.{Dir}
pub use Rattle.nic_device.specs.DmaRing.declared.dir.Dir.TheVariants.{Rx, Tx}
pub use Rattle.nic_device.specs.Eeprom.{reset}
pub use Rattle.nic_device.specs.Interrupt.{group_of_queue, has_group, message_reply}
unfoldable pub use Rattle.nic_device.specs.IntrUnit.BitSet.{contains}
unfoldable pub use Rattle.nic_device.specs.IntrUnit.Group.{group_bits, queue_causes, vector_of}
pub use Rattle.nic_device.specs.IntrUnit.Interrupts.{Interrupts, after_message_of, next_bit, raised}
pub use Rattle.nic_device.specs.IntrUnit.declared.group.Group.{Group}
pub use Rattle.nic_device.specs.IntrUnit.declared.group.Group.TheVariants.{Pf, Vf}
pub use Rattle.nic_device.specs.Named.{at_location, at_place, named}
pub use Rattle.nic_device.specs.Outcome.{Outcome, gives}
pub use Rattle.nic_device.specs.PoolReset.{with_pool_reset, written_below_reset}
pub use Rattle.nic_device.specs.RegTable.Place.{Names, address_among, view_among}
pub use Rattle.nic_device.specs.RegTable.Rows.{row_of}
unfoldable pub use Rattle.nic_device.specs.RegTable.Runs.{runs}
pub use Rattle.nic_device.specs.RegTable.declared.kind.Kind.{Kind}
pub use Rattle.nic_device.specs.RegTable.declared.place.Place.{Place}
pub use Rattle.nic_device.specs.RegTable.declared.rows.RowId.{RowId}
pub use Rattle.nic_device.specs.RegTable.declared.rows.RowId.TheVariants.{Ctrl, CtrlExt, Eicr, Eics, Eimc, Eims, GcrExt}
pub use Rattle.nic_device.specs.RegTable.declared.rows.RowId.TheVariants.{IvarMisc, Pfmailbox, Pvfctrl, Pvfmailbox}
pub use Rattle.nic_device.specs.RegTable.declared.rows.RowId.TheVariants.{Pvteicr, Pvteics, Pvteimc, Pvteims}
pub use Rattle.nic_device.specs.RegisterFile.Bits.{bit_cleared, bit_set, has_bit, merged}
pub use Rattle.nic_device.specs.RegisterFile.Columns.{place}
pub use Rattle.nic_device.specs.RegisterFile.Groups.{auto_masks, interrupts_of, message_of, reported_by, vector_entry}
pub use Rattle.nic_device.specs.RegisterFile.Owner.{is_group, is_owner, owner_in, owner_of}
pub use Rattle.nic_device.specs.RegisterFile.Pools.{mode_in}
pub use Rattle.nic_device.specs.RegisterFile.Registers.{Registers, word_of}
pub use Rattle.nic_device.specs.RegisterFile.Settings.{is_stopped}
pub use Rattle.nic_device.specs.RegisterFile.Words.{word_at}
pub use Rattle.nic_device.specs.RegisterFile.declared.surroundings.Surroundings.{Surroundings}
pub use Rattle.nic_device.specs.Sound.{IsEvent, IsSound}
pub use Rattle.nic_device.specs.State.{State, Waiting, new_state}
pub use Rattle.nic_device.specs.Step.{after, reply_to}
unfoldable pub use Rattle.nic_device.specs.Step.{step_of}
pub use Rattle.nic_device.specs.VfMap.Pools.{mode_of, pools_in, queues_of}
pub use Rattle.nic_device.specs.VfMap.declared.mode.Mode.{Mode}
pub use Rattle.nic_device.specs.declared.event.Event.{Event}
pub use Rattle.nic_device.specs.declared.event.Port.{Port}
pub use Rattle.nic_device.specs.declared.event.Reply.{Reply}
pub use Rattle.nic_device.specs.declared.event.Reply.TheVariants.{Advanced, Done, Dropped, Idle, Message, NoGroup, Sent}
pub use Rattle.nic_device.specs.declared.event.Reply.TheVariants.{Word, Wrote}
pub use Rattle.nic_device.specs.declared.event.Why.TheVariants.{Full}
pub use Rattle.nic_device.specs.declared.named.Named.{Named}
pub use Rattle.nic_device.specs.declared.named.Named.TheVariants.{Nothing, Register}
pub use Rattle.std.specs.List.{range_with_len}
