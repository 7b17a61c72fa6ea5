-- Re-exports the definitions of the lower layers that several files of this crate use. Declares nothing.
pub use Rattle.device_lock.specs.NicDevice.RegTable.declared.place.Place.{Place}
pub use Rattle.device_lock.specs.NicDevice.RegTable.declared.rows.RowId.{RowId}
pub use Rattle.device_lock.specs.NicDevice.VfMap.declared.mode.Mode.{Mode}
pub use Rattle.device_lock.specs.NicDevice.DmaArena.Block.{Block}
pub use Rattle.device_lock.specs.NicDevice.DmaRing.declared.dir.Dir.{Dir}
pub use Rattle.device_lock.specs.NicDevice.DmaRing.declared.fault.RingFault.{RingFault}
pub use Rattle.device_lock.specs.NicDevice.IntrUnit.declared.group.Group.{Group}
pub use Rattle.device_lock.specs.NicDevice.declared.event.Event.{Event}
pub use Rattle.device_lock.specs.NicDevice.declared.event.Port.{Port}
pub use Rattle.device_lock.specs.NicDevice.declared.event.Port.TheVariants.{Pf, Vf}
pub use Rattle.device_lock.specs.NicDevice.declared.event.Reply.{Reply}
pub use Rattle.device_lock.specs.NicDevice.declared.event.Reply.TheVariants.{Done, Wrote, Advanced, Sent}
pub use Rattle.device_lock.specs.NicDevice.declared.event.Why.{Why}
pub use Rattle.device_lock.specs.Alone.{Blocks, LeavesAlone, LeavesBlocks, LeavesRegisters, WritesOutside, lent_by}
pub use Rattle.device_lock.specs.Alone.{EntryLeavesAlone, has_begun, mode_through, place_at}
pub use Rattle.device_lock.specs.Pass.{PassValue}
pub use Rattle.device_lock.specs.declared.alone.Watched.{Watched}
pub use Rattle.device_lock.specs.declared.entry.Entry.{Entry}
pub use Rattle.device_lock.specs.declared.fault.CloseFault.{CloseFault}
pub use Rattle.device_lock.specs.declared.fault.CloseFault.TheVariants.{MissingPass, ForeignPass, Mismatch}
