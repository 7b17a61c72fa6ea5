-- Re-exports the lemmas of the lower layers that several files of this crate use. Declares nothing.
pub use Rattle.device_laws.proofs.Accesses.{state-read, state-written}
pub use Rattle.device_laws.proofs.Causes.{events_raise}
pub use Rattle.nic_device.proofs.RegTable.FirstAddresses.{first_address}
pub use Rattle.nic_device.proofs.RegisterFile.Own.{intersection-lt}
pub use Rattle.nic_device.proofs.RegisterLaws.Accessed.{covers-of_read, covers-of_write}
pub use Rattle.nic_device.proofs.RegisterLaws.Bits.{has_bit-set}
pub use Rattle.nic_device.proofs.RegisterLaws.Covers.{misses-narrower, misses-owner}
pub use Rattle.nic_device.proofs.RegisterLaws.Footprints.{word_stands}
pub use Rattle.nic_device.proofs.RegisterLaws.GroupChanges.{settled}
pub use Rattle.nic_device.proofs.RegisterLaws.Owners.{is_group-itself, is_group-same, is_owner-same, is_place-other}
pub use Rattle.nic_device.proofs.RegisterLaws.PoolReset.{renewed-pool, within-pool_reset}
pub use Rattle.nic_device.proofs.RegisterLaws.Puts.{word_at-put_other}
pub use Rattle.nic_device.proofs.RegisterLaws.Shape.{HasShape-put, put_stands}
pub use Rattle.nic_device.proofs.RegisterLaws.Standing.{interrupts_of-with_interrupts}
pub use Rattle.nic_device.proofs.RegisterLaws.Stands.{group_stands}
pub use Rattle.nic_device.proofs.RegisterLaws.Within.{within-after_read, within-written}
pub use Rattle.nic_device.proofs.Steps.{keeps_sound}
pub use Rattle.std.proofs.Math.Bool.{and-false}
pub use Rattle.std.proofs.lemmas.Bool.{both_ways, cases_Bool, cases_eq, cond-false, cond-true, cond_both, eq-eqb}
pub use Rattle.std.proofs.lemmas.Bool.{eqb-true, false_from_ne_true, ne_eqb, or_left}
