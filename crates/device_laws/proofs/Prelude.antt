-- Re-exports lemmas from lower layers that several files here cite. Declares nothing.
pub use Rattle.nic_device.proofs.Cases.{either_way, write_cases}
pub use Rattle.nic_device.proofs.Coming.{counted_in, raised_by_queue}
pub use Rattle.nic_device.proofs.Functions.{function_counted_in}
pub use Rattle.nic_device.proofs.PoolReset.{none_staged_of}
pub use Rattle.nic_device.proofs.QueueCases.{fetched_by, received_cases, transmitted_cases}
pub use Rattle.nic_device.proofs.RegTable.Finding.{found-named}
pub use Rattle.nic_device.proofs.RegTable.InRange.{named_in_range}
pub use Rattle.nic_device.proofs.RegisterFile.Own.{intersection-lt}
pub use Rattle.nic_device.proofs.RegisterFile.ResetWords.{word_at-reset}
pub use Rattle.nic_device.proofs.RegisterLaws.Covers.{fails, lacks-renewed, misses-nothing}
pub use Rattle.nic_device.proofs.RegisterLaws.Footprints.{misses-owner, within-refl, word_stands}
pub use Rattle.nic_device.proofs.RegisterLaws.GroupChanges.{settled}
pub use Rattle.nic_device.proofs.RegisterLaws.Owners.{is_place-other, is_place-same}
pub use Rattle.nic_device.proofs.RegisterLaws.PoolPlaces.{shared-read, shared-written, shared_rows}
pub use Rattle.nic_device.proofs.RegisterLaws.Shape.{HasShape-put, put_stands}
pub use Rattle.nic_device.proofs.RegisterLaws.Standing.{interrupts_of-with_interrupts}
pub use Rattle.nic_device.proofs.RegisterLaws.Stands.{group_stands, receive_stands, transmit_stands}
pub use Rattle.nic_device.proofs.RegisterLaws.Within.{within-causes_raised, within-shut}
pub use Rattle.nic_device.proofs.TxRing.Fetches.{takes_slot}
pub use Rattle.std.proofs.lemmas.Bool.{and_parts, cases_Bool, cond-false, cond-true, cond_both, eq-eqb, eqb-true}
pub use Rattle.std.proofs.lemmas.Bool.{false_from_ne_true, lt-ltb, ltb-true, ne_eqb}
pub use Rattle.std.proofs.lemmas.Nat.{and_mask}
