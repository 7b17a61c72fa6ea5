-- Re-exports the lemmas of the lower layers that several files of this crate use. Declares nothing.
pub use Rattle.nic_device.proofs.Cases.{arrived_cases, either_way}
pub use Rattle.nic_device.proofs.QueueCases.{fetched_by, filled_by, received_cases, transmitted_cases}
pub use Rattle.nic_device.proofs.RegisterLaws.RowBits.{word_small}
pub use Rattle.nic_device.proofs.RegisterLaws.Shape.{put_stands}
pub use Rattle.nic_device.proofs.RxRing.Fills.{takes_piece}
pub use Rattle.nic_device.proofs.TxRing.Fetches.{takes_slot}
pub use Rattle.std.proofs.lemmas.Bool.{and_parts, both_ways, cases_lt, cond-false, cond-true, cond_both, eq-eqb}
pub use Rattle.std.proofs.lemmas.Bool.{eqb-false, eqb-true}
pub use Rattle.std.proofs.lemmas.Bool.Decides.{nat_tests}
pub use Rattle.std.proofs.lemmas.List.{get_or-set_same, get_or_past}
