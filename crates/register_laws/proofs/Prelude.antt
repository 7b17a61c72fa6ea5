-- Re-exports lemmas of lower layers that several files cite. Declares nothing.
pub use Rattle.register_file.proofs.IntrUnit.Subsets.{IsSubset-no_bits}
pub use Rattle.register_file.proofs.RegTable.FirstAddresses.{same_number}
pub use Rattle.register_file.proofs.ResetWords.{word_at-reset}
pub use Rattle.std.proofs.Math.ListN.{set}
pub use Rattle.std.proofs.lemmas.Bool.{and_parts, both_ways, cases_Bool, cases_lt, cond-false, cond-true, eqb-false}
pub use Rattle.std.proofs.lemmas.Bool.{eqb-true, false_from_ne_true, or_cases}
pub use Rattle.std.proofs.lemmas.Bool.Decides.{nat_tests}
pub use Rattle.std.proofs.lemmas.List.{get_or-replicate, get_or-set_other, get_or-set_same, get_or_past, length-set}
pub use Rattle.std.proofs.lemmas.Nat.{or_lt}
