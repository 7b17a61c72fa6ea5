-- Re-exports lemmas of lower layers that several files here use. Declares nothing.
pub use Rattle.std.proofs.lemmas.Bool.{and_parts, le-leb, le-ltb, lt-ltb, ltb-true}
pub use Rattle.std.proofs.lemmas.Bool.Decides.{eqb_tells, nat_tests}
