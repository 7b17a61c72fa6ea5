pub use Rattle.bench_commands.proofs as BenchCommands
pub mod Counting
pub mod Lines
pub mod Queues
