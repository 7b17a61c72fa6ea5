pub use Rattle.bench_commands.specs as BenchCommands
pub mod Refused
pub mod Summary
