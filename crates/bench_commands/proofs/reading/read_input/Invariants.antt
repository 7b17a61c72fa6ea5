use Rattle.std.proofs.Common.{◌<◌, ◌≡◌, ◌≤◌, length}
use Rattle.std.specs.Io.KnownBytes.{Consumes}
use Rattle.bench_commands.proofs.reading.read_input.Given as goal

abbrev pub invariant-loop : goal.invariant-loop
invariant-loop g l = record {
  reported : Consumes (g.R.Read.remaining l.fn.input.reader) (g.R.Read.remaining l.input.reader) l.bytes.items;
  fits : length l.bytes.items ≤ 8388608;
  counted : l.input.reads ≡ l.counter;
  some : l.counter ≤ length l.bytes.items;
  room : 0 < length l.buffer.items;
}
