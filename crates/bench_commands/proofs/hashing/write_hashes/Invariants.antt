use Rattle.std.proofs.Common.{take}
use Rattle.std.specs.Io.KnownBytes.{Appends}
use Rattle.std.specs.List.{flat_map}
use Rattle.bench_commands.specs.Hash.{word_line}
use Rattle.bench_commands.proofs.hashing.write_hashes.Given as goal

abbrev pub invariant-loop-hash : goal.invariant-loop-hash
invariant-loop-hash g l = Appends (g.W.Write.contents l.fn.output.writer) (g.W.Write.contents l.output.writer)
    (flat_map word_line (take l.hash-index l.hashes))
