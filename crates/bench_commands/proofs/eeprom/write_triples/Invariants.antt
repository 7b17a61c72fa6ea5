use Rattle.std.proofs.Common.{◌≡◌, ℕ, List, ◌++◌}
use Rattle.std.specs.Io.KnownBytes.{Appends}
use Rattle.std.specs.List.{flat_map}
use Rattle.nic_device.specs.EepromImage.Triples.{triples_of}
use Rattle.bench_commands.specs.Eeprom.{triple_line}
use Rattle.bench_commands.proofs.eeprom.write_triples.Given as goal

-- The lines so far, followed by the remaining lines, are all lines.
abbrev pub invariant-loop-triple : goal.invariant-loop-triple
invariant-loop-triple g l =
    (done : List ℕ) × Appends (g.W.Write.contents l.fn.output.writer) (g.W.Write.contents l.output.writer) done
    × (done ++ flat_map triple_line l.triple-iterator ≡ flat_map triple_line (triples_of l.fn.image))
