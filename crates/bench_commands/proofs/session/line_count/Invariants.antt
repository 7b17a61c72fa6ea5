use Rattle.std.proofs.Common.{◌≡◌, ◌+◌, length}
use Rattle.nic_device.proofs.EepromImage.Numbered.{IsNumberedFrom}
use Rattle.text_format.specs.Lines.{lines_of}
use Rattle.bench_commands.proofs.session.line_count.Given as goal

abbrev pub invariant-loop-line : goal.invariant-loop-line
invariant-loop-line l = record {
  numbered : IsNumberedFrom (l.count + 1) l.line-iterator;
  whole : l.count + length l.line-iterator ≡ length (lines_of l.text);
}
