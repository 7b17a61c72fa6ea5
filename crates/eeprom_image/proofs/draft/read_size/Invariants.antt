use Rattle.std.proofs.Common.{◌≡◌, length}
use Rattle.text_format.specs.Lines.{lines_of}
use Rattle.eeprom_image.specs.Content.{sized}
use Rattle.eeprom_image.proofs.CountedLines.{CountsOn}
use Rattle.eeprom_image.proofs.draft.read_size.Given as goal

abbrev pub invariant-empty_lines : goal.invariant-empty_lines
invariant-empty_lines l = record {
  counts : CountsOn l.count l.lines (length (lines_of l.text));
  same : sized l.lines ≡ sized (lines_of l.text);
}

abbrev pub decreases-empty_lines : goal.decreases-empty_lines
decreases-empty_lines l = length l.lines
