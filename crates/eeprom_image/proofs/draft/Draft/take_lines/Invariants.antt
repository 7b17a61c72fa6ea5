use Rattle.std.proofs.Common.{◌≡◌}
use Rattle.eeprom_image.specs.Content.{with_lines}
use Rattle.eeprom_image.specs.Draft.{content_in}
use Rattle.eeprom_image.proofs.draft.Draft.take_lines.Given as goal

abbrev pub invariant-loop-line : goal.invariant-loop-line
invariant-loop-line l = with_lines (content_in l.self) l.line-iterator ≡ with_lines (content_in l.fn.self) l.fn.lines
