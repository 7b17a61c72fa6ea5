use Rattle.std.proofs.Common.{◌≡◌, drop, filter}
use Rattle.eeprom_image.specs.Fault.{least, is_reserved, indexes}
use Rattle.eeprom_image.proofs.fault.lowest_reserved.Given as goal

abbrev pub invariant-loop-i : goal.invariant-loop-i
invariant-loop-i l = l.lowest ≡ least (filter (is_reserved l.end) (indexes (drop l.i l.words)))
