use Rattle.std.proofs.Common.{◌≡◌, ◌*◌, ◌-◌, ◌≤◌, sum, take, drop}
use Rattle.eeprom_image.proofs.section.sum_from.Given as goal

abbrev pub invariant-loop-i : goal.invariant-loop-i
invariant-loop-i g l = record {
  sum : l.total ≡ sum (take (l.i - l.first) (drop l.first (g.W.Words.words l.words)));
  bound : l.total ≤ 65535 * (l.i - l.first);
}
