use Rattle.std.proofs.Common.{◌≡◌, ◌+◌, ◌*◌, ◌^◌, ◌<◌, sum, sum_by, take}
use Rattle.eeprom_image.specs.Section.{section_at, pointers}
use Rattle.eeprom_image.proofs.section.checked_sum.Given as goal

abbrev pub invariant-loop-pointer : goal.invariant-loop-pointer
invariant-loop-pointer g l =
    let words = g.W.Words.words l.words in
    record {
      sum : l.total ≡ sum (take 64 words)
          + sum_by (λ pointer. sum (section_at words pointer)) (take l.pointer-index (pointers words));
      bound : l.total < 2 ^ 32 * (l.pointer-index + 1);
    }
