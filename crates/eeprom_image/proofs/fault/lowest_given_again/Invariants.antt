use Rattle.std.proofs.Common.{◌≡◌, ◌==◌, ℕ, drop}
use Rattle.std.specs.List.{list_any}
use Rattle.std.specs.Ordering.{nat_cmp}
use Rattle.std.specs.BTreeSet.{contains}
use Rattle.eeprom_image.specs.Fault.{least, given_again, indexes}
use Rattle.eeprom_image.proofs.fault.lowest_given_again.Given as goal

abbrev pub invariant-loop-i : goal.invariant-loop-i
invariant-loop-i l = record {
  lowest : l.lowest ≡ least (given_again (indexes (drop l.i l.words)));
  seen : (index : ℕ) → contains nat_cmp l.after index
      ≡ list_any (λ other. other == index) (indexes (drop l.i l.words));
}
