use Rattle.std.proofs.Common.{◌≡◌, ◌-◌, ◌*◌, ◌≤◌, length}
use Rattle.std.specs.List.{AllByRecursion}
use Rattle.program.specs.Listing.{IsSound}
use Rattle.program.specs.Object.{meanings, all_fields_in}
use Rattle.program.proofs.Instructions.{after}
use Rattle.program.proofs.reading.instructions_in.Given as goal

abbrev pub invariant-loop-pc : goal.invariant-loop-pc
invariant-loop-pc l = record {
  read : after l.instructions.items (meanings l.strings l.count l.pc (all_fields_in (l.count - l.pc) l.rest))
      ≡ meanings l.strings l.count 0 (all_fields_in l.count l.fn.bytes);
  sound : AllByRecursion (IsSound l.strings l.count) l.instructions.items;
  number : length l.instructions.items ≡ l.pc;
  left : 12 * (l.count - l.pc) ≤ length l.rest;
}
