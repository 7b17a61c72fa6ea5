use Rattle.std.proofs.Common.{◌≡◌, ◌-◌}
use Rattle.program.specs.Object.{strings_in}
use Rattle.program.proofs.Strings.{after}
use Rattle.program.proofs.reading.strings_in.Given as goal

abbrev pub invariant-loop : goal.invariant-loop
invariant-loop l = after l.strings.items (strings_in (l.count - l.counter) l.rest) ≡ strings_in l.count l.fn.bytes
