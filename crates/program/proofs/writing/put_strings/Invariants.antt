use Rattle.std.proofs.Common.{◌≡◌, ◌++◌, take}
use Rattle.std.specs.List.{flat_map}
use Rattle.program.specs.Object.{bytes_of_string}
use Rattle.program.proofs.writing.put_strings.Given as goal

abbrev pub invariant-loop-string : goal.invariant-loop-string
invariant-loop-string l = l.out.items ≡ l.fn.out.items ++ flat_map bytes_of_string (take l.string-index l.strings)
