use Rattle.std.proofs.Common.{◌≡◌, take}
use Rattle.program.proofs.program.copied.Given as goal

abbrev pub invariant-loop-string : goal.invariant-loop-string
invariant-loop-string l = l.copies.items ≡ take l.string-index l.strings
