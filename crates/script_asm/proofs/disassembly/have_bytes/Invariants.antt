use Rattle.std.proofs.Common.{◌<◌, take}
use Rattle.script_asm.specs.Prelude.{AllByRecursion}
use Rattle.script_asm.proofs.disassembly.have_bytes.Given as goal

abbrev pub invariant-loop-string : goal.invariant-loop-string
invariant-loop-string l = AllByRecursion (AllByRecursion (λ byte. byte < 256)) (take l.string-index l.strings)
