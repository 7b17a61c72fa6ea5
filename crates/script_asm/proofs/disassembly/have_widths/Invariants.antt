use Rattle.std.proofs.Common.{take}
use Rattle.script_asm.specs.Prelude.{AllByRecursion, HaveWidths, fields_of}
use Rattle.script_asm.proofs.disassembly.have_widths.Given as goal

abbrev pub invariant-loop-instruction : goal.invariant-loop-instruction
invariant-loop-instruction l = AllByRecursion (λ i. HaveWidths (fields_of i)) (take l.instruction-index l.code)
