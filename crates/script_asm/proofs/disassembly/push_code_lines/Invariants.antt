use Rattle.std.proofs.Common.{◌≡◌, ◌≤◌, ◌++◌, drop, length}
use Rattle.std.specs.Prelude.{string_bytes}
use Rattle.script_asm.specs.Disassembly.{code_lines}
use Rattle.script_asm.proofs.disassembly.push_code_lines.Given as goal

-- The text written so far, followed by the lines of the remaining instructions, is the whole text.
abbrev pub invariant-loop-pc : goal.invariant-loop-pc
invariant-loop-pc l = record {
  within : l.pc ≤ length l.code;
  all : string_bytes l.text ++ code_lines l.code l.pc (drop l.pc l.code) ≡ string_bytes l.fn.text
      ++ code_lines l.code 0 l.code;
}
