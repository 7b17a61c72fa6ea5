use Rattle.std.proofs.Common.{◌≡◌, ◌++◌, drop}
use Rattle.std.specs.Prelude.{string_bytes}
use Rattle.script_asm.specs.Disassembly.{data_lines}
use Rattle.script_asm.proofs.disassembly.push_data_lines.Given as goal

-- The text written so far, followed by the lines of the remaining strings, is the whole text.
abbrev pub invariant-loop-number : goal.invariant-loop-number
invariant-loop-number l =
    string_bytes l.text ++ data_lines l.number (drop l.number l.strings) ≡ string_bytes l.fn.text
    ++ data_lines 0 l.strings
