use Rattle.std.proofs.Common.{◌≡◌}
use Rattle.script_asm.specs.Prelude.{lines_of}
use Rattle.script_asm.specs.Outline.{blank}
use Rattle.script_asm.specs.Script.{with_lines}
use Rattle.script_asm.proofs.assembly.read_sheet.Given as goal

-- Reading the remaining lines into the current sheet has the same result as reading all lines into a blank sheet.
abbrev pub invariant-loop-line : goal.invariant-loop-line
invariant-loop-line l = with_lines l.sheet l.line-iterator ≡ with_lines blank (lines_of l.text)
