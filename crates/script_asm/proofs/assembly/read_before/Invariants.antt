use Rattle.std.proofs.Common.{◌≡◌, length}
use Rattle.script_asm.specs.Prelude.{before_first}
use Rattle.script_asm.specs.End.{has_end, is_end, lines_after}
use Rattle.script_asm.specs.Outline.{blank}
use Rattle.script_asm.specs.Script.{with_lines}
use Rattle.script_asm.proofs.assembly.read_before.Given as goal

-- Reading the remaining lines into the current sheet has the same result as reading all lines into a blank sheet.
abbrev pub invariant-script : goal.invariant-script
invariant-script l = record {
  said : with_lines l.sheet (before_first (is_end l.end) l.lines)
      ≡ with_lines blank (before_first (is_end l.end) l.fn.lines);
  ended : has_end l.end l.lines ≡ has_end l.end l.fn.lines;
  after : lines_after l.end l.lines ≡ lines_after l.end l.fn.lines;
}

abbrev pub decreases-script : goal.decreases-script
decreases-script l = length l.lines
