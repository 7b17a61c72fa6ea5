use Rattle.script_asm.specs.Prelude.{before_first}
use Rattle.script_asm.specs.End.{is_end}
use Rattle.script_asm.proofs.ReadyLines.{text-ready}
use Rattle.script_asm.proofs.assembly.assemble_before.Goals as goal

pub into_program-requires : goal.into_program-requires
into_program-requires c =
    text-ready (before_first (is_end c.args.end.now) c.args.lines.now) c.in_ok-sheet.sheet c.in_ok-sheet.ensures.sheet
