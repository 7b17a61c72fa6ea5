use Rattle.script_asm.specs.Prelude.{lines_of}
use Rattle.script_asm.proofs.ReadyLines.{text-ready}
use Rattle.script_asm.proofs.assembly.assemble.Goals as goal

pub into_program-requires : goal.into_program-requires
into_program-requires c = text-ready (lines_of c.args.text.now) c.in_ok-sheet.sheet c.in_ok-sheet.ensures
