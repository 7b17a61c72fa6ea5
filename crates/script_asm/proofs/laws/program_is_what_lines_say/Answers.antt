use Rattle.script_asm.proofs.Meaning.{program_is_what_lines_say}
use Rattle.script_asm.proofs.laws.program_is_what_lines_say.Goals as goal

pub returns : goal.returns
returns c = program_is_what_lines_say
