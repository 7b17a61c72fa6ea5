use Rattle.script_asm.proofs.FirstFault.{first_fault_decides}
use Rattle.script_asm.proofs.laws.first_fault_decides.Goals as goal

pub returns : goal.returns
returns c = first_fault_decides
