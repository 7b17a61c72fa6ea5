use Rattle.script_asm.proofs.Order.{faults_come_in_order}
use Rattle.script_asm.proofs.laws.faults_come_in_order.Goals as goal

pub returns : goal.returns
returns c = faults_come_in_order
