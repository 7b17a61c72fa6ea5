use Rattle.nic_device.proofs.Returning.{IsReturned}
use Rattle.nic_device.proofs.copies.put_all_back.Given as goal

abbrev pub invariant-each : goal.invariant-each
invariant-each l = IsReturned l.copies l.fn.arena l.fn.memory l.at l.number l.arena l.memory

abbrev pub decreases-each : goal.decreases-each
decreases-each l = l.number
