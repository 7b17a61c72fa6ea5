use Rattle.device_laws.proofs.Order.{receiving_order, in_its_case, nothing_waits}
use Rattle.device_laws.proofs.receiving_has_an_order.Goals as goal

pub returns : goal.returns
returns c = record { order = receiving_order; alone = in_its_case; nothing = nothing_waits }
