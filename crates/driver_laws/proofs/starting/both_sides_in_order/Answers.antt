use Rattle.driver_laws.proofs.InOrder.{counted_where_up, handed_is_prefix, idle_is_all_sent, none_is_all}
use Rattle.driver_laws.proofs.InOrder.{none_is_all_before, none_is_all_taken, sent_is_prefix}
use Rattle.std.proofs.Common.{rules}

pub returns : Rattle.driver_laws.proofs.starting.both_sides_in_order.Goals.returns
returns c = search (
  rules,
  handed_is_prefix,
  none_is_all_taken,
  none_is_all,
  none_is_all_before,
  sent_is_prefix,
  idle_is_all_sent,
  counted_where_up,
)
