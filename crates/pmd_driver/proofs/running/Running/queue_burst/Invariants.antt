use Rattle.std.proofs.Common.{◌≡◌, ◌+◌, None, length}
use Rattle.pmd_access.specs.Asks.{Asks}
use Rattle.pmd_driver.specs.Queueing.{Queues}
use Rattle.pmd_driver.proofs.running.Running.queue_burst.Given as goal

abbrev pub invariant-loop-first : goal.invariant-loop-first
invariant-loop-first g l = record {
  queues : Queues l.initial.packets.items l.packets.items l.sent None (g.N.Nic.made l.initial.nic) l.initial.self
      (g.N.Nic.made l.nic) l.self;
  count : l._first + length l.packets.items ≡ l._first-end;
  asks : Asks g.N.Nic.began g.N.Nic.refuses None l.initial.nic l.nic;
}
