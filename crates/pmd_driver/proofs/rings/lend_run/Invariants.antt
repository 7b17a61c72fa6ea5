use Rattle.std.proofs.Common.{◌≡◌, ◌+◌, ◌≤◌, None}
use Rattle.std.specs.List.{range_with_len}
use Rattle.std.specs.VecDeque.{deque_len, deque_capacity}
use Rattle.pmd_access.specs.Home.{IsDrawn}
use Rattle.pmd_access.specs.Asks.{Asks}
use Rattle.pmd_driver.specs.Starting.{LendsEach}
use Rattle.pmd_driver.proofs.rings.lend_run.Given as goal

abbrev pub invariant-loop-k : goal.invariant-loop-k
invariant-loop-k g l = record {
  lent : LendsEach (g.N.Nic.made l.initial.nic) (g.N.Nic.made l.nic) (range_with_len l.first l.k);
  drawn : IsDrawn l.initial.arena (range_with_len l.first l.k) l.arena;
  items : l.lent.items ≡ range_with_len l.first l.k;
  room : deque_len l.lent + l.count ≤ deque_capacity l.lent + l.k;
  asks : Asks g.N.Nic.began g.N.Nic.refuses None l.initial.nic l.nic;
}
