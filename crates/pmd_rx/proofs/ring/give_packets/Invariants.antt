use Rattle.std.proofs.Common.{◌≡◌, ◌+◌, length}
use Rattle.pmd_access.specs.Bufs.{with_all_free}
use Rattle.pmd_access.specs.Home.{AreOut}
use Rattle.pmd_rx.specs.Keeping.{numbers_of_all}
use Rattle.pmd_rx.proofs.ring.give_packets.Given as goal

abbrev pub invariant-loop-given : goal.invariant-loop-given
invariant-loop-given l = record {
  out : AreOut l.arena (numbers_of_all l.left.items);
  given : with_all_free l.arena (numbers_of_all l.left.items)
      ≡ with_all_free l.fn.arena (numbers_of_all l.fn.packets.items);
  many : length l.left.items + l._given ≡ length l.fn.packets.items;
}
