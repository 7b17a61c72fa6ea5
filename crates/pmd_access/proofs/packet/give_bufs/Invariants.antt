use Rattle.std.proofs.Common.{◌≡◌, ◌+◌, length}
use Rattle.pmd_access.specs.Bufs.{numbers_of, with_all_free}
use Rattle.pmd_access.specs.Home.{AreOut}
use Rattle.pmd_access.proofs.packet.give_bufs.Given as goal

abbrev pub invariant-loop-given : goal.invariant-loop-given
invariant-loop-given l = record {
  out : AreOut l.arena (numbers_of l.left);
  home : with_all_free l.arena (numbers_of l.left) ≡ with_all_free l.fn.arena (numbers_of l.fn.bufs);
  count : l._given + length l.left ≡ length l.fn.bufs;
}
