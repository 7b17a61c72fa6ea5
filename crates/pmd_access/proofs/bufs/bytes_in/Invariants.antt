use Rattle.std.proofs.Common.{◌≡◌, ◌*◌, All, take}
use Rattle.device_lock.specs.NicDevice.DmaArena.Block.{Block, IsBlock}
use Rattle.pmd_access.proofs.bufs.bytes_in.Given as goal

abbrev pub invariant-loop-number : goal.invariant-loop-number
invariant-loop-number l = record {
  sum : l.sum ≡ 2048 * l.number;
  whole : All (λ (b : Block). IsBlock b) (take l.number l.bufs);
}
