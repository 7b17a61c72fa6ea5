use Rattle.std.proofs.Common.{◌≡◌, ◌*◌, ◌-◌, ◌++◌, min, length, take, drop}
use Rattle.pmd_access.specs.Bufs.{bytes_of}
use Rattle.pmd_access.proofs.bufs.copy_out.Given as goal

abbrev pub invariant-loop-number : goal.invariant-loop-number
invariant-loop-number l = record {
  place : l.from ≡ l.at - 2048 * l.number;
  many : l.filled ≡ min (length l.fn.to) (2048 * l.number - l.at);
  copied : l.to ≡ take l.filled (drop l.at (bytes_of l.bufs)) ++ drop l.filled l.fn.to;
  size : length l.to ≡ length l.fn.to;
}
