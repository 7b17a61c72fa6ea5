use Rattle.std.proofs.Common.{◌≡◌, ◌≤◌, ◌+◌, ◌*◌, ◌++◌, length}
use Rattle.device_lock.specs.NicDevice.DmaArena.Memory.{put_bytes}
use Rattle.pmd_access.specs.Bufs.{bytes_of, numbers_of}
use Rattle.pmd_access.proofs.bufs.Bufs.write_at.Given as goal

abbrev pub invariant-loop-written : goal.invariant-loop-written
invariant-loop-written l = record {
  bytes : bytes_of l.self ++ put_bytes (bytes_of l.left) l.from l.rest
      ≡ put_bytes (bytes_of l.fn.self) l.fn.at l.fn.bytes;
  numbers : numbers_of l.self ++ numbers_of l.left ≡ numbers_of l.fn.self;
  turned : length l.self ≡ l._written;
  count : l._written + length l.left ≡ length l.fn.self;
  room : l.from + length l.rest ≤ 2048 * length l.left;
}
