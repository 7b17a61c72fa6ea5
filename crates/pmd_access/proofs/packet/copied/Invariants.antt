use Rattle.std.proofs.Common.{◌≡◌, ◌≤◌, ◌*◌, min, take}
use Rattle.std.specs.Prelude.{vec_len}
use Rattle.std.specs.Vec.{vec_capacity}
use Rattle.pmd_access.specs.Bufs.{bytes_of}
use Rattle.pmd_access.proofs.packet.copied.Given as goal

abbrev pub invariant-loop-number : goal.invariant-loop-number
invariant-loop-number l = record {
  copied : l.bytes.items ≡ take l.len (bytes_of (take l.number l.bufs));
  many : vec_len l.bytes ≡ min l.len (2048 * l.number);
  room : vec_capacity l.fn.room ≤ vec_capacity l.bytes;
}
