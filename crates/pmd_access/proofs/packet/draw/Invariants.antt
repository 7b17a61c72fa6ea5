use Rattle.std.proofs.Common.{◌≡◌, ◌+◌}
use Rattle.device_lock.specs.NicDevice.DmaArena.Numbers.{free_count}
use Rattle.pmd_access.specs.Fresh.{IsDrawnAs}
use Rattle.pmd_access.proofs.packet.draw.Given as goal

abbrev pub invariant-loop-drawn : goal.invariant-loop-drawn
invariant-loop-drawn l = record {
  drawn : IsDrawnAs l._drawn l.fn.arena l.bufs l.arena;
  free : free_count l.arena + l._drawn ≡ free_count l.fn.arena;
}
