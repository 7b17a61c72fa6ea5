use Rattle.std.proofs.Common.{ap, arith}
use Rattle.device_lock.specs.NicDevice.DmaArena.Numbers.{free_count}
use Rattle.device_lock.proofs.NicDevice.DmaArena.Arenas.{free_count_taken}
use Rattle.pmd_access.proofs.Drawing.{draws_one}
use Rattle.pmd_access.proofs.packet.draw.Goals as goal

pub loop-drawn-preserved : goal.loop-drawn-preserved
loop-drawn-preserved c =
    let d = draws_one c.loop-drawn._drawn c.args.arena.now c.loop-drawn.arena c.take.new.self c.loop-drawn.bufs
    c.push.new.self c.in-Some.buf c.loop-drawn.invariant.drawn c.in-Some.ensures.free c.in-Some.ensures.taken
    c.in-Some.ensures.zero c.push.ensures in
    let less = free_count_taken c.loop-drawn.arena c.in-Some.buf.number c.in-Some.ensures.free in
    let taken = ap free_count c.in-Some.ensures.taken in
    let free = c.loop-drawn.invariant.free in
    record { drawn = d; free = omega (arith, less, taken, free) }
