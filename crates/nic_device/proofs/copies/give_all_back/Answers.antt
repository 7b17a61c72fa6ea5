use Rattle.std.proofs.Common.{◌<◌, refl, sym, subst}
use Rattle.std.specs.FinMap as map
use Rattle.rx_ring.specs.DmaArena.Memory.{Memory}
use Rattle.nic_device.specs.Blocks.{HaveLeft}
use Rattle.nic_device.proofs.Leaving.{back-away, back-left, left-none, len-less}
use Rattle.nic_device.proofs.copies.give_all_back.Goals as goal

pub each-smaller : goal.each-smaller
each-smaller c =
    subst (λ (m : Memory). map.len m < map.len c.each.memory) (sym c.take.ensures.left)
    (len-less c.each.memory c.in-Some.number c.in-Some.ensures.lent)

pub each-preserved : goal.each-preserved
each-preserved c = record {
  away = back-away c.each.arena _ c.each.memory _ c.in-Some.number c.in-Some-take.buf c.in-Some-take.ensures.taken
      c.take.ensures.left c.give_back.ensures c.each.invariant.away;
  left = λ before was. back-left c.each.arena _ c.each.memory _ c.in-Some.number c.in-Some-take.buf
      c.in-Some-take.ensures.taken c.take.ensures.left c.give_back.ensures before (c.each.invariant.left before was);
}

pub returns : goal.returns
returns c before was =
    left-none before c.each.arena
    (subst (λ (m : Memory). HaveLeft before c.each.arena m) (c.in-Ok.ensures.ok.0 refl)
    (c.each.invariant.left before was))
