use Rattle.std.proofs.Common.{rules, sym, subst}
use Rattle.nic_device.specs.Sound.{AreBytes, IsEvent}
use Rattle.nic_device.proofs.event.Event.is_of_a_driver.Goals as goal

pub returns-in-Lend : goal.returns-in-Lend
returns-in-Lend c = subst IsEvent (sym c.in-Lend.is) (record {
  whole = c.bytes.ensures.whole;
  bytes = subst AreBytes c.bytes.ensures.value c.are_bytes.ensures;
})

pub returns-in-Poke16 : goal.returns-in-Poke16
returns-in-Poke16 c =
    subst IsEvent (sym c.in-Poke16.is) (search rules, c.if-prove.false, c.are_bytes-in-Poke16.ensures)

pub returns-in-Arrive : goal.returns-in-Arrive
returns-in-Arrive c =
    subst IsEvent (sym c.in-Arrive.is) (subst AreBytes c.bytes-in-Arrive.ensures c.are_bytes-in-Arrive.ensures)
