-- The two halves of a driver that isn't running: each is a ring, or the ring's blocks that are being returned, with the
-- records of its packets.
use Rattle.std.specs.Prelude.{ℕ, List, [], ◌++◌}
use Rattle.pmd_access.specs.Home.{Homebound}
use Rattle.pmd_access.specs.Packet.{Kept}
use Rattle.pmd_rx.specs.Keeping as receive
use Rattle.pmd_tx.specs.Leaving as transmit
use Rattle.pmd_access.specs.NicDevice.DmaArena.Numbers.{Numbers}
use Rattle.pmd_driver.specs.Halted.{Halted, both_ways, way_of}
use Rattle.pmd_driver.specs.declared.ends.Receiving.{Receiving}
use Rattle.pmd_driver.specs.declared.ends.Receiving.TheVariants as received
use Rattle.pmd_driver.specs.declared.ends.Sending.{Sending}
use Rattle.pmd_driver.specs.declared.ends.Sending.TheVariants as sent

abbrev pub received_way : Receiving → Homebound
received_way (received.Ring v) = way_of (receive.lent_of v)
received_way (received.Leaves way records) = way

-- The blocks that this half has in hand.
abbrev pub held_of : Receiving → List ℕ
held_of (received.Ring v) = receive.blocks_held v
held_of (received.Leaves way records) = []

abbrev pub handed_of : Receiving → List Kept
handed_of (received.Ring v) = v.handed
handed_of (received.Leaves way records) = records.items

abbrev pub sent_way : Sending → Homebound
sent_way (sent.Ring v) = way_of (transmit.lent_of v)
sent_way (sent.Leaves way records) = way

-- The blocks that this half has in hand.
abbrev pub waiting_of : Sending → List ℕ
waiting_of (sent.Ring v) = transmit.waiting_of v
waiting_of (sent.Leaves way records) = []

abbrev pub accepted_of : Sending → List Kept
accepted_of (sent.Ring v) = v.accepted
accepted_of (sent.Leaves way records) = records.items

-- The driver with these two halves.
abbrev pub halted_as : Numbers → Receiving → Sending → Halted
halted_as a r t = record {
  arena = a;
  held = held_of r ++ waiting_of t;
  way = both_ways (received_way r) (sent_way t);
  handed = handed_of r;
  accepted = accepted_of t;
}
