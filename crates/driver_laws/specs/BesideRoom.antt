-- A driver with a full ring, whose author makes any other calls alongside it.
use Rattle.std.specs.Prelude.{◌+◌, ◌<◌, ◌≤◌, List, ℕ}
use Rattle.driver_laws.specs.StartPrelude.{AtPort, Call, Numbers, Packet, parts_for}
use Rattle.driver_laws.specs.{Beside.IsReportedBy, Reported.Drove, Reported.Moment, Reported.last}
use Rattle.driver_laws.specs.FullRing.{AcceptsNone, TellsFull, outstanding}

-- If a call to `tx` reports that the ring is full, fewer parts are outstanding than the ring has descriptors (the
-- number given to the driver's start). Together with the parts of the packet passed to `tx`, there are at least as many
-- parts as descriptors.
abbrev pub FullHasNoRoom : Type 0
FullHasNoRoom =
    (q : AtPort) (size frame : ℕ) (old : List Call) (a : Numbers) (m : Moment) (later : List Moment)
    (ahead own : List Call) (n : Moment) (p : Packet) → IsReportedBy q size frame old a m later ahead own →
    TellsFull (last m later) n p →
    (outstanding (last m later).driver.rings < size)
    × (size ≤ outstanding (last m later).driver.rings + parts_for p.len)

-- The same bounds hold after a call to `tx_burst` that returns 0 and leaves packets; the parts counted are then those
-- of the first packet left.
abbrev pub NoneHasNoRoom : Type 0
NoneHasNoRoom =
    (q : AtPort) (size frame : ℕ) (old : List Call) (a : Numbers) (m : Moment) (later : List Moment)
    (ahead own : List Call) (n : Moment) (p : Packet) → IsReportedBy q size frame old a m later ahead own →
    Drove (last m later) n → AcceptsNone (last m later) n p →
    (outstanding n.driver.rings < size) × (size ≤ outstanding n.driver.rings + parts_for p.len)
