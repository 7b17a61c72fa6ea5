-- How many slots are taken when a driver's ring is reported as full.
use Rattle.std.specs.Prelude.{◌+◌, ◌<◌, ◌∷◌, ◌≤◌, List, Ok, ℕ, length}
use Rattle.driver_laws.specs.StartPrelude.{AtPort, Call, Down, Numbers, Packet, Rings, Up, WhereUp, parts_for}
use Rattle.pmd_driver.specs.Bursts.{IsSendBurst}
use Rattle.pmd_driver.specs.PmdTx.{Sends.IsFullWhereReported, declared.answer.TxAnswer.TheVariants.RingFull}
use Rattle.driver_laws.specs.Reported.{Drove, IsReported, Moment, last}

-- A call to `tx` reported that the ring is full, as `full` in its clause `sent` says.
abbrev pub TellsFull : Moment → Moment → Packet → Type 0
TellsFull m n p =
    WhereUp m.driver.rings n.driver.rings (λ r s. IsFullWhereReported r.transmit p (Ok (RingFull p)))

-- The number of outstanding packet parts of a running driver, each of which takes a slot.
abbrev pub outstanding : Rings → ℕ
outstanding (Up r) = length r.transmit.outstanding
outstanding (Down h) = 0

-- When a call to `tx` reports that the ring is full, fewer parts are outstanding than the ring has descriptors (the
-- number given to the driver's start). Together with the parts of the packet passed to `tx`, there are at least as many
-- parts as descriptors. So if that packet has one part, all slots except one are taken.
abbrev pub FullHasNoRoom : Type 0
FullHasNoRoom =
    (q : AtPort) (size frame : ℕ) (old : List Call) (a : Numbers) (m : Moment) (later : List Moment) (n : Moment)
    (p : Packet) → IsReported q size frame old a m later → TellsFull (last m later) n p →
    (outstanding (last m later).driver.rings < size)
    × (size ≤ outstanding (last m later).driver.rings + parts_for p.len)

-- A call to `tx_burst` accepted no packet and returned no fault, and `p` is the first packet that it left, as its
-- clause `sent` says.
abbrev pub AcceptsNone : Moment → Moment → Packet → Type 0
AcceptsNone m n p =
    WhereUp m.driver.rings n.driver.rings
    (λ r s.
    (vacant : ℕ) × (given : List Packet) × (rest : List Packet)
    × IsSendBurst vacant given (p ∷ rest) (Ok 0) m.made r n.made s)

-- The same bounds hold for the packets that are outstanding after that call.
abbrev pub NoneHasNoRoom : Type 0
NoneHasNoRoom =
    (q : AtPort) (size frame : ℕ) (old : List Call) (a : Numbers) (m : Moment) (later : List Moment) (n : Moment)
    (p : Packet) → IsReported q size frame old a m later → Drove (last m later) n → AcceptsNone (last m later) n p →
    (outstanding n.driver.rings < size) × (size ≤ outstanding n.driver.rings + parts_for p.len)
