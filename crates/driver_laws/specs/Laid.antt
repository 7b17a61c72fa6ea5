-- How far a driver has laid out the empty transmit ring of a queue whose transmit side is off. While the driver does
-- this, nothing is sent on the queue.
use Rattle.std.specs.Prelude.{[], ⊤, ◌%◌, ◌++◌, ◌<◌, ◌^◌, ◌∷◌, ◌≡◌, ◌≤◌, IsFalse, List, true, ℕ}
use Rattle.ring_laws.specs.Sent.{sent_in}
use Rattle.driver_laws.specs.StartPrelude.{AtPort, Block, Call, Entry, Event, IsNumberOf, Rdbah, Rdbal, Rdh, Rdlen, Rdt}
use Rattle.driver_laws.specs.StartPrelude.{RowId, Rxdctl, Srrctl, State, Tdbah, Tdbal, Tdh, Tdlen, Tdt, Tdwbal, Txdctl}
use Rattle.driver_laws.specs.StartPrelude.{Watched, call_in, calls_of, has_bit, is_driven, leads_to}
use Rattle.driver_laws.specs.{Along.IsAlong, Points.HasGround}
use Rattle.pmd_driver.specs.NicDevice.declared.event.Event.TheVariants as event
use Rattle.ring_laws.specs.Off as transmit

-- `Off`: the side is off. `Sized`: the side is off, and its ring has a length. `Headed`: in addition, the ring's head
-- is the first slot. `Empty`: the ring is empty, and the side is on or off.
pub data Laid : Type 0 where
  Off : Laid
  Sized : Laid
  Headed : Laid
  Empty : Laid

-- The state after a value is written to one of the queue's registers.
abbrev pub laid_by : RowId → Laid → Laid
laid_by Tdlen l = Sized
laid_by Tdh l = Headed
laid_by Tdt l = Empty
laid_by other l = l

-- The values that may be written. While the side is off, the values of the ring's registers are written in a fixed
-- order. A request to enable the side is allowed only if the side's ring is empty. Any value may be written to a
-- register of the receive side.

abbrev pub MayRing : RowId → Laid → ℕ → Type 0
MayRing Tdbal l word = (l ≡ Off) × (word % 128 ≡ 0)
MayRing Tdbah l word = l ≡ Off
MayRing Tdlen l word = (l ≡ Off) × (word % 128 ≡ 0) × (word < 2 ^ 20) × (16 ≤ word)
MayRing Tdwbal l word = (l ≡ Sized) × (word % 2 ≡ 0)
MayRing Tdh l word = (l ≡ Sized) × (word ≡ 0)
MayRing Tdt l word = (l ≡ Headed) × (word ≡ 0)
MayRing other l word = ⊥

abbrev pub MayAsk : Laid → ℕ → Type 0
MayAsk Empty word = ⊤
MayAsk other word = IsFalse (has_bit 25 word)

abbrev pub MayLay : RowId → Laid → ℕ → Type 0
MayLay Txdctl l word = MayAsk l word
MayLay Rdbal l word = ⊤
MayLay Rdbah l word = ⊤
MayLay Rdlen l word = ⊤
MayLay Rdh l word = ⊤
MayLay Rdt l word = ⊤
MayLay Srrctl l word = ⊤
MayLay Rxdctl l word = ⊤
MayLay row l word = MayRing row l word

-- An event of the driver's pass leads from `l` to `m`: it writes one of these values to the queue, or writes no
-- register.
abbrev pub Lays : AtPort → Laid → Event Block → Laid → Type 0
Lays q l (event.Write port number word) m =
    (row : RowId) × (port ≡ q.port) × (is_driven row ≡ true) × IsNumberOf q.port row q.queue number
    × MayLay row l word × (m ≡ laid_by row l)
Lays q l e m = m ≡ l

-- The calls, in this order, lead from `l` to `last`.
abbrev pub LaysOn : AtPort → Laid → List Call → Laid → Type 0
LaysOn q l [] last = last ≡ l
LaysOn q l (c ∷ cs) last = (m : Laid) × Lays q l c.event m × LaysOn q m cs last

-- Over a legal history that leaves the queue alone, take a call of the driver's pass. Just before that call, port and
-- queue number identify the queue, and the device's frame limit is the driver's packet limit. The queue's transmit side
-- is off with no enable request pending. If that call and the pass's calls after it lay out the ring in this order,
-- nothing is sent on the queue from that call on.
abbrev pub LaidQueueIsSilent : Type 0
LaidQueueIsSilent =
    (w : Watched) (q : AtPort) (frame : ℕ) (origin : State) (h done rest : List Entry) (e : Entry) (last : Laid) →
    IsAlong w origin h → done ++ e ∷ rest ≡ h → e.pass ≡ w.pass →
    HasGround w.queue q frame (leads_to origin done) →
    transmit.IsOff w.queue (leads_to origin done) →
    LaysOn q Off (call_in e ∷ calls_of w.pass rest) last →
    sent_in w.queue (leads_to origin done) (e ∷ rest) ≡ []
