-- Which causes of EICR the device raises by itself, by their numbers.
use Rattle.std.specs.Prelude.{ℕ, ◌≡◌, ◌≢◌, ◌<◌, ◌==◌, Bool, List}
use Rattle.nic_device.specs.DmaRing.declared.fault.RingFault.{RingFault}
use Rattle.nic_device.specs.declared.event.Event.TheVariants as event
use Rattle.nic_device.specs.declared.event.Reply.TheVariants.{Done, Dropped, Fault}
use Rattle.datasheet_laws.specs.Prelude.{Full, Group, IsSound, Pf, State, after, reply_to}
use Rattle.datasheet_laws.specs.Names.{IsGroup, bits_in}
use Rattle.datasheet_laws.specs.Queues.{raised_bit}
use Rattle.datasheet_laws.specs.Shown.{bit_of, ShowsThen}

-- The cause with this number reads 1 in EICR, at 0x00800. All other interrupt bits of every group read as before.
abbrev pub Raises : (s new : State) → (number : ℕ) → Type 0
Raises s new number = ShowsThen s new Pf (λ bit. raised_bit (bit == number) (bit_of s Pf bit))

-- All interrupts read as before.
abbrev pub RaisesNone : (s new : State) → Type 0
RaisesNone s new = (g : Group) → IsGroup g → (bit : ℕ) → bit < bits_in g → bit_of new g bit ≡ bit_of s g bit

-- Cause 17 is raised if an arriving frame finds the list full, 18 if a receive or transmit step has a fault, 20 if the
-- link changes. No other arrival, and no other `Link` event, raises any.
pub record RaisesByNumber (s : State) : Type 0 where
  pub missed : (frame : List ℕ) → reply_to s (event.Arrive frame) ≡ Dropped Full →
      Raises s (after s (event.Arrive frame)) 17
  pub unmissed : (frame : List ℕ) → reply_to s (event.Arrive frame) ≢ Dropped Full →
      RaisesNone s (after s (event.Arrive frame))
  pub received : (queue : ℕ) (fault : RingFault) → reply_to s event.RxStep ≡ Fault queue fault →
      Raises s (after s event.RxStep) 18
  pub transmitted : (queue at : ℕ) (fault : RingFault) → reply_to s (event.TxStep queue) ≡ Fault at fault →
      Raises s (after s (event.TxStep queue)) 18
  pub changed : (up : Bool) → reply_to s (event.Link up) ≡ Done → Raises s (after s (event.Link up)) 20
  pub unchanged : (up : Bool) → reply_to s (event.Link up) ≢ Done → RaisesNone s (after s (event.Link up))

abbrev pub DeviceRaisesByNumber : Type 0
DeviceRaisesByNumber = (s : State) → IsSound s → RaisesByNumber s
