-- The device's replies to a driver that starts on a queue with both sides off.
use Rattle.std.specs.Prelude.{◌≡◌, ◌⊎◌, IsFalse, true, ℕ}
use Rattle.driver_laws.specs.StartPrelude.{AtPort, IsNumberOf, RowId, Rxdctl, State, Txdctl, has_bit, is_driven}
use Rattle.driver_laws.specs.StartPrelude.{reply_to}
use Rattle.driver_laws.specs.{Points.HasGround, Quieting.IsQuiet}
use Rattle.pmd_driver.specs.NicDevice.declared.event.Event.TheVariants as event
use Rattle.pmd_driver.specs.NicDevice.declared.event.Reply.TheVariants as reply

-- Suppose that port and queue number identify a queue of the device. A read of one of the queue's registers that a
-- driver uses returns a value, and a write to that register gets the reply `Done`.
pub record RegistersReply (queue : ℕ) (q : AtPort) (s : State) (row : RowId) (number : ℕ) : Type 0 where
  pub read : (word : ℕ) × (reply_to s (event.Read q.port number) ≡ reply.Word word)
  pub write : (word : ℕ) → reply_to s (event.Write q.port number word) ≡ reply.Done

abbrev pub NamedRegistersReply : Type 0
NamedRegistersReply =
    (queue : ℕ) (q : AtPort) (frame : ℕ) (s : State) (row : RowId) (number : ℕ) →
    HasGround queue q frame s → is_driven row ≡ true →
    IsNumberOf q.port row q.queue number → RegistersReply queue q s row number

-- If both sides are off with no enable request pending, a read of a side's enable word returns bit 25 as 0.
abbrev pub OffSidesAreSeenOff : Type 0
OffSidesAreSeenOff =
    (queue : ℕ) (q : AtPort) (frame : ℕ) (s : State) (number word : ℕ) → IsQuiet queue q frame s →
    IsNumberOf q.port Rxdctl q.queue number ⊎ IsNumberOf q.port Txdctl q.queue number →
    reply_to s (event.Read q.port number) ≡ reply.Word word → IsFalse (has_bit 25 word)
