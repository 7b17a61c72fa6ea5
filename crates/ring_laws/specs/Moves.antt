-- Which events may occur next for a driver that sends.
use Rattle.std.specs.Prelude.{ℕ}
use Rattle.ring_laws.specs.Prelude.{Block, Event, IsEvent, State}
use Rattle.ring_laws.specs.{Sparing.Spares, TransmitPrelude.Elsewhere, TransmitPrelude.IsOwn}
use Rattle.ring_laws.specs.TransmitPrelude.{Move, Sender}

-- An event may occur next: it is the driver's next move, or it spares the driver.
abbrev pub MayMove : ℕ → Sender → State → Event Block → Move → Type 0
MayMove queue v s e Elsewhere = Spares queue v s e
MayMove queue v s e m = IsOwn v m e × IsEvent e
