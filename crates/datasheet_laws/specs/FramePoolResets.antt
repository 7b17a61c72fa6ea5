-- Which frames and staged bytes a pool reset drops, by the numbers of queues.
use Rattle.std.specs.Prelude.{ℕ, ◌≡◌, ◌/◌, ◌==◌, ◌&&◌, nat_lt, not, Bool, false, IsTrue, IsFalse, [], filter, if◌then◌else◌}
use Rattle.nic_device.specs.Named.{named}
use Rattle.nic_device.specs.declared.event.Event.TheVariants as event
use Rattle.nic_device.specs.declared.event.Port.{Port}
use Rattle.nic_device.specs.declared.named.Named.TheVariants.{Register}
use Rattle.datasheet_laws.specs.FramePrelude.{GcrExt, Pvfctrl, Registers, State, after, place, staged_by, word_of}
use Rattle.datasheet_laws.specs.Bits.{bit, field}

-- Whether a queue, out of 128, belongs to pool v: 8v to 8v + 7 while GCR_EXT bits 1 to 0 are 1, 4v to 4v + 3 while they
-- are 2, 2v and 2v + 1 while they are 3, and none while they are 0.
abbrev pub is_queue_of : (parts v queue : ℕ) → Bool
is_queue_of parts v queue =
    nat_lt queue 128
    && (if parts == 1 then queue / 8 == v
    else if parts == 2 then queue / 4 == v
    else if parts == 3 then queue / 2 == v
    else false)

abbrev pub has : Registers → (v queue : ℕ) → Bool
has r v queue = is_queue_of (field 1 0 (word_of r GcrExt 0)) v queue

-- The frames in the receive list for other queues stay in order, even partly written ones. The pool's queues have
-- nothing staged, and all other queues keep their staged bytes. Lent memory, the transmitted frames and the link are
-- unchanged.
pub record DropsItsFrames (s : State) (v : ℕ) (new : State) : Type 0 where
  pub waiting : new.waiting ≡ filter (λ w. not (has s.registers v w.queue)) s.waiting
  pub own : (queue : ℕ) → IsTrue (has s.registers v queue) → staged_by new queue ≡ []
  pub others : (queue : ℕ) → IsFalse (has s.registers v queue) → staged_by new queue ≡ staged_by s queue
  pub memory : new.memory ≡ s.memory
  pub out : new.out ≡ s.out
  pub link : new.link ≡ s.link

-- A write to PVFCTRL[v] with bit 26 set, through either port, drops the frames that are waiting for pool v's queues and
-- what these queues have staged, and nothing else.
abbrev pub PoolResetsDropFrames : Type 0
PoolResetsDropFrames =
    (s : State) (port : Port) (number view word v : ℕ) → named s port number ≡ Register (place Pvfctrl v) view →
    bit 26 word ≡ 1 → DropsItsFrames s v (after s (event.Write port number word))
