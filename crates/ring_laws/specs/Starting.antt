-- The state after the driver has started, when the receive side of its queue becomes enabled.
use Rattle.std.specs.Prelude.{[], ◌*◌, ◌+◌, ◌<◌, ◌≡◌, ◌≤◌, IsTrue, ℕ}
use Rattle.ring_laws.specs.Prelude.{Port, ReceiveQueue, State, buffer_size_of, descriptor_type_of, has_block}
use Rattle.ring_laws.specs.Prelude.{receive_queue_of}
use Rattle.ring_laws.specs.ReceivePrelude.{EachRingBlock, blocks_for}
use Rattle.pmd_rx.specs.Receive.{at_start}
use Rattle.ring_laws.specs.Joint.{Agree, IsNamed}

-- The side has a ring of `size` slots that starts at the start of block `ring`. None of the slots is posted, and each
-- descriptor has one 2,048-byte buffer.
pub record IsFreshSide (q : ReceiveQueue) (ring size : ℕ) : Type 0 where
  pub one_buffer : descriptor_type_of q.control ≡ 1
  pub buffer_size : buffer_size_of q.control ≡ 2048
  pub base : q.ring.base ≡ 2048 * ring
  pub sized : q.ring.length ≡ 16 * size
  pub head : q.ring.head ≡ 0
  pub tail : q.ring.tail ≡ 0

-- The ring is lent, its registers are written, and the driver's number for the tail identifies the queue's tail
-- register.
pub record IsReady (queue : ℕ) (port : Port) (tail ring size most : ℕ) (s : State) : Type 0 where
  pub some : 0 < size
  pub few : size ≤ 1024
  pub low : ring + blocks_for size ≤ 65536
  pub named : IsNamed s queue (at_start port tail ring size most).layout
  pub side : IsFreshSide (receive_queue_of s.registers queue) ring size
  pub there : EachRingBlock ring size (λ b. IsTrue (has_block s.memory b))

-- In such a state, the device agrees with a driver that has posted nothing yet.
abbrev pub StartAgrees : Type 0
StartAgrees =
    (queue : ℕ) (port : Port) (tail ring size most : ℕ) (s : State) → IsReady queue port tail ring size most s →
    Agree queue s [] (at_start port tail ring size most)
