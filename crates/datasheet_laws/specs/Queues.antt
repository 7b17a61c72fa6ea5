-- What register bits determine for each queue: which cause it raises, which counter counts its frames, and whether it
-- sends.
use Rattle.std.specs.Prelude.{ℕ, ◌≡◌, ◌<◌, ◌+◌, ◌*◌, ◌/◌, ◌%◌, ◌^◌, ◌==◌, Bool, true, ◌&&◌, ◌||◌, nat_le, IsTrue, IsFalse, List, ◌∷◌, Option, Some, if◌then◌else◌}
use Rattle.nic_device.specs.declared.event.Event.TheVariants as event
use Rattle.nic_device.specs.declared.event.Why.TheVariants.{NoSlot}
use Rattle.datasheet_laws.specs.Prelude.{Advanced, Block, Dir, Dropped, Event, Idle, IsSound, Pf, Rx, Sent, State, Tx}
use Rattle.datasheet_laws.specs.Prelude.{Vf, Waiting, Wrote, after, gives, has_bit, reply_to, step_of}
use Rattle.datasheet_laws.specs.Shown.{Bit, bit_of, read_at, reads_one, ShowsThen}
use Rattle.datasheet_laws.specs.Steps.{mode_address, pools_of}

-- The number of queues in a pool: 8 while GCR_EXT bits 1 to 0 are 1, 4 while they are 2, and 2 while they are 3.
abbrev pub queues_by : ℕ → ℕ
queues_by mode = if mode == 1 then 8 else (if mode == 2 then 4 else (if mode == 3 then 2 else 0))

abbrev pub queues_in_pool : State → ℕ
queues_in_pool s = queues_by (read_at s mode_address % 4)

-- If the device has virtual function v, queue x of this function is queue `queue` of the device.
pub record IsQueueOf (s : State) (v x queue : ℕ) : Type 0 where
  pub function : v < s.vfs
  pub pool : v < pools_of s
  pub own : x < queues_in_pool s
  pub is : queue ≡ v * queues_in_pool s + x

-- A queue of the physical function is below 128 and doesn't belong to a virtual function.
pub record IsOfPf (s : State) (queue : ℕ) : Type 0 where
  pub small : queue < 128
  pub none : (v x : ℕ) → ¬ IsQueueOf s v x queue

-- The vectors in IVAR and PVTIVAR.

-- A byte of a word.
abbrev pub byte_of : ℕ → ℕ → ℕ
byte_of word k = word / 2 ^ (8 * k) % 256

-- Which of a queue's two bytes is for a side: the first for receive, the second for transmit.
abbrev pub side_byte : Dir → ℕ
side_byte Rx = 0
side_byte Tx = 1

-- The byte for a queue of the physical function: byte 2(q mod 2) of IVAR[q/2] for receive, and the next for transmit.
abbrev pub pf_byte : State → Dir → ℕ → ℕ
pf_byte s dir queue = byte_of (read_at s (0x00900 + 4 * (queue / 2))) (2 * (queue % 2) + side_byte dir)

-- The byte for queue x of a virtual function: byte 2(x mod 2) of PVTIVAR[v*k/2 + x/2] for receive, and the next for
-- transmit.
abbrev pub vf_byte : State → Dir → (v x : ℕ) → ℕ
vf_byte s dir v x =
    byte_of (read_at s (0x12500 + 4 * (v * queues_in_pool s / 2 + x / 2))) (2 * (x % 2) + side_byte dir)

-- A byte names a cause: bit 7 is 1, bits 5 to 0 are the cause, and it is at most the last existing cause.
abbrev pub names_cause : (last byte bit : ℕ) → Bool
names_cause last byte bit = has_bit 7 byte && bit == byte % 64 && nat_le bit last

-- A step ends a frame on a queue's receive side, or writes back a report of its transmit side.
pub data RaisesFor (s : State) : Event Block → Dir → ℕ → Type 0 where
  ended : (queue slot desc at len : ℕ) → reply_to s event.RxStep ≡ Wrote queue slot true desc at len
      → RaisesFor s event.RxStep Rx queue
  sent : (queue len back : ℕ) → reply_to s (event.TxStep queue) ≡ Sent queue len (Some back)
      → RaisesFor s (event.TxStep queue) Tx queue
  advanced : (queue slot back : ℕ) → reply_to s (event.TxStep queue) ≡ Advanced queue slot (Some back)
      → RaisesFor s (event.TxStep queue) Tx queue

-- A bit after its cause was raised, or not raised.
abbrev pub raised_bit : Bool → Bit → Bit
raised_bit raise b = record b { cause = b.cause || raise }

-- A step that ends a frame on a queue of the physical function, or writes back a report of the queue, raises the cause
-- in EICR, at most 15, that the queue's byte of IVAR names.
abbrev pub IvarNamesCauses : Type 0
IvarNamesCauses =
    (s : State) → IsSound s → (e : Event Block) (dir : Dir) (queue : ℕ) → RaisesFor s e dir queue →
    IsOfPf s queue → ShowsThen s (after s e) Pf
    (λ bit. raised_bit (names_cause 15 (pf_byte s dir queue) bit) (bit_of s Pf bit))

-- A step that does so for a queue of a virtual function raises the cause in the function's PVTEICR, at most 2, that the
-- queue's byte of PVTIVAR names.
abbrev pub PvtivarNamesCauses : Type 0
PvtivarNamesCauses =
    (s : State) → IsSound s → (e : Event Block) (dir : Dir) (queue : ℕ) → RaisesFor s e dir queue →
    (v x : ℕ) → IsQueueOf s v x queue → ShowsThen s (after s e) (Vf v)
    (λ bit. raised_bit (names_cause 2 (vf_byte s dir v x) bit) (bit_of s (Vf v) bit))

-- The counters that RQSMR and TQSM select.

-- The number of a queue's counter: RQSMR[q/4] or TQSM[q/4] contains it in bits 8(q mod 4)+3 to 8(q mod 4).
abbrev pub counter_by : State → (registers queue : ℕ) → ℕ
counter_by s registers queue = read_at s (registers + 4 * (queue / 4)) / 2 ^ (8 * (queue % 4)) % 16

abbrev pub receive_counter : State → ℕ → ℕ
receive_counter s queue = counter_by s 0x02300 queue

abbrev pub transmit_counter : State → ℕ → ℕ
transmit_counter s queue = counter_by s 0x08600 queue

-- A counter's next value, saturating at the largest word.
abbrev pub one_more : ℕ → ℕ
one_more word = if word == 0xFFFFFFFF then word else word + 1

-- Among the 16 counters that start at an address, the counter with this number reads one more, and the others read as
-- before.
abbrev pub CountsIn : (s new : State) → (counters number : ℕ) → Type 0
CountsIn s new counters number =
    (i : ℕ) → i < 16 → read_at new (counters + 0x40 * i)
    ≡ (if number == i then one_more (read_at s (counters + 0x40 * i)) else read_at s (counters + 0x40 * i))

-- QPRC counts a completely written frame, QPRDC a frame dropped for lack of a slot, QPTC a sent frame.
pub record QueueCounts (s : State) : Type 0 where
  pub written :
      (queue slot desc at len : ℕ) → queue < 128 → reply_to s event.RxStep ≡ Wrote queue slot true desc at len
      → CountsIn s (after s event.RxStep) 0x01030 (receive_counter s queue)
  pub dropped :
      (w : Waiting) (others : List Waiting) → s.waiting ≡ w ∷ others → reply_to s event.RxStep ≡ Dropped NoSlot
      → CountsIn s (after s event.RxStep) 0x01430 (receive_counter s w.queue)
  pub sent :
      (queue len : ℕ) (back : Option ℕ) → queue < 128 → reply_to s (event.TxStep queue) ≡ Sent queue len back
      → CountsIn s (after s (event.TxStep queue)) 0x06030 (transmit_counter s queue)

abbrev pub MappingsNameCounters : Type 0
MappingsNameCounters = (s : State) → IsSound s → QueueCounts s

-- The pools that VFTE mutes.

-- A pool's bit in a pair of words, for example VFTE[0] and VFTE[1].
abbrev pub pool_bit_at : State → (pair pool : ℕ) → Bool
pool_bit_at s pair pool = reads_one s (pair + 4 * (pool / 32)) (pool % 32)

-- While VT_CTL bit 0 is 1, each transmit step for a queue is idle if the VFTE bit of the queue's pool is 0.
abbrev pub VfteMutesPools : Type 0
VfteMutesPools =
    (s : State) → IsSound s → IsTrue (reads_one s 0x051B0 0) → (pool x queue : ℕ) → pool < pools_of s →
    x < queues_in_pool s → queue ≡ pool * queues_in_pool s + x → IsFalse (pool_bit_at s 0x08110 pool) →
    step_of s (event.TxStep queue) ≡ gives Idle s
