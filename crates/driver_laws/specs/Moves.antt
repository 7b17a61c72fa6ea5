-- What a driver's own accesses do to sides at rest, and the state in which they leave these sides.
use Rattle.std.specs.Prelude.{[], ◌*◌, ◌+◌, ◌<◌, ◌==◌, ◌||◌, ◌≡◌, ◌≤◌, Bool, IsFalse, None, true, ℕ}
use Rattle.pmd_driver.specs.NicDevice.Named.{named}
use Rattle.ring_laws.specs.Joint.{IsNamed}
use Rattle.driver_laws.specs.StartPrelude.{Agree, Agrees, Blocks, Dir, EachRingBlock, IsSound, Port, Register, Ring}
use Rattle.driver_laws.specs.StartPrelude.{RowId}
use Rattle.driver_laws.specs.StartPrelude.{Rx, Rxdctl, Side, State, Tdt, Tx, Txdctl, after, blocks_for, enable_row}
use Rattle.driver_laws.specs.StartPrelude.{frame_limit, has_bit, is_empty, is_frame, packet_limit, place, reply_to}
use Rattle.driver_laws.specs.StartPrelude.{side_of}
use Rattle.driver_laws.specs.StartPrelude.{zero_block}
use Rattle.driver_laws.specs.{Standing.IsZero, Standing.Stand, Standing.Stands, Words.Fits, Words.NamesRow}
use Rattle.driver_laws.specs.Words.{side_with}
use Rattle.pmd_driver.specs.NicDevice.declared.event.Event.TheVariants as event
use Rattle.pmd_driver.specs.NicDevice.declared.event.Reply.TheVariants as reply
use Rattle.pmd_driver.specs.PmdRx.Receive as receive
use Rattle.pmd_driver.specs.PmdTx.Sending as transmit

-- What a driver's accesses require of the device: it is sound, and the queue's number is below 128.
pub record IsMet (queue : ℕ) (s : State) : Type 0 where
  pub small : queue < 128
  pub sound : IsSound s

-- If an enable request is in effect for a side, the side's ring is empty.
abbrev pub MayGoOn : Side → Type 0
MayGoOn x = x.wanted ≡ true → is_empty x.ring ≡ true

-- If no enable request is in effect for a side, a value written to a register of the side takes effect. The premise: if
-- the value requests that the side be enabled, the side's ring is empty.
abbrev pub WriteStands : Dir → Type 0
WriteStands dir =
    (queue : ℕ) (s : State) (sides : Dir → Side) (rings : Blocks) (port : Port) (number word : ℕ) (row : RowId) →
    IsMet queue s → Stand queue sides rings s → IsFalse (sides dir).wanted → Fits dir row word →
    MayGoOn (side_with dir row word (sides dir)) → NamesRow s port number row queue →
    Stand queue (λ d. side_with d row word (sides d)) rings (after s (event.Write port number word))

-- What is known of a side after a read of a register that returns bit 25 as `on`. If the register is the side's enable
-- word and bit 25 is set, the side is enabled.
abbrev pub side_seen : Dir → RowId → Bool → Side → Side
side_seen Rx Rxdctl on x = record x { on = x.on || on }
side_seen Tx Txdctl on x = record x { on = x.on || on }
side_seen dir other on x = x

-- A read of a side's enable word keeps both sides at rest. If the read returns bit 25 as 1, the side is enabled.
abbrev pub ReadStands : Dir → Type 0
ReadStands dir =
    (queue : ℕ) (s : State) (sides : Dir → Side) (rings : Blocks) (port : Port) (number word : ℕ) →
    Stand queue sides rings s → NamesRow s port number (enable_row dir) queue →
    reply_to s (event.Read port number) ≡ reply.Word word →
    Stand queue (λ d. side_seen d (enable_row dir) (has_bit 25 word) (sides d)) rings
    (after s (event.Read port number))

-- A block of zero bytes that is lent becomes one of the zero-filled blocks `rings`.

abbrev pub and_one : ℕ → Blocks → Blocks
and_one ring rings number = (number == ring) || rings number

abbrev pub LendStands : Type 0
LendStands =
    (queue : ℕ) (s : State) (sides : Dir → Side) (rings : Blocks) (ring : ℕ) → Stand queue sides rings s →
    reply_to s (event.Lend (zero_block ring)) ≡ reply.Done →
    Stand queue sides (and_one ring rings) (after s (event.Lend (zero_block ring)))

-- A fresh side: an empty ring with this many slots that starts at the start of a block, one 2,048-byte buffer for each
-- descriptor, and no head write-back.

abbrev pub fresh_ring : (ring size : ℕ) → Ring
fresh_ring ring size = record { base = 2048 * ring; length = 16 * size; head = 0; tail = 0 }

abbrev pub fresh_side : Dir → (ring size : ℕ) → (on wanted : Bool) → Side → Side
fresh_side Rx ring size on wanted x =
    record x { ring = fresh_ring ring size; control = 0x2000002; on = on; wanted = wanted }
fresh_side Tx ring size on wanted x =
    record x { ring = fresh_ring ring size; writeback = None; on = on; wanted = wanted }

-- A ring of a size that a driver may have, in blocks that can exist.
pub record IsSized (ring size : ℕ) : Type 0 where
  pub some : 0 < size
  pub few : size ≤ 1024
  pub low : ring + blocks_for size ≤ 65536

-- If the sides have fresh rings and the rings' blocks are lent, the device and the driver agree: on the receive side,
-- that nothing is posted; on the transmit side, that nothing is sent.

abbrev pub FreshReceiveAgrees : Type 0
FreshReceiveAgrees =
    (queue : ℕ) (s : State) (x : Side) (on wanted : Bool) (port : Port) (tail ring size most : ℕ) →
    IsSized ring size → IsNamed s queue (receive.at_start port tail ring size most).layout →
    EachRingBlock ring size (IsZero s.memory) → Stands (side_of Rx queue s) (fresh_side Rx ring size on wanted x) →
    Agree queue s [] (receive.at_start port tail ring size most)

abbrev pub FreshTransmitAgrees : Type 0
FreshTransmitAgrees =
    (queue : ℕ) (s : State) (x : Side) (on wanted : Bool) (port : Port) (tail ring size frame : ℕ) →
    queue < 128 → IsSound s → IsSized ring size → named s port tail ≡ Register (place Tdt queue) 0xFFFFFFFF →
    is_frame frame ≡ true → frame_limit s.registers ≡ packet_limit frame →
    EachRingBlock ring size (IsZero s.memory) → Stands (side_of Tx queue s) (fresh_side Tx ring size on wanted x) →
    Agrees s queue [] (transmit.at_start port tail ring size (packet_limit frame))
