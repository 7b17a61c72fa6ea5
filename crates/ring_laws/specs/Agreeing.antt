-- What a device and a driver that sends on one of the device's queues agree on.
use Rattle.std.specs.Prelude.{[], if◌then◌else◌, ◌*◌, ◌++◌, ◌<◌, ◌∷◌, ◌≡◌, ◌≢◌, ◌≤◌, ◌⊎◌, IsFalse, IsTrue, List, None}
use Rattle.std.specs.Prelude.{drop, false, length, map, true, ℕ}
use Rattle.ring_laws.specs.Prelude.{IsSound, Memory, Register, State, Tdt, TransmitQueue, done_descriptor}
use Rattle.ring_laws.specs.Prelude.{frame_limit, has_block, named, place, read_at, staged_by, transmit_queue_of}
use Rattle.ring_laws.specs.TransmitPrelude.{EachRingBlock, Kept, Layout, Segment, Sender, asking, descriptor_at}
use Rattle.ring_laws.specs.TransmitPrelude.{is_ring_block, segment_at, slot_at}

-- The bytes of packets.
abbrev pub bytes_of : List Kept → List (List ℕ)
bytes_of packets = map (λ (p : Kept). p.bytes) packets

-- `staged_with`: the bytes that are staged after a segment is fetched, given the bytes staged before. `frame_ended`:
-- the frame that ends with this segment, if any.
abbrev pub staged_with : List ℕ → Segment → List ℕ
staged_with staged s = if s.part.last then [] else staged ++ s.part.bytes

abbrev pub frame_ended : List ℕ → Segment → List (List ℕ)
frame_ended staged s = if s.part.last then (staged ++ s.part.bytes) ∷ [] else []

-- The frames that the device sends when it fetches these segments, given the bytes already staged.
abbrev pub frames_from : List ℕ → List Segment → List (List ℕ)
frames_from staged [] = []
frames_from staged (s ∷ segments) = frame_ended staged s ++ frames_from (staged_with staged s) segments

-- The segments continue the packet of the staged bytes, contain further packets, and end the last packet. Each packet
-- is 60 to `limit` bytes long.
abbrev pub ArePackets : ℕ → List ℕ → List Segment → Type 0
ArePackets limit staged [] = staged ≡ []
ArePackets limit staged (s ∷ segments) =
    (length (staged ++ s.part.bytes) ≤ limit) × (s.part.last ≡ true → 60 ≤ length (staged ++ s.part.bytes))
    × ArePackets limit (staged_with staged s) segments

-- The descriptor at this address requests the segment's transmission. `IsDone`: the descriptor at this address
-- requested the segment's transmission and is done.
abbrev pub IsPosted : Memory → ℕ → Segment → Type 0
IsPosted m address s = read_at m address 16 ≡ asking s

abbrev pub IsDone : Memory → ℕ → Segment → Type 0
IsDone m address s = read_at m address 16 ≡ done_descriptor (asking s)

-- A ring with at most 1,024 slots, for packets of at most 10,240 bytes.
pub record IsLayout (l : Layout) : Type 0 where
  pub some : 0 < l.size
  pub few : l.size ≤ 1024
  pub next : l.next < l.size
  pub limit : l.limit ≤ 10240

-- The part of the agreement that every event preserves if it writes no setting. The device is sound. The driver's
-- number for its tail register identifies the queue's TDT. The device's frame limit is the driver's packet limit.
pub record IsBased (s : State) (queue : ℕ) (l : Layout) : Type 0 where
  pub sound : IsSound s
  pub small : queue < 128
  pub layout : IsLayout l
  pub tail : named s l.port l.tail ≡ Register (place Tdt queue) 0xFFFFFFFF
  pub limit : frame_limit s.registers ≡ l.limit

-- The transmit side is set up for the driver, with `posted` of the outstanding segments posted and `fetched` of them
-- fetched. The ring begins with the driver's block. The head is the slot of the first segment that wasn't fetched. The
-- tail is the slot of the first segment that isn't posted. The side has no head write-back, and may be on or off.
pub record IsSetUp (side : TransmitQueue) (l : Layout) (posted fetched : ℕ) : Type 0 where
  pub base : side.ring.base ≡ 2048 * l.ring
  pub length : side.ring.length ≡ 16 * l.size
  pub head : side.ring.head ≡ slot_at l fetched
  pub tail : side.ring.tail ≡ slot_at l posted
  pub writeback : side.writeback ≡ None

-- A segment can be sent: its block is lent, isn't one of the ring's blocks, and begins with the segment's bytes. The
-- ring has `size` slots and begins with block `ring`.
pub record IsReady (m : Memory) (ring size : ℕ) (s : Segment) : Type 0 where
  pub short : length s.part.bytes ≤ 2048
  pub whole : s.part.whole ≤ 10240
  pub lent : IsTrue (has_block m s.block)
  pub apart : is_ring_block ring size s.block ≡ false
  pub bytes : read_at m (2048 * s.block) (length s.part.bytes) ≡ s.part.bytes

-- Each segment takes one slot, and at least one slot is vacant. Done segments were fetched, fetched segments are
-- posted, posted segments have a written descriptor, and segments with a written descriptor have a lent block. No two
-- segments with a lent block are in the same block.
pub record IsCounted (v : Sender) (fetched : ℕ) : Type 0 where
  pub room : length v.outstanding < v.layout.size
  pub done_fetched : v.done ≤ fetched
  pub fetched_posted : fetched ≤ v.posted
  pub posted_poked : v.posted ≤ v.poked
  pub poked_lent : v.poked ≤ v.lent
  pub lent_known : v.lent ≤ length v.outstanding
  pub apart : (i j : ℕ) → i < v.lent → j < v.lent → i ≢ j → (segment_at v i).block ≢ (segment_at v j).block

-- What memory contains. The ring's blocks are lent, and each segment with a lent block can be sent. Among the fetched
-- segments, the last segment of each packet has a done descriptor. For each segment that has a written descriptor but
-- wasn't fetched, this descriptor requests the segment's transmission.
pub record Shows (m : Memory) (v : Sender) (fetched : ℕ) : Type 0 where
  pub ring : EachRingBlock v.layout.ring v.layout.size (λ n. IsTrue (has_block m n))
  pub ready : (k : ℕ) → k < v.lent → IsReady m v.layout.ring v.layout.size (segment_at v k)
  pub done :
      (k : ℕ) → k < fetched → (segment_at v k).part.last ≡ true
      → IsDone m (descriptor_at v.layout k) (segment_at v k)
  pub waits : (k : ℕ) → fetched ≤ k → k < v.poked → IsPosted m (descriptor_at v.layout k) (segment_at v k)

-- The staged bytes, followed by the bytes of the remaining segments, form whole packets. The frames sent are the frames
-- of all accepted packets except these remaining packets.
pub record IsInTurn (limit : ℕ) (staged : List ℕ) (sent : List (List ℕ)) (left : List Segment) (accepted : List Kept) :
    Type 0 where
  pub packets : ArePackets limit staged left
  pub in_order : bytes_of accepted ≡ sent ++ frames_from staged left

-- The side was disabled during a packet, and no enable request is in effect. At least one accepted packet wasn't sent.
pub record IsCutOff (side : TransmitQueue) (sent : List (List ℕ)) (left : List Segment) (accepted : List Kept) : Type 0
  where
    pub off : IsFalse side.on
    pub unwanted : IsFalse side.wanted
    pub more : 0 < length left
    pub frame : List ℕ
    pub rest : List (List ℕ)
    pub in_order : bytes_of accepted ≡ sent ++ frame ∷ rest

-- The frames sent are a prefix of the accepted packets' frames. The segments `left` are those that remain to be
-- fetched.
abbrev pub SendsInOrder : State → ℕ → List (List ℕ) → ℕ → List Segment → List Kept → Type 0
SendsInOrder s queue sent limit left accepted =
    IsInTurn limit (staged_by s queue) sent left accepted
    ⊎ IsCutOff (transmit_queue_of s.registers queue) sent left accepted

-- The device and the driver agree, with `fetched` of the outstanding segments fetched.
pub record AgreesAt (s : State) (queue : ℕ) (sent : List (List ℕ)) (v : Sender) (fetched : ℕ) : Type 0 where
  pub based : IsBased s queue v.layout
  pub set_up : IsSetUp (transmit_queue_of s.registers queue) v.layout v.posted fetched
  pub counted : IsCounted v fetched
  pub shows : Shows s.memory v fetched
  pub sends : SendsInOrder s queue sent v.layout.limit (drop fetched v.outstanding) v.accepted

-- The device and the driver agree, with some number of fetched segments. Every event that is the driver's own or spares
-- the driver keeps this agreement.
abbrev pub Agrees : State → ℕ → List (List ℕ) → Sender → Type 0
Agrees s queue sent v = (fetched : ℕ) × AgreesAt s queue sent v fetched
