-- Why a start and a packet are refused before any event, and how long frames may be, in numbers.
use Rattle.std.specs.Prelude.{ℕ, ◌≡◌, ◌≢◌, ◌+◌, ◌-◌, ◌*◌, ◌/◌, ◌%◌, ◌<◌, ◌≤◌, ◌⊎◌, true, false, length, Some, None}
use Rattle.std.specs.Prelude.{Result, Ok, Err}
use Rattle.pmd_driver.specs.NicDevice.DmaArena.Numbers.{free_count}
use Rattle.pmd_driver.specs.PmdAccess.Named.{queues_named}
use Rattle.pmd_driver.specs.PmdAccess.declared.fault.PmdFault.TheVariants.{BadSize, ForeignBlock, NoBuffer}
use Rattle.pmd_driver.specs.PmdTx.Sending.{Sender}
use Rattle.pmd_driver.specs.PmdTx.Sends.{IsAnswer, gate_of, goes_home}
use Rattle.pmd_driver.specs.PmdTx.declared.answer.TxAnswer.{TxAnswer}
use Rattle.pmd_driver.specs.PmdTx.declared.answer.TxAnswer.TheVariants.{RingFull}
use Rattle.pmd_driver.specs.PmdTx.declared.answer.TxFault.{TxFault}
use Rattle.pmd_driver.specs.Started.{has_room}
use Rattle.driver_laws.specs.StartPrelude.{AtPort, DeviceFault, Numbers, Packet, is_frame, most_blocks, packet_limit}
use Rattle.driver_laws.specs.StartPrelude.{start_gate}

-- A ring size or frame limit that is refused. A ring must have 8 to 1,024 descriptors, and their number must be a
-- multiple of 8. The frame limit must be 1,518 to 9,728 bytes.
abbrev pub IsBadRing : ℕ → Type 0
IsBadRing size = (size < 8) ⊎ ((1024 < size) ⊎ (size % 8 ≢ 0))

abbrev pub IsBadFrame : ℕ → Type 0
IsBadFrame frame = (frame < 1518) ⊎ (9728 < frame)

-- Sizes in the allowed ranges.
pub record IsFitting (size frame : ℕ) : Type 0 where
  pub some : 8 ≤ size
  pub few : size ≤ 1024
  pub eights : size % 8 ≡ 0
  pub long : 1518 ≤ frame
  pub short : frame ≤ 9728

-- A start is refused for these sizes whatever else is wrong. Next, the start is refused for too few free blocks: it
-- needs one for each slot except one, and one for each 128 descriptors of both rings. Last, the start is refused for a
-- queue number that its port can't address.
pub record StartTells (a : Numbers) (q : AtPort) (size frame : ℕ) : Type 0 where
  pub ring : IsBadRing size → start_gate a q size frame ≡ Some BadSize
  pub frames : IsBadFrame frame → start_gate a q size frame ≡ Some BadSize
  pub blocks : IsFitting size frame → free_count a < size - 1 + 2 * ((size + 127) / 128) →
      start_gate a q size frame ≡ Some NoBuffer
  pub queue : IsFitting size frame → has_room a size ≡ true → queues_named q.port ≤ q.queue →
      start_gate a q size frame ≡ Some DeviceFault
  pub none : IsFitting size frame → has_room a size ≡ true → q.queue < queues_named q.port →
      start_gate a q size frame ≡ None

abbrev pub StartsHaveAnOrder : Type 0
StartsHaveAnOrder = (a : Numbers) (q : AtPort) (size frame : ℕ) → StartTells a q size frame

-- A packet length that is refused. A packet must have at least one byte, at most as many as the limit, and at most
-- 2,048 for each of its blocks.
abbrev pub IsBadLength : Sender → Packet → Type 0
IsBadLength v p = (p.len ≡ 0) ⊎ ((v.layout.limit < p.len) ⊎ (2048 * length p.bufs < p.len))

pub record IsGoodLength (v : Sender) (p : Packet) : Type 0 where
  pub some : 0 < p.len
  pub few : p.len ≤ v.layout.limit
  pub held : p.len ≤ 2048 * length p.bufs

-- A packet is refused for its length whatever else is wrong. Next, it is refused for a block that can't be returned to
-- the arena, or that another ring of the driver has. Last, the ring is full for the packet if the outstanding
-- descriptors and the packet's own would together leave no slot of the ring free.
pub record PacketMeets (v : Sender) (a : Numbers) (p : Packet) (r : Result TxAnswer TxFault) : Type 0 where
  pub size : IsBadLength v p → IsAnswer (gate_of v a false p) p r →
      r ≡ Err (record { fault = BadSize; packet = Some p })
  pub size_elsewhere : IsBadLength v p → IsAnswer (gate_of v a true p) p r →
      r ≡ Err (record { fault = BadSize; packet = Some p })
  pub foreign : IsGoodLength v p → goes_home v a p ≡ false → IsAnswer (gate_of v a false p) p r →
      r ≡ Err (record { fault = ForeignBlock; packet = Some p })
  pub elsewhere : IsGoodLength v p → IsAnswer (gate_of v a true p) p r →
      r ≡ Err (record { fault = ForeignBlock; packet = Some p })
  pub full : IsGoodLength v p → goes_home v a p ≡ true →
      v.layout.size ≤ length v.outstanding + (p.len + 2047) / 2048 → IsAnswer (gate_of v a false p) p r →
      r ≡ Ok (RingFull p)

abbrev pub PacketsHaveAnOrder : Type 0
PacketsHaveAnOrder =
    (v : Sender) (a : Numbers) (p : Packet) (r : Result TxAnswer TxFault) → PacketMeets v a p r

-- The limit on a frame's length is 1,518 to 9,728 bytes, including the 4-byte check sequence. For several limits, the
-- fields state the maximum number of bytes in a packet and of 2,048-byte blocks that it takes.
pub record FramesAre : Type 0 where
  pub shorter : is_frame 1517 ≡ false
  pub shortest : is_frame 1518 ≡ true
  pub longest : is_frame 9728 ≡ true
  pub longer : is_frame 9729 ≡ false
  pub shortest_packet : packet_limit 1518 ≡ 1514
  pub longest_packet : packet_limit 9728 ≡ 9724
  pub one_block : most_blocks 1518 ≡ 1
  pub one_whole_block : most_blocks 2052 ≡ 1
  pub two_blocks : most_blocks 2053 ≡ 2
  pub two_whole_blocks : most_blocks 4100 ≡ 2
  pub three_blocks : most_blocks 4101 ≡ 3
  pub four_whole_blocks : most_blocks 8196 ≡ 4
  pub five_blocks : most_blocks 8197 ≡ 5
  pub most : most_blocks 9728 ≡ 5
