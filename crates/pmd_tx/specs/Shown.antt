-- The driver's transmit ring as its code keeps it.
use Rattle.std.specs.Prelude.{ℕ, ◌≡◌, ◌+◌, ◌-◌, ◌*◌, ◌<◌, ◌≤◌, ◌==◌, ⊤, true, false, List, [], ◌∷◌, ◌++◌, length, take, drop, All, Option, Some}
use Rattle.std.specs.List.{list_any}
use Rattle.pmd_access.specs.NicDevice.DmaArena.Block.{Block, IsBlock}
use Rattle.pmd_access.specs.Accesses.{IsLent}
use Rattle.pmd_access.specs.Bufs.{numbers_of}
use Rattle.pmd_access.specs.DeviceLock.declared.entry.Call.{Call}
use Rattle.pmd_access.specs.Made.{AddsSome}
use Rattle.pmd_access.specs.Packet.{Kept, kept_of}
use Rattle.pmd_access.specs.Slots.{blocks_for, is_ring_block}
use Rattle.pmd_access.specs.declared.fault.PmdFault.{PmdFault}
use Rattle.pmd_access.specs.declared.fault.PmdFault.TheVariants as fault
use Rattle.pmd_access.specs.declared.packet.Packet.{Packet}
use Rattle.pmd_tx.specs.Sending.{Sender, Layout, Outgoing, Part, Segment, keeps, paired, parts_for, parts_of}
use Rattle.pmd_tx.specs.Pieces.{ends_packet, places_of}
use Rattle.pmd_tx.specs.declared.piece.Piece.{Piece}

-- The parts of these packets, and the last `count` of them.
abbrev pub all_parts : List Kept → List Part
all_parts [] = []
all_parts (k ∷ kept) = parts_of k.bytes ++ all_parts kept

abbrev pub latest : ℕ → List Kept → List Part
latest count kept = drop (length (all_parts kept) - count) (all_parts kept)

-- The number of parts of the newest packet, and the bytes of part number `left` from its end, where 1 is the last part.
abbrev pub newest_parts : List Kept → ℕ
newest_parts [] = 0
newest_parts (k ∷ []) = parts_for (length k.bytes)
newest_parts (k ∷ l ∷ kept) = newest_parts (l ∷ kept)

abbrev pub newest_part : List Kept → ℕ → List ℕ
newest_part [] left = []
newest_part (k ∷ []) left = take 2048 (drop (2048 * (parts_for (length k.bytes) - left)) k.bytes)
newest_part (k ∷ l ∷ kept) left = newest_part (l ∷ kept) left

-- The outstanding segments: these blocks contain the latest parts of the accepted packets.
unfoldable pub outstanding_of : List Piece → List Kept → List Segment
outstanding_of pieces accepted = paired (places_of pieces) (latest (length pieces) accepted)

-- A piece agrees with a part on the part's length, on the packet's length, and on whether the part is the last.
pub record Tells (p : Piece) (q : Part) : Type 0 where
  pub len : p.len ≡ length q.bytes
  pub whole : p.whole ≡ q.whole
  pub last : p.last ≡ q.last

abbrev pub AllTell : List Piece → List Part → Type 0
AllTell [] [] = ⊤
AllTell [] (q ∷ parts) = ⊥
AllTell (p ∷ pieces) [] = ⊥
AllTell (p ∷ pieces) (q ∷ parts) = Tells p q × AllTell pieces parts

-- A block in hand starts with the bytes of a segment.
pub record Holds (s : Segment) (b : Block) : Type 0 where
  pub number : b.number ≡ s.block
  pub bytes : take (length s.part.bytes) b.bytes ≡ s.part.bytes

abbrev pub AllHold : List Segment → List Block → Type 0
AllHold [] [] = ⊤
AllHold [] (b ∷ blocks) = ⊥
AllHold (s ∷ segments) [] = ⊥
AllHold (s ∷ segments) (b ∷ blocks) = Holds s b × AllHold segments blocks

-- These blocks all differ.
abbrev pub AreDistinct : List ℕ → Type 0
AreDistinct [] = ⊤
AreDistinct (b ∷ blocks) = (list_any (λ n. b == n) blocks ≡ false) × AreDistinct blocks

-- A ring of at most 1,024 slots, in consecutive blocks of bus memory, and the progress of its pieces. The blocks that
-- aren't lent yet are in hand.
pub record IsRing (l : Layout) (pieces : List Piece) (waiting : List Block) (lent poked posted done : ℕ)
    (accepted : List Kept) : Type 0 where
  pub some : 0 < l.size
  pub few : l.size ≤ 1024
  pub next : l.next < l.size
  pub ring : l.ring + blocks_for l.size ≤ 65536
  pub least : 60 ≤ l.limit
  pub limit : l.limit ≤ 10240
  pub room : length pieces < l.size
  pub done_posted : done ≤ posted
  pub posted_poked : posted ≤ poked
  pub poked_lent : poked ≤ lent
  pub lent_known : lent ≤ length pieces
  pub tells : AllTell pieces (latest (length pieces) accepted)
  pub newest : length pieces ≤ lent + newest_parts accepted
  pub held : AllHold (drop lent (outstanding_of pieces accepted)) waiting
  pub ends : ends_packet pieces ≡ true
  pub short : All (λ (p : Piece). p.whole ≤ l.limit) pieces
  pub kept : All (λ (k : Kept). length k.bytes ≤ 10240) accepted
  pub beside : All (λ (p : Piece). is_ring_block l.ring l.size p.block ≡ false) pieces
  pub apart : AreDistinct (places_of pieces)

-- The accepted packet that results when the first block of this packet is lent.
abbrev pub sent_as : Packet → Outgoing
sent_as p = record { blocks = take (parts_for p.len) (numbers_of p.bufs); kept = kept_of p }

-- A packet with blocks that may be lent: all differ, and the ring keeps none of them.
pub record AreLoose (v : Sender) (p : Packet) : Type 0 where
  pub whole : All IsBlock p.bufs
  pub apart : AreDistinct (numbers_of p.bufs)
  pub away : All (λ (n : ℕ). keeps v n ≡ false) (numbers_of p.bufs)

-- A padded packet that may be accepted.
pub record MayStart (v : Sender) (p : Packet) : Type 0 where
  pub long : 60 ≤ p.len
  pub short : p.len ≤ v.layout.limit
  pub held : p.len ≤ 2048 * length p.bufs
  pub room : length v.outstanding + parts_for p.len < v.layout.size
  pub lent : v.lent ≡ length v.outstanding
  pub asked : v.poked ≡ length v.outstanding
  pub loose : AreLoose v p

-- A packet that may be sent, before padding.
pub record MaySend (v : Sender) (p : Packet) : Type 0 where
  pub some : 0 < p.len
  pub short : p.len ≤ v.layout.limit
  pub held : p.len ≤ 2048 * length p.bufs
  pub room : length v.outstanding + parts_for p.len < v.layout.size
  pub loose : AreLoose v p

-- The first of these blocks was lent, or a block with its number was already lent.
abbrev pub LendsFirst : List Call → List Call → List Block → Option Block → Type 0
LendsFirst old new [] twice = ⊥
LendsFirst old new (b ∷ blocks) twice = IsLent old new b twice

-- No block was lent: a block with the first block's number was already lent (`DeviceFault`), or the call was refused
-- and the packet is returned (`Call`).
abbrev pub IsUnlent : PmdFault → List Call → List Call → Packet → Packet → Type 0
IsUnlent fault.DeviceFault old new given back =
    (twice : Block) × LendsFirst old new given.bufs (Some twice) × (numbers_of back.bufs ≡ numbers_of given.bufs)
IsUnlent (fault.Call f) old new given back = AddsSome old new × (back ≡ given)
IsUnlent other old new given back = ⊥
