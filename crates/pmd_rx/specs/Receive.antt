-- What a driver knows about its receive ring, and how this knowledge follows from the driver's own calls.
use Rattle.std.specs.Prelude.{ℕ, ◌≡◌, ◌≢◌, ◌+◌, ◌*◌, ◌<◌, ◌==◌, ◌&&◌, Bool, false, nat_le, nat_lt, List, [], ◌∷◌, ◌++◌, ◌⊎◌, ◌≤◌, length, take, drop, map, slice_index, if◌then◌else◌, ⊤}
use Rattle.pmd_access.specs.NicDevice.DmaArena.Block.{Block}
use Rattle.pmd_access.specs.NicDevice.DmaRing.Descriptor.{second_half, first_half, of_halves}
use Rattle.pmd_access.specs.NicDevice.DmaRing.Driver.{posted, rss_in, hash_in}
use Rattle.pmd_access.specs.NicDevice.DmaRing.Ring.{next_of}
use Rattle.pmd_access.specs.NicDevice.DmaRing.Receive.{is_done, ends_packet, bytes_in}
use Rattle.pmd_access.specs.NicDevice.declared.event.Event.{Event}
use Rattle.pmd_access.specs.NicDevice.declared.event.Event.TheVariants as event
use Rattle.pmd_access.specs.NicDevice.declared.event.Port.{Port}
use Rattle.pmd_access.specs.NicDevice.declared.event.Reply.{Reply}
use Rattle.pmd_access.specs.NicDevice.declared.event.Reply.TheVariants as reply
use Rattle.pmd_access.specs.Packet.{Kept, kept_of}
use Rattle.pmd_access.specs.Slots.{wrapped, descriptor_in, is_ring_block}
use Rattle.pmd_access.specs.declared.packet.Packet.{Packet}
use Rattle.pmd_rx.specs.declared.ring.Stage.{Stage}
use Rattle.pmd_rx.specs.declared.ring.Stage.TheVariants.{Looks, Takes, Owes, Lent}
use Rattle.pmd_rx.specs.declared.ring.Reported.{Reported}

-- The ring: its port, the number of the tail register at that port, its first block, its number of slots, the maximum
-- number of slots that a packet takes, the next slot, and the blocks in the slots from there to the tail.
pub record Layout : Type 0 where
  pub port : Port
  pub tail : ℕ
  pub ring : ℕ
  pub size : ℕ
  pub most : ℕ
  pub next : ℕ
  pub blocks : List ℕ

-- The driver's state. `layout` is the ring, and `handed` lists the packets handed out. `seen` is what the descriptors
-- reported, starting at the next slot. `held` is the packet with some parts taken, and `whole` lists the complete
-- packets. `named` lists the blocks that descriptors after the tail name, and `stage` is the driver's stage. The named
-- blocks replace the blocks of the complete packets. When the tail advances, named blocks are posted and complete
-- packets are handed out.
pub record Receive : Type 0 where
  pub layout : Layout
  pub handed : List Kept
  pub seen : List Reported
  pub held : Packet
  pub whole : List Packet
  pub named : List ℕ
  pub stage : Stage

-- `slot_at`: the slot `k` positions past the next slot. `descriptor_at`: the address of this slot's descriptor.
-- `block_at`: the block in this slot.
abbrev pub slot_at : Layout → ℕ → ℕ
slot_at l k = wrapped l.size (l.next + k)

abbrev pub descriptor_at : Layout → ℕ → ℕ
descriptor_at l k = descriptor_in l.ring (slot_at l k)

abbrev pub block_at : Layout → ℕ → ℕ
block_at l k = slice_index l.blocks k

-- The position of the first vacant slot, which is at the tail, counted from the next slot.
abbrev pub vacant : Layout → ℕ
vacant l = length l.blocks

-- `extended`: the ring with these blocks added after the tail. `reach`: the ring with all blocks in its slots,
-- including the named ones.
abbrev pub extended : Layout → List ℕ → Layout
extended l bs = record l { blocks = l.blocks ++ bs }

abbrev pub reach : Receive → Layout
reach v = extended v.layout v.named

-- A packet without parts.
abbrev pub no_packet : Packet
no_packet = record { bufs = []; len = 0; rss = 0; hash = 0 }

-- The packet with one more part, which is in block `b`. The RSS type and hash are those that the last part's descriptor
-- reports.
abbrev pub joined : Packet → Block → Reported → Packet
joined p b t = record {
  bufs = p.bufs ++ b ∷ [];
  len = p.len + bytes_in t.second;
  rss = rss_in t.first;
  hash = hash_in t.first;
}

-- The two halves of a descriptor.
abbrev pub reported_by : List ℕ → Reported
reported_by d = record { first = first_half d; second = second_half d }

-- Whether a done descriptor reports a valid part of a packet, after `before` earlier parts. A valid part isn't longer
-- than a block. If the part doesn't end the packet, it fills its block, and the packet may have further parts.
abbrev pub is_part : ℕ → ℕ → ℕ → Bool
is_part most before second =
    if ends_packet second then nat_le (bytes_in second) 2048
    else (bytes_in second == 2048) && nat_lt (before + 1) most

-- The block that is lent but that no descriptor names yet; 0 if there is none.
abbrev pub fresh_of : Stage → ℕ
fresh_of Looks = 0
fresh_of Takes = 0
fresh_of Owes = 0
fresh_of (Lent b) = b

-- The descriptor that names a block.
abbrev pub naming : ℕ → List ℕ
naming block = of_halves (posted (2048 * block)) 0

-- The driver's state after each of its calls.

-- After a look: if the slot contains a part, the driver has seen this part. If the packet ends with this part, the
-- driver takes the packet's blocks next.
abbrev pub saw : Receive → List ℕ → Receive
saw v d = record v {
  seen = v.seen ++ reported_by d ∷ [];
  stage = if ends_packet (second_half d) then Takes else Looks;
}

abbrev pub looked : Receive → List ℕ → Receive
looked v d =
    if is_done (second_half d) && is_part v.layout.most (length v.seen) (second_half d) then saw v d else v

-- The next slot is consumed, and its part joins the packet being held.
abbrev pub consumed : Layout → Layout
consumed l = record l { next = next_of l.size l.next; blocks = drop 1 l.blocks }

abbrev pub took : Receive → List Reported → Block → Receive
took v [] b = v
took v (t ∷ seen) b = record v {
  layout = consumed v.layout;
  seen = seen;
  held = joined v.held b t;
  stage = Owes;
}

abbrev pub lent_one : Receive → ℕ → Receive
lent_one v b = record v { stage = Lent b }

-- `ended_of`: the packet being held, if none of its parts remains to be taken. The list is empty if no packet is held.
abbrev pub if_any : List Block → Packet → List Packet
if_any [] p = []
if_any (b ∷ bs) p = p ∷ []

abbrev pub ended_of : List Reported → Packet → List Packet
ended_of [] p = if_any p.bufs p
ended_of (t ∷ seen) p = []

-- `left_of`: the packet that is still held after a block is named. `next_stage`: the driver's stage then.
abbrev pub left_of : List Reported → Packet → Packet
left_of [] p = no_packet
left_of (t ∷ seen) p = p

abbrev pub next_stage : List Reported → Stage
next_stage [] = Looks
next_stage (t ∷ seen) = Takes

-- The first vacant slot's descriptor names the lent block. If this block replaces a packet's last part, the packet is
-- complete.
abbrev pub names : Receive → Receive
names v = record v {
  named = v.named ++ fresh_of v.stage ∷ [];
  whole = v.whole ++ ended_of v.seen v.held;
  held = left_of v.seen v.held;
  stage = next_stage v.seen;
}

-- The records of these packets.
abbrev pub records_of : List Packet → List Kept
records_of ps = map kept_of ps

-- The driver's state after the tail advances over `blocks` named blocks; the oldest `packets` complete packets are
-- handed out.
abbrev pub posts : Receive → ℕ → ℕ → Receive
posts v blocks packets = record v {
  layout = extended v.layout (take blocks v.named);
  handed = v.handed ++ records_of (take packets v.whole);
  whole = drop packets v.whole;
  named = drop blocks v.named;
}

-- The number of parts in the oldest packet.
abbrev pub parts_first : List Packet → ℕ
parts_first [] = 0
parts_first (p ∷ ps) = length p.bufs

-- The tail's value after `more` further slots are posted.
abbrev pub tail_after : Layout → ℕ → ℕ
tail_after l more = slot_at l (vacant l + more)

-- `posts_one`: the state after the tail advances over the blocks that replace the oldest complete packet. `posts_all`:
-- the state after it advances over all named blocks.
abbrev pub posts_one : Receive → Receive
posts_one v = posts v (parts_first v.whole) 1

abbrev pub posts_all : Receive → Receive
posts_all v = posts v (length v.named) (length v.whole)

-- The value written to the tail decides whether `posts_one` or `posts_all` applies.
abbrev pub moved : Receive → ℕ → Receive
moved v word = if word == tail_after v.layout (parts_first v.whole) then posts_one v else posts_all v

abbrev pub drive : Receive → Event Block → Reply Block → Receive
drive v (event.Peek16 a) (reply.Bytes d) = looked v d
drive v (event.Take n) (reply.Buf b) = took v v.seen b
drive v (event.Lend b) reply.Done = lent_one v b.number
drive v (event.Poke16 a bytes) reply.Done = names v
drive v (event.Write port number word) reply.Done = moved v word
drive v e r = v

-- The events that the driver may cause next. They depend on the driver's stage, not on the device's state.

-- A block that may be lent: it is 2,048 bytes long, the ring doesn't occupy it, and none of the ring's slots contains
-- it. The ring has a vacant slot to spare.
pub record MayLend (l : Layout) (b : Block) : Type 0 where
  pub low : b.number < 65536
  pub not_ring : is_ring_block l.ring l.size b.number ≡ false
  pub apart : (k : ℕ) → k < length l.blocks → block_at l k ≢ b.number
  pub room : length l.blocks + 1 < l.size
  pub whole : length b.bytes ≡ 2048

-- The driver may lend a fresh block to replace one that it took, or while it fills the ring and has seen no part.
abbrev pub CanLend : Stage → List Reported → Type 0
CanLend Looks seen = seen ≡ []
CanLend Takes seen = ⊥
CanLend Owes seen = ⊤
CanLend (Lent b) seen = ⊥

-- The driver has lent a block that no descriptor names yet.
abbrev pub HasLent : Stage → Type 0
HasLent Looks = ⊥
HasLent Takes = ⊥
HasLent Owes = ⊥
HasLent (Lent b) = ⊤

-- The driver looks at the slot after those it has seen.
pub record PeeksNext (v : Receive) (a : ℕ) : Type 0 where
  pub stage : v.stage ≡ Looks
  pub address : a ≡ descriptor_at v.layout (length v.seen)
  pub posted : length v.seen < length v.layout.blocks

-- The driver takes the block of the next slot, having seen its descriptor.
pub record TakesNext (v : Receive) (n : ℕ) : Type 0 where
  pub stage : v.stage ≡ Takes
  pub block : n ≡ block_at v.layout 0
  pub some : 0 < length v.seen

pub record LendsNext (v : Receive) (b : Block) : Type 0 where
  pub stage : CanLend v.stage v.seen
  pub may : MayLend (reach v) b

pub record NamesNext (v : Receive) (a : ℕ) (bytes : List ℕ) : Type 0 where
  pub stage : HasLent v.stage
  pub address : a ≡ descriptor_at v.layout (vacant (reach v))
  pub bytes_are : bytes ≡ naming (fresh_of v.stage)

-- The driver advances the tail over the blocks that replace the oldest complete packet.
pub record MovesOne (v : Receive) (word : ℕ) : Type 0 where
  pub some : 0 < length v.whole
  pub few : parts_first v.whole ≤ length v.named
  pub word_is : word ≡ tail_after v.layout (parts_first v.whole)

-- The driver advances the tail over the blocks that replace the oldest complete packet, or over all named blocks.
pub record MovesNext (v : Receive) (port : Port) (number word : ℕ) : Type 0 where
  pub some : 0 < length v.named
  pub port_is : port ≡ v.layout.port
  pub number_is : number ≡ v.layout.tail
  pub word_is : MovesOne v word ⊎ (word ≡ tail_after v.layout (length v.named))

abbrev pub IsOwn : Receive → Event Block → Type 0
IsOwn v (event.Peek16 a) = PeeksNext v a
IsOwn v (event.Take n) = TakesNext v n
IsOwn v (event.Lend b) = LendsNext v b
IsOwn v (event.Poke16 a bytes) = NamesNext v a bytes
IsOwn v (event.Write port number word) = MovesNext v port number word
IsOwn v e = ⊥

-- The driver's state when its queue is enabled: no slot is posted.
abbrev pub at_start : Port → ℕ → ℕ → ℕ → ℕ → Receive
at_start port tail ring size most = record {
  layout = record { port = port; tail = tail; ring = ring; size = size; most = most; next = 0; blocks = [] };
  handed = [];
  seen = [];
  held = no_packet;
  whole = [];
  named = [];
  stage = Looks;
}
