-- The receive ring as the driver's code keeps it.
use Rattle.std.specs.Prelude.{ℕ, ◌≡◌, ◌+◌, ◌*◌, ◌<◌, ◌≤◌, List, Bool, true, false, IsFalse, Option, IfSome, length, drop, All, ⊤, [], ◌∷◌, ◌++◌}
use Rattle.pmd_access.specs.NicDevice.DmaArena.Numbers.{Numbers, free_count}
use Rattle.pmd_access.specs.NicDevice.DmaRing.Descriptor.{second_half}
use Rattle.pmd_access.specs.NicDevice.DmaRing.Receive.{is_done, bytes_in}
use Rattle.pmd_access.specs.NicDevice.declared.event.Event.TheVariants as event
use Rattle.pmd_access.specs.NicDevice.declared.event.Reply.TheVariants as reply
use Rattle.pmd_access.specs.Bufs.{numbers_of}
use Rattle.pmd_access.specs.Accesses.{IsPeeked, IsPoked, IsWritten}
use Rattle.pmd_access.specs.Slots.{blocks_for}
use Rattle.pmd_access.specs.Made.{Adds, AddsSome}
use Rattle.pmd_access.specs.declared.fault.PmdFault.{PmdFault}
use Rattle.pmd_access.specs.declared.fault.PmdFault.TheVariants as fault
use Rattle.pmd_access.specs.DeviceLock.declared.entry.Call.{Call}
use Rattle.pmd_access.specs.declared.packet.Packet.{Packet}
use Rattle.pmd_access.specs.Packet.{Kept, kept_of}
use Rattle.pmd_rx.specs.Burst.{HasPart}
use Rattle.pmd_rx.specs.Receive.{Receive, descriptor_at, tail_after, vacant, reach, naming, fresh_of, Layout, no_packet, is_part, records_of, lent_one, names, saw}
use Rattle.pmd_rx.specs.Keeping.{Keeps, vacated, numbers_of_all}
use Rattle.pmd_rx.specs.Wrong.{PacketWaits, wanted}
use Rattle.pmd_rx.specs.declared.receive.Look.{Look}
use Rattle.pmd_rx.specs.declared.receive.Look.TheVariants as look
use Rattle.pmd_rx.specs.declared.ring.Stage.{Stage}
use Rattle.pmd_rx.specs.declared.ring.Stage.TheVariants.{Looks, Takes, Owes, Lent}
use Rattle.pmd_rx.specs.declared.ring.Reported.{Reported}

-- A ring of 8 to 1,024 slots, in consecutive blocks of bus memory.
pub record IsLaidOut (l : Layout) : Type 0 where
  pub some : 8 ≤ l.size
  pub few : l.size ≤ 1024
  pub one_part : 1 ≤ l.most
  pub few_parts : l.most ≤ 5
  pub next : l.next < l.size
  pub ring : l.ring + blocks_for l.size ≤ 65536
  pub room : length l.blocks < l.size

-- What each stage requires. In `Looks`, the driver holds no packet and has seen fewer slots than a packet may take. In
-- `Takes`, it has seen a part to take. In `Lent`, the ring has a slot for the block, and one more slot stays vacant.
abbrev pub StandsAt : Stage → Layout → List Reported → Packet → Type 0
StandsAt Looks l seen held = (held ≡ no_packet) × (length seen < l.most)
StandsAt Takes l seen held = 0 < length seen
StandsAt Owes l seen held = ⊤
StandsAt (Lent b) l seen held = (length l.blocks + 1 < l.size) × (b < 65536)

-- A part isn't longer than a block.
abbrev pub FitsBlock : Reported → Type 0
FitsBlock t = bytes_in t.second ≤ 2048

-- The parts held and the parts seen are together at most as many as a packet may have. The seen parts are in posted
-- slots, which come first among the slots that contain a block. Every complete packet has at least one part. For each
-- part of a complete packet and each held part, a block is named after the posted blocks; one of these blocks may still
-- be owed.
pub record IsInStep (l : Layout) (posted : ℕ) (seen : List Reported) (held : Packet) (whole : List Packet) (s : Stage)
    : Type 0 where
  pub stage : StandsAt s l seen held
  pub few : length held.bufs + length seen ≤ l.most
  pub bytes : held.len ≤ 2048 * length held.bufs
  pub parts : All FitsBlock seen
  pub within : length seen ≤ posted
  pub some : All HasPart whole
  pub replaced : posted + length (numbers_of_all whole) ≤ length l.blocks
  pub taken : posted + (length (numbers_of_all whole) + length held.bufs) ≤ length l.blocks + vacated s

-- The first `handed` records belong to packets handed out; the remaining records belong to the complete packets.
pub record AreRecords (handed : ℕ) (records : List Kept) (whole : List Packet) : Type 0 where
  pub few : handed ≤ length records
  pub after : drop handed records ≡ records_of whole

-- The ring with all blocks in its slots, the number of posted slots, and the other fields of the driver are consistent.
abbrev pub IsSteady : Layout → ℕ → List Reported → Packet → List Packet → Stage → Type 0
IsSteady l posted seen held whole s = IsLaidOut l × IsInStep l posted seen held whole s

-- The first vacant slot's descriptor was written and names the lent block, or (`known` is false) the ring isn't lent.
abbrev pub IsNamed : List Call → List Call → Receive → Bool → Type 0
IsNamed old new v known = IsPoked old new (descriptor_at v.layout (vacant (reach v))) (naming (fresh_of v.stage)) known

-- Why the block isn't named: the ring isn't lent (`DeviceFault`), or a call was refused (`Call`).
abbrev pub IsUnnamed : PmdFault → List Call → List Call → Receive → Type 0
IsUnnamed fault.DeviceFault old new v = IsNamed old new v false
IsUnnamed (fault.Call refusal) old new v = AddsSome old new
IsUnnamed fault.BadSize old new v = ⊥
IsUnnamed fault.ForeignBlock old new v = ⊥
IsUnnamed fault.StartTimeout old new v = ⊥
IsUnnamed fault.NoBuffer old new v = ⊥

-- The receive ring's tail advanced by `more` slots, or (`known` is false) the port has no register with its number.
abbrev pub IsTailWritten : List Call → List Call → Layout → ℕ → Bool → Type 0
IsTailWritten old new l more known = IsWritten old new l.port l.tail (tail_after l more) known

-- Why the tail isn't written: the port has no register with its number (`DeviceFault`), or a call was refused (`Call`).
abbrev pub IsUnwritten : PmdFault → List Call → List Call → Layout → ℕ → Type 0
IsUnwritten fault.DeviceFault old new l more = IsTailWritten old new l more false
IsUnwritten (fault.Call refusal) old new l more = AddsSome old new
IsUnwritten fault.BadSize old new l more = ⊥
IsUnwritten fault.ForeignBlock old new l more = ⊥
IsUnwritten fault.StartTimeout old new l more = ⊥
IsUnwritten fault.NoBuffer old new l more = ⊥

-- A look found that its slot isn't done.
pub record LooksOnce (old : List Call) (v : Receive) (new : List Call) (w : Receive) : Type 0 where
  pub bytes : List ℕ
  pub made : Adds old new (event.Peek16 (descriptor_at v.layout (length v.seen))) (reply.Bytes bytes)
  pub waits : IsFalse (is_done (second_half bytes))
  pub left : w ≡ v

-- A look found a part.
pub record LooksAtPart (old : List Call) (v : Receive) (new : List Call) (w : Receive) : Type 0 where
  pub bytes : List ℕ
  pub made : Adds old new (event.Peek16 (descriptor_at v.layout (length v.seen))) (reply.Bytes bytes)
  pub done : is_done (second_half bytes) ≡ true
  pub part : is_part v.layout.most (length v.seen) (second_half bytes) ≡ true
  pub left : w ≡ saw v bytes

-- A look found a state that is impossible in a healthy queue.
pub record LooksAtWrong (old : List Call) (v : Receive) (new : List Call) (w : Receive) : Type 0 where
  pub bytes : Option (List ℕ)
  pub made : IsPeeked old new (descriptor_at v.layout (length v.seen)) bytes
  pub wrong : IfSome bytes (λ d. (is_done (second_half d) ≡ true)
      × IsFalse (is_part v.layout.most (length v.seen) (second_half d)))
  pub left : w ≡ v

abbrev pub IsLook : Look → List Call → Receive → List Call → Receive → Type 0
IsLook look.Nothing old v new w = LooksOnce old v new w
IsLook look.Part old v new w = LooksAtPart old v new w
IsLook look.Wrong old v new w = LooksAtWrong old v new w

-- A call was refused.
abbrev pub IsRefused : PmdFault → List Call → List Call → Type 0
IsRefused (fault.Call refusal) old new = AddsSome old new
IsRefused fault.DeviceFault old new = ⊥
IsRefused fault.BadSize old new = ⊥
IsRefused fault.ForeignBlock old new = ⊥
IsRefused fault.StartTimeout old new = ⊥
IsRefused fault.NoBuffer old new = ⊥

-- The number of fresh blocks that must still be named before the packet is complete.
abbrev pub rounds : Receive → ℕ
rounds v = length v.seen + vacated v.stage

-- The waiting packet is now complete.
abbrev pub OneMore : Receive → Receive → Type 0
OneMore v w = (p : Packet) × (w.whole ≡ v.whole ++ p ∷ [])

-- The packet is still waiting. If enough blocks were free to complete it before, enough are still free.
pub record WaitsStill (a : Numbers) (v : Receive) (b : Numbers) (w : Receive) : Type 0 where
  pub stage : PacketWaits w.stage
  pub whole : w.whole ≡ v.whole
  pub free : wanted v ≤ free_count a → wanted w ≤ free_count b

-- One part of the packet was taken, and a fresh block was named in its place. The packet is still waiting, or it is
-- complete.
pub record IsOneLess (a : Numbers) (v : Receive) (b : Numbers) (w : Receive) : Type 0 where
  pub rounds_are : rounds w + 1 ≡ rounds v
  pub waits : 0 < rounds w → WaitsStill a v b w
  pub more : rounds w ≡ 0 → OneMore v w

-- A fresh block was lent and then named in the first vacant slot.
abbrev pub refilled : Receive → ℕ → Receive
refilled v n = names (lent_one v n)

-- The oldest complete packet was handed out: its record is kept, and no block is lost.
pub record HandsOne (v w : Receive) (p : Packet) : Type 0 where
  pub handed : w.handed ≡ v.handed ++ kept_of p ∷ []
  pub some : HasPart p
  pub keeps : (a : Numbers) → Keeps a v a w (numbers_of p.bufs)

-- All complete packets were handed out: their records are kept, and no block is lost.
pub record HandsAll (v w : Receive) : Type 0 where
  pub handed : w.handed ≡ v.handed ++ records_of v.whole
  pub some : All HasPart v.whole
  pub keeps : (a : Numbers) → Keeps a v a w (numbers_of_all v.whole)
