-- What the driver's calls preserve: its ring, the posted slots, and the location of each block.
use Rattle.std.specs.Prelude.{ℕ, ◌≡◌, ◌==◌, ◌+◌, ◌<◌, Bool, true, false, List, [], ◌∷◌, ◌++◌, length, Option, Some, None, Result, Ok, Err}
use Rattle.std.specs.List.{list_any}
use Rattle.pmd_access.specs.NicDevice.DmaArena.Numbers.{Numbers, is_free, with_free}
use Rattle.pmd_access.specs.Bufs.{numbers_of}
use Rattle.pmd_access.specs.Home.{Exchanges}
use Rattle.pmd_access.specs.Slots.{ring_blocks}
use Rattle.pmd_access.specs.declared.fault.PmdFault.{PmdFault}
use Rattle.pmd_access.specs.declared.packet.Packet.{Packet}
use Rattle.pmd_rx.specs.Receive.{Receive, Layout, extended, reach}
use Rattle.pmd_rx.specs.declared.ring.Stage.{Stage}
use Rattle.pmd_rx.specs.declared.ring.Stage.TheVariants.{Looks, Takes, Owes, Lent}

-- The block that is lent but that no descriptor names yet.
abbrev pub fresh_block : Stage → List ℕ
fresh_block Looks = []
fresh_block Takes = []
fresh_block Owes = []
fresh_block (Lent b) = b ∷ []

-- The packet's blocks, or none if there is no packet.
abbrev pub numbers_in : Option Packet → List ℕ
numbers_in None = []
numbers_in (Some p) = numbers_of p.bufs

-- The blocks of all these packets.
abbrev pub numbers_of_all : List Packet → List ℕ
numbers_of_all [] = []
numbers_of_all (p ∷ ps) = numbers_of p.bufs ++ numbers_of_all ps

-- The blocks that the driver has lent: the blocks in the ring's slots, the blocks that descriptors after the tail name,
-- a fresh block if there is one, and the blocks that the ring occupies.
abbrev pub lent_at : Layout → Stage → List ℕ
lent_at l s = l.blocks ++ (fresh_block s ++ ring_blocks l.ring l.size)

abbrev pub lent_of : Receive → List ℕ
lent_of v = lent_at (reach v) v.stage

-- Whether the driver has lent this block. This includes the blocks that the ring occupies, the blocks in its slots, the
-- blocks that descriptors after the tail name, and the fresh block.
abbrev pub has_lent : Receive → ℕ → Bool
has_lent v number = list_any (λ b. number == b) (lent_of v)

-- The blocks of the packets that the driver keeps: the complete packets, and the packet with some parts taken.
abbrev pub blocks_held : Receive → List ℕ
blocks_held v = numbers_of_all v.whole ++ numbers_of v.held.bufs

-- All blocks that the driver owns outside the arena.
abbrev pub blocks_out : Receive → List ℕ
blocks_out v = lent_of v ++ blocks_held v

-- The blocks of the packet that a call hands out.
abbrev pub handed_blocks : Result (Option Packet) PmdFault → List ℕ
handed_blocks (Ok o) = numbers_in o
handed_blocks (Err fault) = []

-- The number of vacant slots, not counting the one that is always vacant.
abbrev pub vacated : Stage → ℕ
vacated Looks = 0
vacated Takes = 0
vacated Owes = 1
vacated (Lent b) = 1

-- What each stage requires. In `Looks`, the driver has seen fewer slots than a packet may take. In `Takes`, it has seen
-- a part to take. In `Owes` and `Lent`, it holds a part.
abbrev pub IsDuring : Receive → Stage → Type 0
IsDuring v Looks = length v.seen < v.layout.most
IsDuring v Takes = 0 < length v.seen
IsDuring v Owes = 0 < length v.held.bufs
IsDuring v (Lent b) = 0 < length v.held.bufs

-- The driver has started. All slots except one contain a block, or all except two if the slot of a part that was taken
-- must still be refilled. The blocks that are named but not posted are as many as the blocks in the held and complete
-- packets, or one fewer while that slot must still be refilled.
pub record IsRunning (v : Receive) : Type 0 where
  pub part : 0 < v.layout.most
  pub some : v.layout.most < v.layout.size
  pub full : length v.layout.blocks + length v.named + vacated v.stage + 1 ≡ v.layout.size
  pub replaced : length v.named + vacated v.stage ≡ length (blocks_held v)
  pub stage : IsDuring v v.stage

-- The same ring at the same port.
pub record IsSameRing (l m : Layout) : Type 0 where
  pub port : m.port ≡ l.port
  pub tail : m.tail ≡ l.tail
  pub ring : m.ring ≡ l.ring
  pub size : m.size ≡ l.size
  pub most : m.most ≡ l.most

-- No block is lost. The blocks handed out and the blocks outside the arena afterwards are together the blocks that were
-- outside before, plus some that were free in the arena. The ring is the same, and a started driver stays started.
pub record Keeps (a : Numbers) (v : Receive) (b : Numbers) (w : Receive) (out : List ℕ) : Type 0 where
  pub arena : Exchanges a (blocks_out v) b (out ++ blocks_out w)
  pub ring : IsSameRing v.layout w.layout
  pub running : IsRunning v → IsRunning w

-- A free block from the arena was posted, and nothing else changed.
abbrev pub Posts : Numbers → Receive → Numbers → Receive → Type 0
Posts a v b w =
    (block : ℕ) × (is_free a block ≡ true) × (b ≡ with_free a block false)
    × (w ≡ record v { layout = extended v.layout (block ∷ []) })
