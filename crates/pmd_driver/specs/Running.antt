-- A driver with both rings up.
use Rattle.std.specs.Prelude.{◌≡◌, ℕ, ◌<◌, ◌&&◌, nat_lt, not, Bool, List, ◌++◌}
use Rattle.std.specs.List.{list_any}
use Rattle.pmd_access.specs.NicDevice.DmaArena.Numbers.{Numbers}
use Rattle.pmd_access.specs.NicDevice.DmaArena.Whereabouts.{times_in_hand}
use Rattle.pmd_access.specs.Bufs.{numbers_of, with_all_free}
use Rattle.pmd_access.specs.Home.{AreOut}
use Rattle.pmd_access.specs.Slots.{ring_blocks}
use Rattle.pmd_access.specs.declared.packet.Packet.{Packet}
use Rattle.pmd_rx.specs.Receive.{Receive}
use Rattle.pmd_rx.specs.Keeping.{blocks_out, IsRunning}
use Rattle.pmd_tx.specs.Sending.{Sender, blocks_of}
use Rattle.pmd_tx.specs.Sends.{goes_home}

-- The driver's arena and its two rings.
pub record Running : Type 0 where
  pub arena : Numbers
  pub receive : Receive
  pub transmit : Sender

-- All blocks that the transmit ring keeps: the blocks of outstanding segments, lent or in hand, and the blocks that the
-- ring occupies.
abbrev pub kept_out : Sender → List ℕ
kept_out v = blocks_of v.outstanding ++ ring_blocks v.layout.ring v.layout.size

-- All blocks that the driver has in use.
abbrev pub rings_out : Running → List ℕ
rings_out r = blocks_out r.receive ++ kept_out r.transmit

-- The arena owns all blocks in use. No block is in use twice, or both in use and free in the arena. The receive ring is
-- filled, and the transmit ring has at least one slot.
pub record IsUp (r : Running) : Type 0 where
  pub home : AreOut r.arena (rings_out r)
  pub filled : IsRunning r.receive
  pub some : 0 < r.transmit.layout.size

-- Whether the receive ring has one of the packet's blocks in use.
abbrev pub receives : Running → Packet → Bool
receives r p = list_any (λ n. nat_lt 0 (times_in_hand (blocks_out r.receive) n)) (numbers_of p.bufs)

-- Whether a packet's blocks can be returned to the arena: the transmit ring permits this, and the receive ring has none
-- of these blocks in use.
abbrev pub goes_back : Running → Packet → Bool
goes_back r p = goes_home r.transmit r.arena p && not (receives r p)

-- The packet's blocks are free in the arena again, and nothing else changed.
abbrev pub IsReleased : Running → Packet → Running → Type 0
IsReleased r p s = s ≡ record r { arena = with_all_free r.arena (numbers_of p.bufs) }
