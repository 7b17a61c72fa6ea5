-- A driver that isn't running: its blocks are being returned to the arena.
use Rattle.std.specs.Prelude.{ℕ, ◌+◌, ◌<◌, ◌&&◌, ◌||◌, nat_lt, not, Bool, List, [], ◌++◌, length}
use Rattle.std.specs.List.{list_any}
use Rattle.pmd_access.specs.NicDevice.DmaArena.Numbers.{Numbers, is_free}
use Rattle.pmd_access.specs.NicDevice.DmaArena.Whereabouts.{times_in_hand}
use Rattle.pmd_access.specs.Bufs.{numbers_of}
use Rattle.pmd_access.specs.Home.{AreOut, Homebound}
use Rattle.pmd_access.specs.Packet.{Kept}
use Rattle.pmd_access.specs.declared.packet.Packet.{Packet}
use Rattle.pmd_rx.specs.Keeping as receive
use Rattle.pmd_rx.specs.Receive.{Receive}
use Rattle.pmd_tx.specs.Leaving as transmit
use Rattle.pmd_tx.specs.Sending.{Sender}
use Rattle.pmd_tx.specs.Sends.{are_out}

-- The state of a driver that isn't running. `held` are the blocks that it has in hand: they belong to packets that its
-- receive ring hasn't handed out yet or its transmit ring hasn't lent yet. `way` are its other blocks, which are being
-- returned. `arena` is its arena; `handed` and `accepted` are the records of the packets that it handed out and
-- accepted.
pub record Halted : Type 0 where
  pub arena : Numbers
  pub held : List ℕ
  pub way : Homebound
  pub handed : List Kept
  pub accepted : List Kept

-- All blocks that the driver has in use.
abbrev pub all_out : Halted → List ℕ
all_out h = h.way.lent ++ h.held

-- The arena owns all blocks in use. No block is in use twice, or both in use and free in the arena. The number of lost
-- blocks plus the number of lent blocks fits in 32 bits.
pub record IsHalted (h : Halted) : Type 0 where
  pub home : AreOut h.arena (all_out h)
  pub few : h.way.lost + length h.way.lent < 4294967296

-- Whether the driver has the block with this number in use.
abbrev pub is_out : Halted → ℕ → Bool
is_out h n = nat_lt 0 (times_in_hand (all_out h) n)

-- Whether a packet's blocks can be returned to the arena: the arena owns their numbers, none of them is free there, no
-- number occurs twice, and the driver has none of them in use.
abbrev pub goes_back : Halted → Packet → Bool
goes_back h p = are_out h.arena (numbers_of p.bufs) && not (list_any (λ n. is_out h n) (numbers_of p.bufs))

-- Whether a number is free in the arena or is in the list `out`.
abbrev pub is_free_or_out : Numbers → List ℕ → ℕ → Bool
is_free_or_out a out n = is_free a n || nat_lt 0 (times_in_hand out n)

-- Two lists of blocks to be returned, combined: the first list's blocks, then the second list's.
abbrev pub both_ways : Homebound → Homebound → Homebound
both_ways a b = record { lent = a.lent ++ b.lent; lost = a.lost + b.lost }

-- These blocks, to be returned, with none lost yet.
abbrev pub way_of : List ℕ → Homebound
way_of lent = record { lent = lent; lost = 0 }

-- A driver with the two rings of one queue.
abbrev pub with_rings : Numbers → Receive → Sender → Halted
with_rings a v w = record {
  arena = a;
  held = receive.blocks_held v ++ transmit.waiting_of w;
  way = both_ways (way_of (receive.lent_of v)) (way_of (transmit.lent_of w));
  handed = v.handed;
  accepted = w.accepted;
}

-- A driver with a receive ring and some blocks of a transmit ring that doesn't exist yet.
abbrev pub with_receive_ring : Numbers → Receive → List ℕ → Halted
with_receive_ring a v out = record {
  arena = a;
  held = receive.blocks_held v ++ [];
  way = both_ways (way_of (receive.lent_of v)) (way_of out);
  handed = v.handed;
  accepted = [];
}

-- A driver without rings, with some blocks of its receive ring.
abbrev pub with_blocks : Numbers → List ℕ → Halted
with_blocks a out = record {
  arena = a;
  held = [];
  way = both_ways (way_of out) (way_of []);
  handed = [];
  accepted = [];
}
