-- Packets made from free blocks, filled with zeros.
use Rattle.std.specs.Prelude.{◌≡◌, ℕ, ◌+◌, ◌/◌, max, List, length, map, Option, Some, None}
use Rattle.device_lock.specs.NicDevice.DmaArena.Block.{Block, zero_block}
use Rattle.device_lock.specs.NicDevice.DmaArena.Numbers.{Numbers}
use Rattle.pmd_access.specs.Bufs.{numbers_of}
use Rattle.pmd_access.specs.Home.{IsDrawn}
use Rattle.pmd_access.specs.declared.packet.Packet.{Packet}

-- The number of Bufs that a packet of `len` bytes needs: at least one.
abbrev pub bufs_for : ℕ → ℕ
bufs_for len = max 1 ((len + 2047) / 2048)

-- These `count` blocks were taken from the arena. Each block was free before, and every byte in it is 0.
pub record IsDrawnAs (count : ℕ) (a : Numbers) (bs : List Block) (b : Numbers) : Type 0 where
  pub drawn : IsDrawn a (numbers_of bs) b
  pub count_is : length bs ≡ count
  pub zero : bs ≡ map zero_block (numbers_of bs)

-- A packet of `len` zero bytes, with RSS type and hash 0, was made from free blocks. If there is no packet, the arena
-- is unchanged.
abbrev pub IsFresh : Numbers → ℕ → Option Packet → Numbers → Type 0
IsFresh a len None b = b ≡ a
IsFresh a len (Some p) b =
    IsDrawnAs (bufs_for len) a p.bufs b × (p ≡ record { bufs = p.bufs; len = len; rss = 0; hash = 0 })
