-- Packets made from bytes.
use Rattle.std.specs.Prelude.{ℕ, ◌≡◌, ◌-◌, ◌*◌, ◌++◌, List, length, replicate, Option, Some, None}
use Rattle.pmd_access.specs.NicDevice.DmaArena.Numbers.{Numbers}
use Rattle.pmd_access.specs.Bufs.{bytes_of, numbers_of}
use Rattle.pmd_access.specs.Fresh.{bufs_for}
use Rattle.pmd_access.specs.Home.{IsDrawn}
use Rattle.pmd_access.specs.declared.packet.Packet.{Packet}

-- A packet of exactly these bytes was made in free blocks of the arena. Every later byte in the blocks is 0.
pub record IsFilled (a : Numbers) (bytes : List ℕ) (p : Packet) (b : Numbers) : Type 0 where
  pub drawn : IsDrawn a (numbers_of p.bufs) b
  pub count_is : length p.bufs ≡ bufs_for (length bytes)
  pub bytes_are : bytes_of p.bufs ≡ bytes ++ replicate (2048 * length p.bufs - length bytes) 0
  pub rest : p ≡ record { bufs = p.bufs; len = length bytes; rss = 0; hash = 0 }

-- A packet of exactly these bytes was made in free blocks of the arena, and every later byte in the blocks is 0. If no
-- packet was made, nothing was taken.
abbrev pub IsMadeOf : Numbers → List ℕ → Option Packet → Numbers → Type 0
IsMadeOf a bytes None b = b ≡ a
IsMadeOf a bytes (Some p) b = IsFilled a bytes p b
