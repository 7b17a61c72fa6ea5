-- Zero-padding a packet to 60 bytes.
use Rattle.std.specs.Prelude.{ℕ, ◌-◌, nat_lt, List, [], ◌∷◌, take, replicate, if◌then◌else◌}
use Rattle.pmd_access.specs.NicDevice.DmaArena.Block.{Block}
use Rattle.pmd_access.specs.NicDevice.DmaArena.Memory.{put_bytes}
use Rattle.pmd_access.specs.declared.packet.Packet.{Packet}

-- The blocks with these bytes written into the first one, starting at its byte `at`.
abbrev pub with_first : List Block → ℕ → List ℕ → List Block
with_first [] at bytes = []
with_first (b ∷ blocks) at bytes = record { number = b.number; bytes = put_bytes b.bytes at bytes } ∷ blocks

-- The packet after padding, in the same blocks.
abbrev pub padded_packet : Packet → Packet
padded_packet p =
    if nat_lt p.len 60 then record p { bufs = with_first p.bufs p.len (replicate (60 - p.len) 0); len = 60 } else p

-- If the length is below 60, the packet with these first bytes and this length; otherwise the packet unchanged.
abbrev pub unpadded : Packet → ℕ → List ℕ → Packet
unpadded p len start = if nat_lt len 60 then record p { bufs = with_first p.bufs 0 start; len = len } else p

-- The bytes of the first block that padding may overwrite.
abbrev pub first_bytes : List Block → List ℕ
first_bytes [] = []
first_bytes (b ∷ blocks) = take 60 b.bytes
