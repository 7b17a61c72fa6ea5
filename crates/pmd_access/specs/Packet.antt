-- What a driver records about packets in hand.
use Rattle.std.specs.Prelude.{ℕ, List, take}
use Rattle.pmd_access.specs.Bufs.{bytes_of}
use Rattle.pmd_access.specs.declared.packet.Packet.{Packet}

-- A packet that was received or accepted: its bytes, and the RSS type and hash that its descriptor reported.
pub record Kept : Type 0 where
  pub bytes : List ℕ
  pub rss : ℕ
  pub hash : ℕ

-- The record of a packet. Its bytes are the first `len` bytes of its blocks.
abbrev pub kept_of : Packet → Kept
kept_of p = record { bytes = take p.len (bytes_of p.bufs); rss = p.rss; hash = p.hash }
