-- A burst: several packets handed out with one tail write.
use Rattle.std.specs.Prelude.{ℕ, ◌≡◌, ◌<◌, ◌≤◌, List, [], ◌++◌, length, All, Result, IfOk, OnErr}
use Rattle.pmd_access.specs.NicDevice.DmaArena.Numbers.{Numbers}
use Rattle.pmd_access.specs.declared.fault.PmdFault.{PmdFault}
use Rattle.pmd_access.specs.declared.packet.Packet.{Packet}
use Rattle.pmd_rx.specs.Keeping.{Keeps, numbers_of_all}
use Rattle.pmd_rx.specs.Receive.{Receive, records_of}

-- The packet occupies at least one `Buf`.
abbrev pub HasPart : Packet → Type 0
HasPart p = 0 < length p.bufs

-- Packets were appended to those already in `out`: as many as the result reports, at most `most`, and none after a
-- fault. Their records are kept, no block is lost, and the ring is the same ring at the same port.
pub record IsBurst (r : Result ℕ PmdFault) (most : ℕ) (a : Numbers) (v : Receive) (old : List Packet) (b : Numbers)
    (w : Receive) (new : List Packet) : Type 0 where
  pub packets : List Packet
  pub out : new ≡ old ++ packets
  pub handed : w.handed ≡ v.handed ++ records_of packets
  pub some : All HasPart packets
  pub many : IfOk r (λ n. (length packets ≡ n) × (n ≤ most))
  pub none : OnErr r (packets ≡ [])
  pub keeps : Keeps a v b w (numbers_of_all packets)
