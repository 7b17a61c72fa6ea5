-- The number of outstanding packets.
use Rattle.std.specs.Prelude.{ℕ, List}
use Rattle.std.specs.List.{count_by}
use Rattle.pmd_tx.specs.Sending.{Segment}

-- The number of these segments that end a packet.
abbrev pub packets_in : List Segment → ℕ
packets_in segments = count_by (λ (s : Segment). s.part.last) segments
