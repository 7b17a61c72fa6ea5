-- What is written back for a data descriptor with RS set, and the address to which it is written.
use Rattle.std.specs.Prelude.{ℕ, Bool, ◌||◌, not, if◌then◌else◌, List, Option, Some, None, unwrap_or}
use Rattle.std.specs.Int.{w32, to_le_bytes}
use Rattle.dma_arena.specs.Memory.{Memory, is_lent, write_at}
use Rattle.dma_ring.specs.declared.ring.Ring.{Ring}
use Rattle.dma_ring.specs.Ring.{slots_of, next_of, descriptor_address}
use Rattle.dma_ring.specs.Descriptor.{first_half, second_half, of_halves}
use Rattle.dma_ring.specs.Transmit.{with_done}
use Rattle.tx_ring.specs.declared.tx.Tx.{Tx}

-- The address of the descriptor at the head (`head_address`), and the next head (`new_head`).
abbrev pub head_address : Ring → ℕ
head_address r = descriptor_address r r.head

abbrev pub new_head : Ring → ℕ
new_head r = next_of (slots_of r) r.head

-- The address of a report: the head write-back address or, if the queue has none, the descriptor's address.
abbrev pub report_address : Ring → Tx → ℕ
report_address r tx = unwrap_or tx.writeback (head_address r)

-- The descriptor with its done bit set.
abbrev pub done_descriptor : List ℕ → List ℕ
done_descriptor descriptor = of_halves (first_half descriptor) (with_done (second_half descriptor))

-- The bytes of a report: the new head as 4 bytes or, if the queue has no head write-back address, the 16 bytes of the
-- done descriptor.
abbrev pub report_bytes : Ring → Option ℕ → List ℕ → List ℕ
report_bytes r (Some address) descriptor = to_le_bytes w32 (new_head r)
report_bytes r None descriptor = done_descriptor descriptor

abbrev pub report_length : Option ℕ → ℕ
report_length (Some address) = 4
report_length None = 16

-- Whether no report is requested or the report's bytes are lent.
abbrev pub can_report : Memory → Ring → Tx → Bool → Bool
can_report m r tx report = not report || is_lent m (report_address r tx) (report_length tx.writeback)

-- The write-back address, if a report is requested.
abbrev pub back_of : Ring → Tx → Bool → Option ℕ
back_of r tx report = if report then Some (report_address r tx) else None

-- The memory after a requested report is written.
abbrev pub reported : Memory → Ring → Tx → Bool → List ℕ → Memory
reported m r tx report descriptor =
    if report then write_at m (report_address r tx) (report_bytes r tx.writeback descriptor) else m
