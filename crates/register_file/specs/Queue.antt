-- The two sides of a queue, as its registers describe them.
use Rattle.std.specs.Prelude.{ℕ, ◌+◌, ◌*◌, ◌%◌, ◌^◌, Bool, false, if◌then◌else◌}
use Rattle.reg_table.specs.declared.rows.RowId.{RowId}
use Rattle.reg_table.specs.declared.rows.RowId.TheVariants.{Rdbal, Rdbah, Rdlen, Rdh, Rdt, Rxdctl, Tdbal, Tdbah, Tdlen, Tdh, Tdt, Txdctl}
use Rattle.dma_ring.specs.declared.ring.Ring.{Ring}
use Rattle.register_file.specs.Bits.{has_bit, bit_set, bit_cleared}
use Rattle.register_file.specs.Registers.{Registers, word_of, with_word, is_wanted, with_wanted}
use Rattle.dma_ring.specs.declared.dir.Dir.{Dir}
use Rattle.dma_ring.specs.declared.dir.Dir.TheVariants.{Rx, Tx}

-- The rows of a side's ring.
abbrev pub base_low_row : Dir → RowId
base_low_row Rx = Rdbal
base_low_row Tx = Tdbal

abbrev pub base_high_row : Dir → RowId
base_high_row Rx = Rdbah
base_high_row Tx = Tdbah

abbrev pub length_row : Dir → RowId
length_row Rx = Rdlen
length_row Tx = Tdlen

abbrev pub head_row : Dir → RowId
head_row Rx = Rdh
head_row Tx = Tdh

abbrev pub tail_row : Dir → RowId
tail_row Rx = Rdt
tail_row Tx = Tdt

-- The row of a side's enable register.
abbrev pub enable_row : Dir → RowId
enable_row Rx = Rxdctl
enable_row Tx = Txdctl

-- The ring of a side: a 64-bit base, the length from bits 19 to 0, and the head and tail from bits 15 to 0.
abbrev pub ring_of : Registers → Dir → ℕ → Ring
ring_of r dir queue = record {
  base = word_of r (base_high_row dir) queue * 2 ^ 32 + word_of r (base_low_row dir) queue;
  length = word_of r (length_row dir) queue % 2 ^ 20;
  head = word_of r (head_row dir) queue % 2 ^ 16;
  tail = word_of r (tail_row dir) queue % 2 ^ 16;
}

-- A side of a queue is enabled while bit 25 of its enable register is 1.
abbrev pub is_on : Registers → Dir → ℕ → Bool
is_on r dir queue = has_bit 25 (word_of r (enable_row dir) queue)

-- The registers after a side's head moves.
abbrev pub with_head : Registers → Dir → ℕ → ℕ → Registers
with_head r dir queue head = with_word r (head_row dir) queue head

-- The registers after a side is enabled, and after it is disabled.
abbrev pub switched_on : Registers → Dir → ℕ → Registers
switched_on r dir queue = with_word r (enable_row dir) queue (bit_set 25 (word_of r (enable_row dir) queue))

abbrev pub switched_off : Registers → Dir → ℕ → Registers
switched_off r dir queue = with_word r (enable_row dir) queue (bit_cleared 25 (word_of r (enable_row dir) queue))

-- The registers after a side is enabled or disabled as requested.
abbrev pub switched : Registers → Dir → ℕ → Registers
switched r dir queue = if is_wanted r dir queue then switched_on r dir queue else switched_off r dir queue

-- The registers after a fault: the side is disabled and its enable request withdrawn.
abbrev pub shut : Registers → Dir → ℕ → Registers
shut r dir queue = with_wanted (switched_off r dir queue) dir queue false
