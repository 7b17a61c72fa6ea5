-- Statistics counters.
use Rattle.std.specs.Prelude.{ℕ, ◌+◌, ◌*◌, ◌/◌, ◌%◌, ◌^◌}
use Rattle.reg_table.specs.Counter.{bumped}
use Rattle.reg_table.specs.declared.rows.RowId.{RowId}
use Rattle.reg_table.specs.declared.rows.RowId.TheVariants.{Rqsmr, Tqsm}
use Rattle.register_file.specs.Registers.{Registers, word_of, with_word}
use Rattle.dma_ring.specs.declared.dir.Dir.{Dir}
use Rattle.dma_ring.specs.declared.dir.Dir.TheVariants.{Rx, Tx}

-- The registers after a counter, the register of a row at an index, is incremented. It saturates at 0xFFFFFFFF.
abbrev pub counted : Registers → RowId → ℕ → Registers
counted r row index = with_word r row index (bumped (word_of r row index))

-- The registers after a counter that wraps to 0 is incremented.
abbrev pub counted_wrapping : Registers → RowId → ℕ → Registers
counted_wrapping r row index = with_word r row index ((word_of r row index + 1) % 2 ^ 32)

-- The row that maps queues to counters, four queues per word.
abbrev pub mapping_row : Dir → RowId
mapping_row Rx = Rqsmr
mapping_row Tx = Tqsm

-- The number, 0 to 15, of the counter that is assigned to a side of a queue.
abbrev pub counter_of : Registers → Dir → ℕ → ℕ
counter_of r dir queue = word_of r (mapping_row dir) (queue / 4) / 2 ^ (8 * (queue % 4)) % 16
