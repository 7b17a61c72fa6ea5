-- The register values that a queue's steps read.
use Rattle.std.specs.Prelude.{ℕ, ◌+◌, ◌*◌, ◌/◌, ◌%◌, ◌^◌, ◌==◌, Bool, Option, Some, None, if◌then◌else◌}
use Rattle.register_file.specs.RegTable.declared.rows.RowId.TheVariants.{Rdbal, Rdbah, Rdlen, Rdh, Rdt, Srrctl, Rxdctl, Tdbal, Tdbah, Tdlen, Tdh, Tdt, Tdwbal, Tdwbah, Txdctl}
use Rattle.register_file.specs.DmaRing.declared.ring.Ring.{Ring}
use Rattle.register_file.specs.Settings.{writeback_of}
use Rattle.register_laws.specs.Prelude.{Registers, RowId, Rx, Tx, has_bit, is_on, is_wanted, number_of, ring_of}
use Rattle.register_laws.specs.Prelude.{word_of}

-- The receive side of a queue: its ring, its control word SRRCTL, whether it is enabled, and whether it has an enable
-- request.
pub record ReceiveQueue : Type 0 where
  pub ring : Ring
  pub control : ℕ
  pub on : Bool
  pub wanted : Bool

abbrev pub receive_queue_of : Registers → ℕ → ReceiveQueue
receive_queue_of r queue =
    record {
      ring = ring_of r Rx queue;
      control = word_of r Srrctl queue;
      on = is_on r Rx queue;
      wanted = is_wanted r Rx queue;
    }

-- The transmit side of a queue: its ring, its write-back address, whether it is enabled, and whether it has an enable
-- request.
pub record TransmitQueue : Type 0 where
  pub ring : Ring
  pub writeback : Option ℕ
  pub on : Bool
  pub wanted : Bool

abbrev pub transmit_queue_of : Registers → ℕ → TransmitQueue
transmit_queue_of r queue =
    record {
      ring = ring_of r Tx queue;
      writeback = writeback_of r queue;
      on = is_on r Tx queue;
      wanted = is_wanted r Tx queue;
    }

-- A function from rows to words, with another word for one row.
abbrev pub with_row : (RowId → ℕ) → RowId → ℕ → RowId → ℕ
with_row words row word other = if number_of other == number_of row then word else words other

-- A side, given the words of its rows and whether it has an enable request.
abbrev pub receive_queue_by : (RowId → ℕ) → Bool → ReceiveQueue
receive_queue_by words wanted =
    record {
      ring = record {
        base = words Rdbah * 2 ^ 32 + words Rdbal;
        length = words Rdlen % 2 ^ 20;
        head = words Rdh % 2 ^ 16;
        tail = words Rdt % 2 ^ 16;
      };
      control = words Srrctl;
      on = has_bit 25 (words Rxdctl);
      wanted = wanted;
    }

abbrev pub transmit_queue_by : (RowId → ℕ) → Bool → TransmitQueue
transmit_queue_by words wanted =
    record {
      ring = record {
        base = words Tdbah * 2 ^ 32 + words Tdbal;
        length = words Tdlen % 2 ^ 20;
        head = words Tdh % 2 ^ 16;
        tail = words Tdt % 2 ^ 16;
      };
      writeback =
          if has_bit 0 (words Tdwbal) then Some (words Tdwbah * 2 ^ 32 + 4 * (words Tdwbal / 4)) else None;
      on = has_bit 25 (words Txdctl);
      wanted = wanted;
    }
