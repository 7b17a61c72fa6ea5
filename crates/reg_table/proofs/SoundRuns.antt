-- The properties of runs that the proofs need, tested for all runs at the same time.
use Rattle.std.specs.Prelude.{◌+◌, Bool, ◌&&◌, nat_lt, nat_le}
use Rattle.reg_table.specs.Run.{Run}
use Rattle.reg_table.specs.Rows.{row_of}

-- The stride is 1 to 64 bytes and the count is 1 to 1,024; all addresses are below 0x20000; all indices belong to the
-- row.
abbrev pub is_sound : Run → Bool
is_sound r =
    nat_lt 0 r.stride && nat_le r.stride 64 && nat_lt 0 r.count && nat_le r.count 1024 && nat_lt r.first 0x20000
    && nat_le (r.first_index + r.count) (row_of r.row).count && nat_le (row_of r.row).count 1024
