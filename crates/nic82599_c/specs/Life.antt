-- Why creating a card is refused.
use Rattle.std.specs.Prelude.{ℕ, ◌==◌, ◌||◌, nat_lt, if◌then◌else◌}

-- The status for no blocks or more than 65,536; for more than 63 virtual functions; or for a receive list of no frames
-- or more than 4,096.
abbrev pub new_status : ℕ → ℕ → ℕ → ℕ
new_status vfs fifo blocks =
    if blocks == 0 || nat_lt 65536 blocks then 36 else
    if nat_lt 63 vfs then 34 else
    if fifo == 0 || nat_lt 4096 fifo then 35 else 0
