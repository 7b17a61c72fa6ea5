use Rattle.std.specs.Prelude.{ℕ, ◌≡◌, ◌<◌, ◌⊎◌}

-- The capacity of a receive list is 0 or above 4,096 frames.
abbrev pub IsBadFifo : ℕ → Type 0
IsBadFifo fifo = (fifo ≡ 0) ⊎ (4096 < fifo)
