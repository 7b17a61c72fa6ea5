-- A saved copy of a card. The blocks that aren't lent are free.
use Rattle.std.specs.Prelude.{ℕ, not, map}
use Rattle.std.specs.FinMap as fin
use Rattle.std.specs.List.{range_with_len}
use Rattle.nic_device.specs.DmaArena.Memory.{Memory, has_block}
use Rattle.nic_device.specs.DmaArena.Numbers.{Numbers, all_free}
use Rattle.card.specs.Card.{Holdings}

-- This many blocks, numbered from 0. Blocks that aren't lent are free.
abbrev pub blocks_not_lent : ℕ → Memory → Numbers
blocks_not_lent count memory =
    record { first = 0; free = map (λ number. not (has_block memory number)) (range_with_len 0 count) }

-- The card as if it had a single block, which is free.
abbrev pub without_memory : Holdings → Holdings
without_memory c = record { device = record c.device { memory = fin.empty }; arena = all_free 0 1 }
