-- Register accesses, dispatched on the kind of the row.
use Rattle.std.specs.Prelude.{ℕ, Bool}
use Rattle.reg_table.specs.declared.place.Place.{Place}
use Rattle.reg_table.specs.declared.kind.Kind.{Kind}
use Rattle.register_file.specs.Behaviour.{behaviour_of}
use Rattle.register_file.specs.Registers.{Registers}
use Rattle.register_file.specs.declared.surroundings.Surroundings.{Surroundings}
pub use Rattle.register_file.specs.Effects.{calculated, group_read, group_in, in_group, is_running, asked, stored}
pub use Rattle.register_file.specs.Effects.{ones_cleared, causes_written, masks_set, causes_set, masks_cleared}

-- The value that a read of a place returns, not yet masked to the bits that the address shows; and the registers after
-- the read.
abbrev pub read_word : Kind → Registers → Surroundings → Place → ℕ
read_word k = (behaviour_of k).gives

abbrev pub after_read : Kind → Registers → Place → Registers
after_read k = (behaviour_of k).leaves

-- The registers after a write to a place through an address that shows the bits of `view`, if the write requests no
-- reset.
abbrev pub written : Kind → Registers → Place → ℕ → ℕ → Registers
written k = (behaviour_of k).written

-- Whether a write requests a reset of the device, or of the pool with the place's index, and has no other effect.
abbrev pub asks_reset : Kind → ℕ → Bool
asks_reset k = (behaviour_of k).asks_reset

abbrev pub asks_pool_reset : Kind → ℕ → Bool
asks_pool_reset k = (behaviour_of k).asks_pool_reset
