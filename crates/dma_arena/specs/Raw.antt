use base.Fml.{Fml}
use denote.RattleType.{RattleType}
use denote.Ref.{MutBor}
use denote.Follow.{follows}
use Rattle.core.specs.declared.alloc.Allocator.{Ghosts}
use Rattle.dma_arena.specs.declared.raw.Raw.{Raw}
use Rattle.dma_arena.specs.contracts.raw.Raw.{the_row}

-- The same allocation, with another value in it.
abbrev pub with_value : {X Z : Type 0} → Raw X Z → X → Raw X Z
with_value r w = record { at = r.at; alloc = r.alloc; value = w }

-- When the borrow `value` ends, the allocation contains the value last written through it.
abbrev pub Follows : (R Z : RattleType) (g : Ghosts Z.Denot) → MutBor (Raw R.Denot Z.Denot) → MutBor R.Denot → Fml
Follows R Z g raw value = follows (the_row R Z g) R raw.ghost_name value.ghost_name (with_value raw.now)
