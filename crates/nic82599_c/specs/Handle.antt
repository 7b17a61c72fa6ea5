-- A handle owns what a box with the same value owns.
use base.Fml.{Fml, ftrue}
use denote.RattleType.{RattleType}
use denote.RawPtr.{Ptr}
use Rattle.std.specs.Box.Ownership.{box_owns}
use Rattle.std.specs.Global.{Global}
use Rattle.std.specs.Prelude.{Option, Some, None}
use Rattle.std_heap.specs.contracts.GlobalAllocator.TheImpl.{ghosts}

abbrev pub owns_box : (R : RattleType) → Global → Ptr → R.Denot → Fml
owns_box R alloc = box_owns (ghosts.dealloc_token alloc) R

-- An out-parameter owns the value to which the handle in it points, or nothing if it is empty.
abbrev pub owns_some : (R : RattleType) → Global → Ptr → Option R.Denot → Fml
owns_some R alloc ptr None = ftrue
owns_some R alloc ptr (Some x) = owns_box R alloc ptr x
