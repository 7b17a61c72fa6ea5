-- Tasks in their cells, and the tasks' results.
use Rattle.std.specs.Prelude.{ℕ, List, Bool, true, false, ◌<◌, length, slice_index_or}
use Rattle.pmd.specs.declared.cell.TaskCell.{TaskCell}
use Rattle.pmd.specs.declared.cell.TaskCell.TheVariants.{Waits, Ended, Empty}

module _ {T E : Type 0} where
  -- Whether the cell contains a task that hasn't run yet.
  abbrev pub waits : TaskCell T E → Bool
  waits (Waits task) = true
  waits (Ended end) = false
  waits Empty = false

  -- The cell contains a result with property `P`.
  abbrev pub HasEnd : (E → Type 0) → TaskCell T E → Type 0
  HasEnd P (Waits task) = ⊥
  HasEnd P (Ended end) = P end
  HasEnd P Empty = ⊥

  -- The cell contained a task, and now contains a result that this task may have.
  abbrev pub IsEnded : (T → E → Type 0) → TaskCell T E → TaskCell T E → Type 0
  IsEnded ends (Waits task) after = HasEnd (ends task) after
  IsEnded ends (Ended end) after = ⊥
  IsEnded ends Empty after = ⊥

  -- Each cell contained a task, and now contains a result that this task may have.
  abbrev pub EachEnded : (T → E → Type 0) → List (TaskCell T E) → List (TaskCell T E) → Type 0
  EachEnded ends before after = (i : ℕ) (s : TaskCell T E) → i < length before
      → IsEnded ends (slice_index_or before i s) (slice_index_or after i s)
