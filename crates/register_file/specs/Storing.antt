-- The words that a row can hold.
use Rattle.std.specs.Prelude.{ℕ, Bool}
use Rattle.intr_unit.specs.BitSet.{IsSubset}
use Rattle.intr_unit.specs.Group.{group_bits}
use Rattle.intr_unit.specs.declared.group.Group.TheVariants.{Pf, Vf}
use Rattle.reg_table.specs.declared.kind.Kind.{Kind}
use Rattle.reg_table.specs.declared.rows.RowId.{RowId}
use Rattle.reg_table.specs.declared.rows.RowId.TheVariants.{Eiac, Eiam, Pvteiac, Pvteiam}
use Rattle.register_file.specs.Behaviour.{behaviour_of}

-- Whether a row of this kind stores words as they are. False if a group's interrupts change the words, if the row
-- stores nothing and writes only have side effects, or if the row is calculated.
abbrev pub is_stored : Kind → Bool
is_stored k = (behaviour_of k).is_stored

-- The words that a row can hold: a group's auto-clear or auto-mask has only bits that the group implements. Any other
-- row can hold any word.
abbrev pub IsWordOf : RowId → ℕ → ℕ → Type 0
IsWordOf Eiac index word = IsSubset word (group_bits Pf)
IsWordOf Eiam index word = IsSubset word (group_bits Pf)
IsWordOf Pvteiac index word = IsSubset word (group_bits (Vf index))
IsWordOf Pvteiam index word = IsSubset word (group_bits (Vf index))
IsWordOf other index word = Unit {0}
