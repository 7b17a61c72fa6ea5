-- The interrupts of a group, as its registers hold them.
use Rattle.std.specs.Prelude.{ℕ, ◌+◌, ◌*◌, ◌/◌, ◌%◌, ◌^◌, Bool, false, Option, is_some, slice_index, slice_set, if◌then◌else◌}
use Rattle.reg_table.specs.declared.rows.RowId.{RowId}
use Rattle.reg_table.specs.declared.rows.RowId.TheVariants.{Eicr, Eims, Eiac, Eiam, Gpie, Ivar, IvarMisc, Pvtivar, Pvteicr, Pvteims, Pvteiac, Pvteiam}
use Rattle.intr_unit.specs.Group.{auto_mask_acts, queue_causes}
use Rattle.intr_unit.specs.Interrupts.{Interrupts, of_words, raised, next_vector, after_message}
use Rattle.intr_unit.specs.declared.group.Group.{Group}
use Rattle.intr_unit.specs.declared.group.Group.TheVariants.{Pf, Vf}
use Rattle.register_file.specs.Bits.{has_bit}
use Rattle.register_file.specs.Registers.{Registers, word_of, with_word}
use Rattle.dma_ring.specs.declared.dir.Dir.{Dir}
use Rattle.dma_ring.specs.declared.dir.Dir.TheVariants.{Rx, Tx}

-- The rows of a group's registers, and the group's index in these rows.
abbrev pub cause_row : Group → RowId
cause_row Pf = Eicr
cause_row (Vf v) = Pvteicr

abbrev pub mask_row : Group → RowId
mask_row Pf = Eims
mask_row (Vf v) = Pvteims

abbrev pub auto_clear_row : Group → RowId
auto_clear_row Pf = Eiac
auto_clear_row (Vf v) = Pvteiac

abbrev pub auto_mask_row : Group → RowId
auto_mask_row Pf = Eiam
auto_mask_row (Vf v) = Pvteiam

abbrev pub index_of : Group → ℕ
index_of Pf = 0
index_of (Vf v) = v

-- The bits of a group that messages have reported, and the registers with these bits replaced.
abbrev pub reported_by : Registers → Group → ℕ
reported_by r Pf = r.reported_pf
reported_by r (Vf v) = slice_index r.reported_vf v

abbrev pub with_reported : Registers → Group → ℕ → Registers
with_reported r Pf reported = record r { reported_pf = reported }
with_reported r (Vf v) reported = record r { reported_vf = slice_set r.reported_vf v reported }

-- The interrupts of a group.
abbrev pub interrupts_of : Registers → Group → Interrupts
interrupts_of r g =
    of_words g (word_of r (cause_row g) (index_of g)) (word_of r (mask_row g) (index_of g))
    (word_of r (auto_clear_row g) (index_of g)) (word_of r (auto_mask_row g) (index_of g)) (reported_by r g)

-- The registers with the causes, masks and reported bits of these interrupts.
abbrev pub with_interrupts : Registers → Interrupts → Registers
with_interrupts r s =
    with_reported
    (with_word (with_word r (cause_row s.group) (index_of s.group) s.causes)
    (mask_row s.group) (index_of s.group) s.enabled)
    s.group s.reported

-- GPIE bit 5, OCD: a read of EICR clears only the other causes. Bit 30, EIAME: the auto-mask acts on messages.
abbrev pub clears_others : Registers → Bool
clears_others r = has_bit 5 (word_of r Gpie 0)

abbrev pub masks_by_message : Registers → Bool
masks_by_message r = has_bit 30 (word_of r Gpie 0)

-- Whether a group's auto-mask acts on register accesses.
abbrev pub auto_masks : Registers → Group → Bool
auto_masks r g = auto_mask_acts g (masks_by_message r)

-- The registers after the device raises causes in a group.
abbrev pub causes_raised : Registers → Group → ℕ → Registers
causes_raised r g bits = with_interrupts r (raised (interrupts_of r g) bits false)

-- The row that names the causes that queues raise: IVAR for the physical function, PVTIVAR for a virtual function.
abbrev pub vector_row : Group → RowId
vector_row Pf = Ivar
vector_row (Vf v) = Pvtivar

-- The byte that names the cause that a side of a queue raises in a group. Each queue has two bytes, receive first.
abbrev pub vector_entry : Registers → Group → Dir → ℕ → ℕ
vector_entry r g Rx queue = word_of r (vector_row g) (queue / 2) / 2 ^ (16 * (queue % 2)) % 256
vector_entry r g Tx queue = word_of r (vector_row g) (queue / 2) / 2 ^ (16 * (queue % 2) + 8) % 256

-- The registers after a side of a queue raises its cause in a group.
abbrev pub queue_raised : Registers → Group → Dir → ℕ → Registers
queue_raised r g dir queue = causes_raised r g (queue_causes g (vector_entry r g dir queue))

-- The vector of a group's next message, and the registers after the message. If there is no message, nothing changes.
abbrev pub message_of : Registers → Group → Option ℕ
message_of r g = next_vector (interrupts_of r g) (word_of r IvarMisc 0)

abbrev pub message_made : Registers → Group → Registers
message_made r g =
    if is_some (message_of r g)
    then with_interrupts r (after_message (interrupts_of r g) (masks_by_message r) (word_of r IvarMisc 0))
    else r
