-- The parts of an access to a place: what each part changes in the registers.
use Rattle.std.specs.Prelude.{ℕ, ◌+◌, ◌-◌, ◌*◌, Bool, false, Option, Some, None, bit_and, if◌then◌else◌}
use Rattle.std.specs.Option.{option_map_or}
use Rattle.intr_unit.specs.declared.group.Group.{Group}
use Rattle.reg_table.specs.Rows.{row_of}
use Rattle.reg_table.specs.declared.place.Place.{Place}
use Rattle.reg_table.specs.declared.rows.RowId.{RowId}
use Rattle.reg_table.specs.declared.rows.RowId.TheVariants as row
use Rattle.register_file.specs.Bits.{merged}
use Rattle.register_file.specs.Words.{word_at, put}
use Rattle.register_file.specs.Registers.{Registers, with_wanted}
use Rattle.intr_unit.specs.Interrupts.{raised, after_read as causes_read, after_write_one, after_mask_set, after_mask_clear}
use Rattle.register_file.specs.Groups.{interrupts_of, with_interrupts, clears_others, auto_masks}
use Rattle.register_file.specs.Owner.{owner_of}
use Rattle.register_file.specs.Queue.{is_on}
use Rattle.register_file.specs.Settings.{is_stopped}
use Rattle.register_file.specs.declared.owner.Owner.{Owner}
use Rattle.register_file.specs.declared.surroundings.Surroundings.{Surroundings}
use Rattle.register_file.specs.declared.owner.Owner.TheVariants as owner

-- The value of a calculated row. STATUS reports whether the device takes steps, LINKS whether the link is up, and EEC
-- bits 14 to 11 the size of the EEPROM image. No other row is calculated.
abbrev pub calculated : RowId → Registers → Surroundings → ℕ
calculated row.Status r around = if is_stopped r then 0 else 0x00080000
calculated row.Links r around = if around.link then 0x70000000 else 0
calculated row.Eec r around = 0x300 + 0x800 * around.eeprom
calculated other r around = 0

-- The registers after a read of a group's causes.
abbrev pub group_read : Registers → Group → Registers
group_read r g = with_interrupts r (causes_read (interrupts_of r g) (clears_others r) (auto_masks r g))

-- The interrupt group, if the owner is one.
abbrev pub group_in : Owner → Option Group
group_in owner.Device = None
group_in owner.Counters = None
group_in (owner.Side dir queue) = None
group_in (owner.Group g) = Some g
group_in (owner.Pool number) = None
group_in (owner.VfCounters number) = None
group_in (owner.Vectors number) = None

-- The registers after a change to the interrupts of a place's group. If the place belongs to no group, nothing changes.
abbrev pub in_group : Registers → Place → (Group → Registers) → Registers
in_group r p change = option_map_or change (group_in (owner_of p)) r

-- Whether an owner is in use. The side of a queue is in use while the side is enabled; no other owner is ever in use.
abbrev pub is_running : Registers → Owner → Bool
is_running r owner.Device = false
is_running r owner.Counters = false
is_running r (owner.Side dir queue) = is_on r dir queue
is_running r (owner.Group g) = false
is_running r (owner.Pool number) = false
is_running r (owner.VfCounters number) = false
is_running r (owner.Vectors number) = false

-- The registers after a request that an owner be enabled or disabled. This has an effect only for a queue's side.
abbrev pub asked : Registers → Owner → Bool → Registers
asked r owner.Device wanted = r
asked r owner.Counters wanted = r
asked r (owner.Side dir queue) wanted = with_wanted r dir queue wanted
asked r (owner.Group g) wanted = r
asked r (owner.Pool number) wanted = r
asked r (owner.VfCounters number) wanted = r
asked r (owner.Vectors number) wanted = r

-- The registers after a word is stored: only bits that are in the row's mask and that the address shows change.
abbrev pub stored : Registers → Place → ℕ → ℕ → Registers
stored r p view word =
    record r { words = put r.words p (merged (bit_and (row_of p.row).mask view) (word_at r.words p) word) }

-- The registers after the bits written as 1 are cleared.
abbrev pub ones_cleared : Registers → Place → ℕ → Registers
ones_cleared r p bits = record r { words = put r.words p (bit_and (word_at r.words p) (0xFFFFFFFF - bits)) }

-- The registers after a write to one of a group's registers: its cause register, mask register, cause set register or
-- mask clear register. Bits written as 1 clear causes in the cause register, and set masks in the mask register.
abbrev pub causes_written : Registers → Group → ℕ → Registers
causes_written r g bits = with_interrupts r (after_write_one (interrupts_of r g) bits (auto_masks r g))

abbrev pub masks_set : Registers → Group → ℕ → Registers
masks_set r g bits = with_interrupts r (after_mask_set (interrupts_of r g) bits)

abbrev pub causes_set : Registers → Group → ℕ → Registers
causes_set r g bits = with_interrupts r (raised (interrupts_of r g) bits (auto_masks r g))

abbrev pub masks_cleared : Registers → Group → ℕ → Registers
masks_cleared r g bits = with_interrupts r (after_mask_clear (interrupts_of r g) bits)
