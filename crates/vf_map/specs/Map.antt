-- Which register of the device an offset of a virtual function reaches.
use Rattle.std.specs.Prelude.{ℕ, ◌+◌, ◌-◌, ◌*◌, ◌/◌, ◌==◌, List, [], ◌∷◌, ◌++◌, map, filter, find, nat_lt, Option, Some, None, if◌then◌else◌}
use Rattle.std.specs.List.{flat_map, range_with_len}
use Rattle.reg_table.specs.FirstAddresses.{first_of}
use Rattle.reg_table.specs.Place.{address_among}
use Rattle.reg_table.specs.Rows.{rows}
use Rattle.reg_table.specs.Runs.{runs}
use Rattle.reg_table.specs.declared.place.Place.{Place}
use Rattle.reg_table.specs.declared.rows.RowId.{RowId}
use Rattle.reg_table.specs.declared.rows.RowId.TheVariants.{Pvfctrl, Status, Links, Pvteicr, Pvteics, Pvteims, Pvteimc, Pvteiac, Pvteiam, PvtivarMisc, Pvfmailbox, Pfmbmem, Psrtype, Vfgprc, Vfgptc, Pvtivar, Rdbal, Tdbal}
use Rattle.vf_map.specs.Owner.{is_receive, is_transmit}
use Rattle.vf_map.specs.Pools.{queues_of}
use Rattle.vf_map.specs.declared.mode.Mode.{Mode}
use Rattle.vf_map.specs.declared.located.Located.{Located}
use Rattle.vf_map.specs.declared.located.Located.TheVariants as located_as
use Rattle.vf_map.specs.declared.mapped.Mapped.{Mapped}
use Rattle.vf_map.specs.declared.mapped.Mapped.TheVariants as mapped_as

-- An offset, and the place that it is mapped to.
abbrev pub Entry : Type 0
Entry = ℕ × Place

abbrev pub entry : (offset : ℕ) → RowId → (index : ℕ) → Entry
entry offset row index = (offset, record { row = row; index = index })

-- The registers that exist once per virtual function.
abbrev pub own_entries : ℕ → List Entry
own_entries vf =
    entry 0x0000 Pvfctrl vf ∷ entry 0x0008 Status 0 ∷ entry 0x0010 Links 0 ∷
    entry 0x0100 Pvteicr vf ∷ entry 0x0104 Pvteics vf ∷ entry 0x0108 Pvteims vf ∷
    entry 0x010C Pvteimc vf ∷ entry 0x0110 Pvteiac vf ∷ entry 0x0114 Pvteiam vf ∷
    entry 0x0140 PvtivarMisc vf ∷ entry 0x02FC Pvfmailbox vf ∷
    entry 0x0300 Psrtype vf ∷ entry 0x101C Vfgprc vf ∷ entry 0x201C Vfgptc vf ∷ []

-- The function's part of the mailbox memory: 16 words.
abbrev pub message_entries : ℕ → List Entry
message_entries vf = map (λ x. entry (0x200 + 4 * x) Pfmbmem (16 * vf + x)) (range_with_len 0 16)

-- All registers of the function except its queues' registers.
abbrev pub function_entries : ℕ → List Entry
function_entries vf = own_entries vf ++ message_entries vf

-- The function's vector registers: one word for each pair of queues.
abbrev pub vector_entries : (first count : ℕ) → List Entry
vector_entries first count = map (λ x. entry (0x120 + 4 * x) Pvtivar (first / 2 + x)) (range_with_len 0 (count / 2))

-- The rows of a queue's receive side (`receive_rows`) or transmit side (`transmit_rows`).
abbrev pub receive_rows : List RowId
receive_rows = filter is_receive rows

abbrev pub transmit_rows : List RowId
transmit_rows = filter is_transmit rows

-- The distance from the first register of one row to the first register of another.
abbrev pub distance : (first row : RowId) → ℕ
distance first row = (first_of row).first - (first_of first).first

-- The registers of one side of a queue, starting at an offset, with the same distances as in the device.
abbrev pub side_entries : (offset : ℕ) → (first : RowId) → List RowId → (queue : ℕ) → List Entry
side_entries offset first rows queue = map (λ row. entry (offset + distance first row) row queue) rows

-- The registers of the function's queue `x`, which is this queue of the device.
abbrev pub queue_entries : (x queue : ℕ) → List Entry
queue_entries x queue =
    side_entries (0x1000 + 0x40 * x) Rdbal receive_rows queue
    ++ side_entries (0x2000 + 0x40 * x) Tdbal transmit_rows queue

-- All registers that a virtual function with `count` queues, starting at `first`, reaches.
unfoldable pub entries : (vf first count : ℕ) → List Entry
entries vf first count =
    function_entries vf ++ vector_entries first count
    ++ flat_map (λ x. queue_entries x (first + x)) (range_with_len 0 count)

-- What an offset reaches, given the entry that has the offset, if any.
abbrev pub found : Option Entry → Located
found None = located_as.Hole
found (Some entry) = located_as.Register entry.1

abbrev pub located_in : ℕ → Option (ℕ × ℕ) → ℕ → Located
located_in vf None offset = located_as.Absent
located_in vf (Some queues) offset = found (find (λ entry. entry.0 == offset) (entries vf queues.0 queues.1))

-- What an offset of a virtual function reaches, if there are `vfs` functions. The result is `Absent` if the function
-- doesn't exist or the mode has no pool for the function; otherwise it is a register or a hole.
unfoldable pub located : Mode → (vfs vf offset : ℕ) → Located
located mode vfs vf offset =
    if nat_lt vf vfs then located_in vf (queues_of mode vf) offset else located_as.Absent

-- What an offset is mapped to: the same as for `located`, but with a register's first address instead of its place.
abbrev pub at_address : Option ℕ → Mapped
at_address None = mapped_as.Hole
at_address (Some address) = mapped_as.Pf address

abbrev pub mapped_to : Located → Mapped
mapped_to located_as.Absent = mapped_as.Absent
mapped_to located_as.Hole = mapped_as.Hole
mapped_to (located_as.Register p) = at_address (address_among runs p)

abbrev pub mapped : Mode → (vfs vf offset : ℕ) → Mapped
mapped mode vfs vf offset = mapped_to (located mode vfs vf offset)
