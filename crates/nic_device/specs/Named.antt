-- What register numbers refer to: addresses of the physical function, and offsets of virtual functions.
use Rattle.std.specs.Prelude.{ℕ, ◌<◌, ⊤, Option, Some, None}
use Rattle.register_file.specs.RegTable.Place.{place_among, view_among}
use Rattle.register_file.specs.RegTable.Rows.{row_of}
use Rattle.register_file.specs.RegTable.Runs.{runs}
use Rattle.register_file.specs.RegTable.declared.place.Place.{Place}
use Rattle.register_file.specs.VfMap.Map.{located}
use Rattle.register_file.specs.VfMap.declared.located.Located.{Located}
use Rattle.register_file.specs.VfMap.declared.located.Located.TheVariants as located_as
use Rattle.nic_device.specs.Interrupt.{mode_in}
use Rattle.nic_device.specs.State.{State}
use Rattle.nic_device.specs.declared.event.Port.{Port}
use Rattle.nic_device.specs.declared.event.Port.TheVariants.{Pf, Vf}
use Rattle.nic_device.specs.declared.named.Named.{Named}
use Rattle.nic_device.specs.declared.named.Named.TheVariants.{Nothing, Register}

-- An address refers to a place, of which it shows the bits of `view`, or to nothing, which reads as 0.
abbrev pub at_place : Option Place → (view : ℕ) → Named
at_place None view = Nothing 0
at_place (Some p) view = Register p view

-- An offset refers to a register and shows all its bits, or it refers to nothing. A hole reads as 0, an absent function
-- as all ones.
abbrev pub at_location : Located → Named
at_location located_as.Absent = Nothing 0xFFFFFFFF
at_location located_as.Hole = Nothing 0
at_location (located_as.Register p) = Register p 0xFFFFFFFF

-- What a number refers to at a port, given how the queues are divided into pools.
abbrev pub named : State → Port → ℕ → Named
named s Pf address = at_place (place_among runs address) (view_among runs address)
named s (Vf v) offset = at_location (located (mode_in s.registers) s.vfs v offset)

-- If a number refers to a register, the register's index is within its row.
abbrev pub IsInRange : Named → Type 0
IsInRange (Nothing seen) = ⊤
IsInRange (Register p view) = p.index < (row_of p.row).count
