use Rattle.std.specs.Prelude.{ℕ, Option, Some, None}
use Rattle.reg_table.specs.declared.access.Access.{Access}
use Rattle.reg_table.specs.declared.place.Place.{Place}
use Rattle.reg_table.specs.declared.rows.RowId.{RowId}
use Rattle.reg_table.specs.Runs.{runs}
use Rattle.reg_table.specs.Place.{place_among, view_among}

-- The access to the register with this row and index, showing the bits of `view`.
abbrev pub access : RowId → ℕ → ℕ → Access
access row index view = record { place = record { row = row; index = index }; view = view }

-- The access to a place, showing the bits of `view`, or `None` if there is no place.
abbrev pub access_of : Option Place → ℕ → Option Access
access_of None view = None
access_of (Some p) view = Some (record { place = p; view = view })

-- What an access at the address reaches: the place that the table has there, and the bits that the address shows.
abbrev pub access_at : ℕ → Option Access
access_at address = access_of (place_among runs address) (view_among runs address)
