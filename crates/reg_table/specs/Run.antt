use Rattle.std.specs.Prelude.{ℕ, ◌≡◌, ◌<◌, ◌+◌, ◌-◌, ◌*◌, ◌/◌, ◌%◌, Bool, ◌&&◌, nat_lt, nat_le, ◌==◌}
use Rattle.reg_table.specs.declared.rows.RowId.{RowId}
use Rattle.reg_table.specs.declared.place.Place.{Place}
use Rattle.reg_table.specs.Rows.{row_of, number_of}

-- Addresses of one row at a constant stride. A low run shows only bits 15:0 of the word.
pub record Run : Type 0 where
  pub row : RowId
  pub first : ℕ
  pub stride : ℕ
  pub first_index : ℕ
  pub count : ℕ
  pub low : Bool

-- The run that has index `first_index + k` of the row at address `first + stride * k`, for each `k` below `count`.
abbrev pub run : RowId → ℕ → ℕ → ℕ → ℕ → Bool → Run
run row first stride first_index count low =
    record { row = row; first = first; stride = stride; first_index = first_index; count = count; low = low }

-- The run has the place at the address: the same step number gives both the address and the place's index.
pub record HasPlaceAt (r : Run) (address : ℕ) (p : Place) : Type 0 where
  pub step : ℕ
  pub below : step < r.count
  pub at : address ≡ r.first + r.stride * step
  pub row : p.row ≡ r.row
  pub index : p.index ≡ r.first_index + step

-- Whether the address is one of the run's addresses.
abbrev pub has_address : Run → ℕ → Bool
has_address r address =
    nat_le r.first address && nat_le address (r.first + r.stride * (r.count - 1))
    && ((address - r.first) % r.stride == 0)

-- The place that the run has at one of its addresses.
abbrev pub place_in : Run → ℕ → Place
place_in r address = record { row = r.row; index = r.first_index + (address - r.first) / r.stride }

-- Whether the place is one of the run's places.
abbrev pub has_index : Run → Place → Bool
has_index r p = (number_of r.row == number_of p.row) && nat_le r.first_index p.index
    && nat_lt p.index (r.first_index + r.count)

-- The address that the run has for one of its places.
abbrev pub address_in : Run → Place → ℕ
address_in r p = r.first + r.stride * (p.index - r.first_index)
