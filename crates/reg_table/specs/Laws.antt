use Rattle.std.specs.Prelude.{ℕ, ◌≡◌, ◌<◌, ◌%◌, AllPairs, Some}
use Rattle.reg_table.specs.declared.rows.RowId.{RowId}
use Rattle.reg_table.specs.declared.place.Place.{Place}
use Rattle.reg_table.specs.Rows.{row_of}
use Rattle.reg_table.specs.Run.{Run, HasPlaceAt}
use Rattle.reg_table.specs.Runs.{runs}
use Rattle.reg_table.specs.Place.{Names, address_among}

-- No address belongs to two places.
abbrev pub AddressHasOnePlace : Type 0
AddressHasOnePlace = (address : ℕ) (p q : Place) → Names address p → Names address q → p ≡ q

-- An address that belongs to a place is a multiple of 4.
abbrev pub AddressesAreAligned : Type 0
AddressesAreAligned = (address : ℕ) (p : Place) → Names address p → address % 4 ≡ 0

-- The two runs have no address in common.
abbrev pub IsApart : Run → Run → Type 0
IsApart r s = (address : ℕ) (p q : Place) → HasPlaceAt r address p → HasPlaceAt s address q → ⊥

-- No two of the table's runs of addresses overlap, including the runs that are aliases.
abbrev pub RunsAreApart : Type 0
RunsAreApart = AllPairs IsApart runs

-- Each place with an index below its row's count has a first address, and that address belongs to the place.
abbrev pub FirstAddressesReadBack : Type 0
FirstAddressesReadBack = (p : Place) → p.index < (row_of p.row).count
    → (address : ℕ) × ((address_among runs p ≡ Some address) × Names address p)

-- No two rows have the same name.
abbrev pub NameHasOneRow : Type 0
NameHasOneRow = (r s : RowId) → (row_of r).name ≡ (row_of s).name → r ≡ s
