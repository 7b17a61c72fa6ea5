use Rattle.std.specs.Prelude.{ℕ, ◌≡◌, List, [], ◌∷◌, ◌⊎◌, true, Option, Some, None, if◌then◌else◌}
use Rattle.reg_table.specs.declared.place.Place.{Place}
use Rattle.reg_table.specs.Run.{Run, HasPlaceAt, has_address, place_in, has_index, address_in}
use Rattle.reg_table.specs.Runs.{runs}

-- One of the runs has the place at the address.
abbrev pub SomeRunHas : List Run → ℕ → Place → Type 0
SomeRunHas [] address p = ⊥
SomeRunHas (r ∷ rs) address p = HasPlaceAt r address p ⊎ SomeRunHas rs address p

-- The address names the place: a run of the table has the place there.
abbrev pub Names : ℕ → Place → Type 0
Names address p = SomeRunHas runs address p

-- One of the runs has a place at the address and shows only bits 15:0.
abbrev pub SomeLowRunHas : List Run → ℕ → Type 0
SomeLowRunHas [] address = ⊥
SomeLowRunHas (r ∷ rs) address = (r.low ≡ true) × ((p : Place) × HasPlaceAt r address p) ⊎ SomeLowRunHas rs address

-- The address shows only bits 15:0: a low run of the table has a place there.
abbrev pub IsLow : ℕ → Type 0
IsLow address = SomeLowRunHas runs address

-- The place at the address, in the first run that has the address.
abbrev pub place_among : List Run → ℕ → Option Place
place_among [] address = None
place_among (r ∷ rs) address = if has_address r address then Some (place_in r address) else place_among rs address

-- A mask of the bits that show at the address, in the first run that has the address; all bits if none has it.
abbrev pub view_among : List Run → ℕ → ℕ
view_among [] address = 0xFFFFFFFF
view_among (r ∷ rs) address =
    if has_address r address then (if r.low then 0xFFFF else 0xFFFFFFFF) else view_among rs address

-- The address of the place, in the first run that has the place.
abbrev pub address_among : List Run → Place → Option ℕ
address_among [] p = None
address_among (r ∷ rs) p = if has_index r p then Some (address_in r p) else address_among rs p
