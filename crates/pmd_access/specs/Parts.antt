-- The parts of the setup, each of which writes some registers.
use Rattle.std.specs.Prelude.{◌*◌, ◌<◌, ◌≤◌, ⊤, List, [], ◌∷◌, ◌++◌, length}
use Rattle.device_lock.specs.NicDevice.RegTable.Rows.{row_of}
use Rattle.pmd_access.specs.Setup.{packed, setting}
use Rattle.pmd_access.specs.declared.setup.Part.{Part}
use Rattle.pmd_access.specs.declared.setup.Part.TheVariants.{Word, Bytes, Nothing}
use Rattle.pmd_access.specs.declared.setup.Setting.{Setting}

-- The registers are in the table, and a part of bytes contains four bytes for each register.
abbrev pub IsPart : Part → Type 0
IsPart (Word row index word) = index < (row_of row).count
IsPart (Bytes row count bytes) = (count ≤ (row_of row).count) × (4 * count ≤ length bytes.now)
IsPart Nothing = ⊤

-- The registers of a part, and of all parts, with their values.

abbrev pub settings_in : Part → List Setting
settings_in (Word row index word) = setting row index word ∷ []
settings_in (Bytes row count bytes) = packed row bytes.now count
settings_in Nothing = []

abbrev pub all_settings : List Part → List Setting
all_settings [] = []
all_settings (p ∷ ps) = settings_in p ++ all_settings ps
