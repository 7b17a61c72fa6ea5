-- The interrupt registers by the datasheet's names and addresses.
use Rattle.std.specs.Prelude.{ℕ, ◌≡◌, ◌<◌, ◌+◌, ◌*◌, ⊤}
use Rattle.nic_device.specs.RegTable.declared.rows.RowId.TheVariants.{Eicr, Eics, Eims, Eimc, Eiac, Eiam, Gpie, Pvteicr, Pvteics, Pvteims, Pvteimc, Pvteiac, Pvteiam}
use Rattle.datasheet_laws.specs.Prelude.{Group, Names, Pf, Place, Vf, place, runs, view_among}

-- A group with registers: the group of the physical function, or of one of 64 virtual functions.
abbrev pub IsGroup : Group → Type 0
IsGroup Pf = ⊤
IsGroup (Vf v) = v < 64

-- How many bits the registers of a group have, starting at bit 0.
abbrev pub bits_in : Group → ℕ
bits_in Pf = 31
bits_in (Vf v) = 3

-- The registers of a group, by name. This is the register of the causes.
abbrev pub cause_register : Group → Place
cause_register Pf = place Eicr 0
cause_register (Vf v) = place Pvteicr v

-- The register that sets causes.
abbrev pub cause_set_register : Group → Place
cause_set_register Pf = place Eics 0
cause_set_register (Vf v) = place Pvteics v

-- The register of the masks; a write sets masks.
abbrev pub mask_register : Group → Place
mask_register Pf = place Eims 0
mask_register (Vf v) = place Pvteims v

-- The register that clears masks.
abbrev pub mask_clear_register : Group → Place
mask_clear_register Pf = place Eimc 0
mask_clear_register (Vf v) = place Pvteimc v

-- The auto-clear register.
abbrev pub auto_clear_register : Group → Place
auto_clear_register Pf = place Eiac 0
auto_clear_register (Vf v) = place Pvteiac v

-- The auto-mask register.
abbrev pub auto_mask_register : Group → Place
auto_mask_register Pf = place Eiam 0
auto_mask_register (Vf v) = place Pvteiam v

-- The registers by their addresses.
abbrev pub cause_address : Group → ℕ
cause_address Pf = 0x00800
cause_address (Vf v) = 0x00B00 + 4 * v

abbrev pub cause_set_address : Group → ℕ
cause_set_address Pf = 0x00808
cause_set_address (Vf v) = 0x00C00 + 4 * v

abbrev pub mask_address : Group → ℕ
mask_address Pf = 0x00880
mask_address (Vf v) = 0x00D00 + 4 * v

abbrev pub mask_clear_address : Group → ℕ
mask_clear_address Pf = 0x00888
mask_clear_address (Vf v) = 0x00E00 + 4 * v

abbrev pub auto_clear_address : Group → ℕ
auto_clear_address Pf = 0x00810
auto_clear_address (Vf v) = 0x00F00 + 4 * v

abbrev pub auto_mask_address : Group → ℕ
auto_mask_address Pf = 0x00890
auto_mask_address (Vf v) = 0x04D00 + 4 * v

-- GPIE.
abbrev pub general_address : ℕ
general_address = 0x00898

-- An address names a register, and shows these bits of it.
pub record IsAddressOf (p : Place) (address bits : ℕ) : Type 0 where
  pub named : Names address p
  pub view : view_among runs address ≡ bits

-- Each of these addresses shows all bits of the group's register.
pub record HasAddresses (g : Group) : Type 0 where
  pub cause : IsAddressOf (cause_register g) (cause_address g) 0xFFFFFFFF
  pub cause_set : IsAddressOf (cause_set_register g) (cause_set_address g) 0xFFFFFFFF
  pub mask : IsAddressOf (mask_register g) (mask_address g) 0xFFFFFFFF
  pub mask_clear : IsAddressOf (mask_clear_register g) (mask_clear_address g) 0xFFFFFFFF
  pub auto_clear : IsAddressOf (auto_clear_register g) (auto_clear_address g) 0xFFFFFFFF
  pub auto_mask : IsAddressOf (auto_mask_register g) (auto_mask_address g) 0xFFFFFFFF
  pub general : IsAddressOf (place Gpie 0) general_address 0xFFFFFFFF

-- The low views show only bits 15 to 0.
pub record HasLowViews : Type 0 where
  pub cause_set : IsAddressOf (place Eics 0) 0x00A90 0xFFFF
  pub mask : IsAddressOf (place Eims 0) 0x00AA0 0xFFFF
  pub mask_clear : IsAddressOf (place Eimc 0) 0x00AB0 0xFFFF
  pub auto_mask : IsAddressOf (place Eiam 0) 0x00AD0 0xFFFF

abbrev pub RegistersHaveAddresses : Type 0
RegistersHaveAddresses = (g : Group) → IsGroup g → HasAddresses g
