-- The setup of the whole device.
use Rattle.std.specs.Prelude.{ℕ, zero, suc, ◌≡◌, ◌+◌, ◌*◌, ◌<◌, List, [], ◌∷◌, ◌++◌, Bool, nat_lt, Some, if◌then◌else◌, slice_range}
use Rattle.std.specs.Int.{w32, from_le_bytes}
use Rattle.device_lock.specs.NicDevice.declared.event.Event.TheVariants as event
use Rattle.device_lock.specs.NicDevice.declared.event.Port.TheVariants.{Pf}
use Rattle.device_lock.specs.NicDevice.declared.event.Reply.TheVariants as reply
use Rattle.device_lock.specs.NicDevice.RegTable.Place.{place_among, view_among, address_among}
use Rattle.device_lock.specs.NicDevice.RegTable.Rows.{row_of}
use Rattle.device_lock.specs.NicDevice.RegTable.Runs.{runs}
use Rattle.device_lock.specs.NicDevice.RegTable.declared.place.Place.{Place}
use Rattle.device_lock.specs.NicDevice.RegTable.declared.rows.RowId.{RowId}
use Rattle.device_lock.specs.NicDevice.RegTable.declared.rows.RowId.TheVariants.{GcrExt, VtCtl, Vfre, Vfte, Mrqc, Rssrk, Reta, Rxcsum, Fctrl, Maxfrs, Hlreg0, Dmatxctl, Rxctrl}
use Rattle.device_lock.specs.NicDevice.RegisterFile.Columns.{place}
use Rattle.device_lock.specs.NicDevice.VfMap.declared.mode.Mode.{Mode}
use Rattle.device_lock.specs.NicDevice.VfMap.declared.mode.Mode.TheVariants.{Off, Pools16, Pools32, Pools64}
use Rattle.device_lock.specs.declared.entry.Call.{Call}
use Rattle.pmd_access.specs.Frames.{shortest_frame}
use Rattle.pmd_access.specs.Made.{Adds, AddsSome}
use Rattle.pmd_access.specs.declared.fault.PmdFault.{PmdFault}
use Rattle.pmd_access.specs.declared.fault.PmdFault.TheVariants as fault
use Rattle.pmd_access.specs.declared.setup.Setting.{Setting}
use Rattle.pmd_access.specs.declared.setup.Setup.{Setup}

-- The index is valid for the row.
abbrev pub IsInRow : Place → Type 0
IsInRow p = p.index < (row_of p.row).count

-- The first address of a register, at which all of the register's bits can be accessed.
pub record IsAddressOf (address : ℕ) (p : Place) : Type 0 where
  pub first : address_among runs p ≡ Some address
  pub names : place_among runs address ≡ Some p
  pub whole : view_among runs address ≡ 0xFFFFFFFF

-- The register was written through the physical function, at its first address.
abbrev pub IsSet : List Call → List Call → Setting → Type 0
IsSet old new s =
    (address : ℕ) × IsAddressOf address s.place × Adds old new (event.Write Pf address s.word) reply.Done

-- The registers were written, in order.
abbrev pub AreSet : List Call → List Call → List Setting → Type 0
AreSet old new [] = new ≡ old
AreSet old new (s ∷ ss) = (mid : List Call) × IsSet old mid s × AreSet mid new ss

-- The register isn't written: the device has no such register (`DeviceFault`), or the write was refused (`Call`).
abbrev pub SettingFails : PmdFault → List Call → List Call → Setting → Type 0
SettingFails fault.DeviceFault old new s =
    (address : ℕ) × (seen : ℕ) × IsAddressOf address s.place
    × Adds old new (event.Write Pf address s.word) (reply.Stray seen)
SettingFails (fault.Call refusal) old new s = AddsSome old new
SettingFails fault.BadSize old new s = ⊥
SettingFails fault.ForeignBlock old new s = ⊥
SettingFails fault.StartTimeout old new s = ⊥
SettingFails fault.NoBuffer old new s = ⊥

-- The first of these registers, possibly none, were written, and the next register wasn't.
abbrev pub StopsSetting : PmdFault → List Call → List Call → List Setting → Type 0
StopsSetting f old new ss =
    (done : List Setting) × (s : Setting) × (rest : List Setting) × (mid : List Call)
    × (ss ≡ done ++ s ∷ rest) × AreSet old mid done × SettingFails f mid new s

abbrev pub setting : RowId → ℕ → ℕ → Setting
setting row index word = record { place = place row index; word = word }

-- The values of GCR_EXT and VT_CTL for this mode.
abbrev pub mode_word : Mode → ℕ
mode_word Off = 0
mode_word Pools16 = 1
mode_word Pools32 = 2
mode_word Pools64 = 3

abbrev pub pools_word : Mode → ℕ
pools_word Off = 0
pools_word Pools16 = 1
pools_word Pools32 = 1
pools_word Pools64 = 1

-- The 32-bit value of four bytes, lowest byte first.
abbrev pub word_in : List ℕ → ℕ → ℕ
word_in bytes index = from_le_bytes w32 (slice_range bytes (4 * index) (4 * index + 4))

-- The first registers of a row, each written with four of the bytes.
unfoldable pub packed : RowId → List ℕ → ℕ → List Setting
packed row bytes zero = []
packed row bytes (suc count) = packed row bytes count ++ setting row count (word_in bytes count) ∷ []

-- The value of FCTRL, which determines the frames that the device accepts.
abbrev pub fctrl_word : Bool → ℕ
fctrl_word promiscuous = if promiscuous then 0x700 else 0x400

-- By default, HLREG0 accepts frames of up to 1,518 bytes. For longer frames, its bit 2 is set and MAXFRS contains the
-- length.

abbrev pub maxfrs_settings : ℕ → List Setting
maxfrs_settings frame = if nat_lt shortest_frame frame then setting Maxfrs 0 (65536 * frame) ∷ [] else []

abbrev pub hlreg0_word : ℕ → ℕ
hlreg0_word frame = if nat_lt shortest_frame frame then 0x407 else 0x403

-- All registers of the setup, in order. The first ones configure the pools, all of which receive and send. The next
-- ones select how a frame's queue is chosen, which frames are accepted, and how long frames may be. The last ones
-- enable sending and receiving.
abbrev pub settings_of : Setup → List Setting
settings_of s =
    setting GcrExt 0 (mode_word s.mode) ∷ setting VtCtl 0 (pools_word s.mode)
    ∷ setting Vfre 0 0xFFFFFFFF ∷ setting Vfre 1 0xFFFFFFFF
    ∷ setting Vfte 0 0xFFFFFFFF ∷ setting Vfte 1 0xFFFFFFFF
    ∷ setting Mrqc 0 s.mrqc ∷ packed Rssrk s.key 10 ++ packed Reta s.reta 32
    ++ setting Rxcsum 0 0x2000 ∷ setting Fctrl 0 (fctrl_word s.promiscuous)
    ∷ maxfrs_settings s.frame ++ setting Hlreg0 0 (hlreg0_word s.frame)
    ∷ setting Dmatxctl 0 1 ∷ setting Rxctrl 0 1 ∷ []
