-- Which events alongside a driver's own events are harmless, by register addresses and bits of the values written.
use Rattle.std.specs.Prelude.{ℕ, ◌≡◌, Bool, true, false, List}
use Rattle.pmd_driver.specs.NicDevice.DmaRing.declared.dir.Dir.{Dir}
use Rattle.pmd_driver.specs.NicDevice.IntrUnit.declared.group.Group.{Group}
use Rattle.pmd_driver.specs.NicDevice.declared.event.Event.TheVariants as event
use Rattle.pmd_driver.specs.NicDevice.declared.event.Port.{Port}
use Rattle.pmd_driver.specs.NicDevice.declared.event.Port.TheVariants.{Pf, Vf}
use Rattle.driver_laws.specs.Harmless.{is_harmless}
use Rattle.driver_laws.specs.StartPrelude.{Block}

-- A write of a register by the physical function.
abbrev pub IsHarmless : (address word : ℕ) → Type 0
IsHarmless address word = is_harmless (event.Write Pf address word) ≡ true

abbrev pub IsNot : (address word : ℕ) → Type 0
IsNot address word = is_harmless (event.Write Pf address word) ≡ false

-- Writes to FCTRL, EIMS and an address without a register are harmless. Writes to CTRL, HLREG0, MAXFRS, GCR_EXT and the
-- first and last ring registers of any queue aren't; nor is a write to PVFCTRL that sets bit 26.
pub record WritesAre (word : ℕ) : Type 0 where
  pub filter : IsHarmless 0x05080 word
  pub masks : IsHarmless 0x00880 word
  pub nothing : IsHarmless 0x0000C word
  pub control : IsNot 0x00000 word × IsNot 0x00004 word
  pub padding : IsNot 0x04240 word
  pub limit : IsNot 0x04268 word
  pub pools : IsNot 0x11050 word
  pub receive : IsNot 0x01000 word × IsNot 0x01FE8 word × IsNot 0x0D000 word × IsNot 0x0DFE8 word
  pub buffers : IsNot 0x02100 word × IsNot 0x0213C word
  pub transmit : IsNot 0x06000 word × IsNot 0x07FFC word
  pub reset : IsNot 0x00300 0x04000000 × IsNot 0x003FC 0x04000000
  pub no_reset : IsHarmless 0x00300 0x03FFFFFF × IsHarmless 0x003FC 0xF8000000

-- Writes by a virtual function aren't harmless, nor are lending, taking or poking a block. Every other event is
-- harmless.
pub record OthersAre : Type 0 where
  pub function : (v offset word : ℕ) → is_harmless (event.Write (Vf v) offset word) ≡ false
  pub lend : (block : Block) → is_harmless (event.Lend block) ≡ false
  pub take : (number : ℕ) → is_harmless (event.Take number) ≡ false
  pub poke : (address : ℕ) (bytes : List ℕ) → is_harmless (event.Poke16 address bytes) ≡ false
  pub read : (port : Port) (number : ℕ) → is_harmless (event.Read port number) ≡ true
  pub peek : (address : ℕ) → is_harmless (event.Peek16 address) ≡ true
  pub arrive : (frame : List ℕ) → is_harmless (event.Arrive frame) ≡ true
  pub link : (up : Bool) → is_harmless (event.Link up) ≡ true
  pub collect : is_harmless event.Collect ≡ true
  pub rx : is_harmless event.RxStep ≡ true
  pub tx : (queue : ℕ) → is_harmless (event.TxStep queue) ≡ true
  pub int : (group : Group) → is_harmless (event.IntStep group) ≡ true
  pub switch : (dir : Dir) (queue : ℕ) → is_harmless (event.QueueStep dir queue) ≡ true
  pub eeprom : is_harmless event.EepromStep ≡ true

abbrev pub HarmlessByAddress : Type 0
HarmlessByAddress = (word : ℕ) → WritesAre word
