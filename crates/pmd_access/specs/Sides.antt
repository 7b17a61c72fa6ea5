-- How a side of a queue is prepared and switched.
use Rattle.std.specs.Prelude.{ℕ, ◌*◌, ◌<◌, List, [], ◌∷◌, ◌++◌, replicate, Bool, true, false, not}
use Rattle.device_lock.specs.declared.entry.Call.{Call}
use Rattle.device_lock.specs.NicDevice.RegTable.declared.rows.RowId.TheVariants.{Rdbal, Rdbah, Rdlen, Rdh, Srrctl, Rdt, Tdbal, Tdbah, Tdlen, Tdh, Tdt, Tdwbal}
use Rattle.device_lock.specs.NicDevice.RegisterFile.Queue.{enable_row}
use Rattle.device_lock.specs.NicDevice.DmaRing.declared.dir.Dir.{Dir}
use Rattle.device_lock.specs.NicDevice.DmaRing.declared.dir.Dir.TheVariants.{Rx, Tx}
use Rattle.pmd_access.specs.Made.{AddsSome}
use Rattle.pmd_access.specs.declared.fault.PmdFault.{PmdFault}
use Rattle.pmd_access.specs.declared.fault.PmdFault.TheVariants.{BadSize, ForeignBlock, StartTimeout, NoBuffer}
use Rattle.pmd_access.specs.declared.fault.PmdFault.TheVariants.{DeviceFault}
use Rattle.pmd_access.specs.declared.fault.PmdFault.TheVariants as fault
use Rattle.pmd_access.specs.Named.{AtPort}
use Rattle.pmd_access.specs.QueueMade.{Access, Sees, Sets, AreMade, IsStrayRead}

-- The value of RXDCTL or TXDCTL that enables or disables a side.
abbrev pub enable_word : Bool → ℕ
enable_word true = 0x2000000
enable_word false = 0

-- The driver reads that the side is off, writes "off", and reads that it is off again. After this, the device holds
-- back no value written to the side's ring registers, and no device step enables the side while the driver writes them.
abbrev pub quiet : Dir → List Access
quiet side = Sees (enable_row side) false ∷ Sets (enable_row side) 0 ∷ Sees (enable_row side) false ∷ []

-- The register values of an empty ring of `size` descriptors that starts at block `ring`: advanced descriptors,
-- 2,048-byte buffers, and no head write-back.
abbrev pub ring_words : Dir → (ring size : ℕ) → List Access
ring_words Rx ring size =
    Sets Rdbal (2048 * ring) ∷ Sets Rdbah 0 ∷ Sets Rdlen (16 * size) ∷ Sets Srrctl 0x2000002
    ∷ Sets Rdh 0 ∷ Sets Rdt 0 ∷ []
ring_words Tx ring size =
    Sets Tdbal (2048 * ring) ∷ Sets Tdbah 0 ∷ Sets Tdlen (16 * size) ∷ Sets Tdwbal 0
    ∷ Sets Tdh 0 ∷ Sets Tdt 0 ∷ []

-- The driver requests that a side be enabled or disabled.
abbrev pub asked : Dir → Bool → List Access
asked side on = Sets (enable_row side) (enable_word on) ∷ []

-- Polls of a side that all show the other state. For `polled`: `misses` polls that show the other state, then one poll
-- that shows the requested state.
abbrev pub missed : Dir → Bool → ℕ → List Access
missed side on polls = replicate polls (Sees (enable_row side) (not on))

abbrev pub polled : Dir → Bool → ℕ → List Access
polled side on misses = missed side on misses ++ Sees (enable_row side) on ∷ []

-- Polling ends without success: all permitted polls show the other state (`StartTimeout`), the port has no such
-- register (`DeviceFault`), or a call was refused (`Call`).
abbrev pub PollsEnd : PmdFault → AtPort → List Call → List Call → Dir → Bool → ℕ → Type 0
PollsEnd BadSize q old new side on polls = ⊥
PollsEnd ForeignBlock q old new side on polls = ⊥
PollsEnd NoBuffer q old new side on polls = ⊥
PollsEnd StartTimeout q old new side on polls = AreMade q old new (missed side on polls)
PollsEnd DeviceFault q old new side on polls =
    (misses : ℕ) × (mid : List Call) × (misses < polls) × AreMade q old mid (missed side on misses)
    × IsStrayRead q mid new (enable_row side)
PollsEnd (fault.Call refused) q old new side on polls =
    (misses : ℕ) × (mid : List Call) × (misses < polls) × AreMade q old mid (missed side on misses)
    × AddsSome mid new
