-- How both sides of a queue are prepared and switched.
use Rattle.std.specs.Prelude.{ℕ, ◌+◌, ◌-◌, ◌<◌, ◌⊎◌, List, ◌++◌, Bool}
use Rattle.device_lock.specs.declared.entry.Call.{Call}
use Rattle.device_lock.specs.NicDevice.DmaRing.declared.dir.Dir.TheVariants.{Rx, Tx}
use Rattle.pmd_access.specs.declared.fault.PmdFault.{PmdFault}
use Rattle.pmd_access.specs.Named.{AtPort}
use Rattle.pmd_access.specs.QueueMade.{Access, AreMade, StopsBy}
use Rattle.pmd_access.specs.Sides.{quiet, asked, polled, PollsEnd}

-- For each side, the driver reads that it is off, writes "off", and reads that it is off again.
abbrev pub both_quiet : List Access
both_quiet = quiet Rx ++ quiet Tx

-- The driver requests that both sides be enabled or disabled.
abbrev pub both_asked : Bool → List Access
both_asked on = asked Rx on ++ asked Tx on

-- The driver requests that both sides be enabled or disabled, then polls the receive side: `misses` polls show the
-- other state, and the next poll shows the requested state.
abbrev pub receive_polled : Bool → (misses : ℕ) → List Access
receive_polled on misses = both_asked on ++ polled Rx on misses

-- The driver requested that both sides be enabled or disabled, then polled the receive side and the transmit side until
-- each was in the requested state. Fewer polls than the limit showed the other state.
abbrev pub IsSwitched : AtPort → List Call → List Call → Bool → ℕ → Type 0
IsSwitched q old new on polls =
    (first : ℕ) × (second : ℕ) × (first + second < polls)
    × AreMade q old new (receive_polled on first ++ polled Tx on second)

-- Switching fails during the requests, while polling the receive side, or while polling the transmit side with the
-- remaining polls.
abbrev pub SwitchFails : PmdFault → AtPort → List Call → List Call → Bool → ℕ → Type 0
SwitchFails f q old new on polls =
    StopsBy f q old new (both_asked on)
    ⊎ ((mid : List Call) × AreMade q old mid (both_asked on) × PollsEnd f q mid new Rx on polls)
    ⊎ ((first : ℕ) × (mid : List Call) × (first < polls) × AreMade q old mid (receive_polled on first)
    × PollsEnd f q mid new Tx on (polls - first))
