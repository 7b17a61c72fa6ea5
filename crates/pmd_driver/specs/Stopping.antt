-- How a driver stops: both sides of its queue are disabled, and its blocks are returned to the arena.
use Rattle.std.specs.Prelude.{ℕ, ◌≡◌, ◌⊎◌, false, List, [], ◌++◌}
use Rattle.pmd_access.specs.DeviceLock.declared.entry.Call.{Call}
use Rattle.pmd_access.specs.DeviceLock.declared.fault.CallFault.{CallFault}
use Rattle.pmd_access.specs.DeviceLock.declared.fault.CallFault.TheVariants as refused
use Rattle.pmd_access.specs.Bufs.{with_all_free}
use Rattle.pmd_access.specs.Home.{Bringing, BringsAll, StopsBringing}
use Rattle.pmd_access.specs.declared.fault.PmdFault.{PmdFault}
use Rattle.pmd_access.specs.declared.fault.PmdFault.TheVariants as fault
use Rattle.pmd_access.specs.Both.{IsSwitched, SwitchFails}
use Rattle.pmd_access.specs.Named.{AtPort}
use Rattle.pmd_driver.specs.Halted.{Halted}
use Rattle.pmd_driver.specs.declared.home.Home.{Home}

-- The driver after its rings are closed: the blocks that it had in hand are free in the arena.
abbrev pub closed : Halted → Halted
closed h = record h { arena = with_all_free h.arena h.held; held = [] }

-- The state while the driver's blocks are being returned.
abbrev pub bringing : List Call → Halted → Bringing
bringing made h = record { made = made; arena = h.arena; way = h.way }

-- All blocks were returned, except the lost ones.
abbrev pub brought : List Call → Home → Bringing
brought made home = record { made = made; arena = home.arena; way = record { lent = []; lost = home.lost } }

-- The blocks of a driver with closed rings were taken back in order, and its records are returned.
pub record ComesHome (old : List Call) (h : Halted) (new : List Call) (home : Home) : Type 0 where
  pub brings : BringsAll (bringing old h) (brought new home)
  pub handed : home.handed.items ≡ h.handed
  pub accepted : home.accepted.items ≡ h.accepted

-- A driver with closed rings stopped: both sides of its queue were disabled, and its blocks were returned.
abbrev pub GoesHome : AtPort → List Call → Halted → List Call → Home → Type 0
GoesHome q old h new home = (mid : List Call) × IsSwitched q old mid false 1000 × ComesHome mid h new home

-- The driver was stopped: its rings were closed first, then both sides of its queue were disabled, and its blocks were
-- returned.
abbrev pub Stops : AtPort → List Call → Halted → List Call → Home → Type 0
Stops q old h new home = GoesHome q old (closed h) new home

-- A call to take back a block was refused. The blocks taken before it were returned to the arena.
abbrev pub IsLeftDuring : PmdFault → List Call → Halted → List Call → Halted → Type 0
IsLeftDuring f old h new left =
    (refusal : CallFault (Unit {0})) × (f ≡ fault.Call refusal) × StopsBringing (bringing old h) (bringing new left)
    × (left ≡ record h { arena = left.arena; way = left.way })

-- A driver with closed rings didn't stop. Either its queue wasn't disabled, and the driver is unchanged; or a call to
-- take back a block was refused.
abbrev pub IsLeft : PmdFault → AtPort → List Call → Halted → List Call → Halted → Type 0
IsLeft f q old h new left =
    (SwitchFails f q old new false 1000 × (left ≡ h))
    ⊎ ((mid : List Call) × IsSwitched q old mid false 1000 × IsLeftDuring f mid h new left)

-- The first of the blocks in hand, possibly none, were returned to the arena.
pub record IsInPart (h left : Halted) : Type 0 where
  pub gone : List ℕ
  pub kept : List ℕ
  pub parts : gone ++ kept ≡ h.held
  pub left_is : left ≡ record h { arena = with_all_free h.arena gone; held = kept }

-- The rings couldn't be closed for lack of memory. No event occurred, and some blocks in hand may have been returned to
-- the arena.
abbrev pub IsUnclosed : PmdFault → List Call → Halted → List Call → Halted → Type 0
IsUnclosed f old h new left =
    (f ≡ fault.Call (refused.OutOfMemory tt)) × (new ≡ old) × IsInPart h left

-- The driver didn't stop: its rings couldn't be closed for lack of memory, its queue wasn't disabled, or a call to take
-- back a block was refused. `left` is the driver's state afterwards.
abbrev pub StopFails : PmdFault → AtPort → List Call → Halted → List Call → Halted → Type 0
StopFails f q old h new left = IsUnclosed f old h new left ⊎ IsLeft f q old (closed h) new left
