-- The effect of one driver function as one record: the calls that it made, and the ring and the arena before and after.
use Rattle.std.specs.Prelude.{◌≡◌, ◌≢◌, ◌≤◌, List, [], length, Option, Some, IfSome}
use Rattle.pmd_access.specs.NicDevice.DmaArena.Numbers.{Numbers}
use Rattle.pmd_access.specs.DeviceLock.declared.entry.Call.{Call}
use Rattle.pmd_access.specs.declared.fault.PmdFault.{PmdFault}
use Rattle.pmd_access.specs.declared.fault.PmdFault.TheVariants as fault
use Rattle.pmd_rx.specs.Keeping.{Keeps}
use Rattle.pmd_rx.specs.Plays.{PlaysFrom}
use Rattle.pmd_rx.specs.Receive.{Receive}
use Rattle.pmd_rx.specs.Wrong.{FailsBy}

-- Some calls were made. Those that are the driver's own take the driver from ring `v` and arena `a` to ring `w` and
-- arena `b`. If a fault is reported, `FailsBy` says why.
pub record Acts (f : Option PmdFault) (old : List Call) (a : Numbers) (v : Receive) (new : List Call) (b : Numbers)
    (w : Receive) : Type 0 where
  pub plays : PlaysFrom a old v new w
  pub fails : IfSome f (λ f. FailsBy f old a v new b w)

-- These calls handed out no packet. No block is lost, the records are unchanged, and at least as many packets are
-- complete as before.
pub record Gathers (f : Option PmdFault) (old : List Call) (a : Numbers) (v : Receive) (new : List Call) (b : Numbers)
    (w : Receive) : Type 0 where
  pub acts : Acts f old a v new b w
  pub keeps : Keeps a v b w []
  pub handed : w.handed ≡ v.handed
  pub whole : length v.whole ≤ length w.whole

-- Calls that take no block from an arena have these effects whatever the arena contains. They never fail with
-- `NoBuffer`.

pub record ActsAlone (f : Option PmdFault) (old : List Call) (v : Receive) (new : List Call) (w : Receive) : Type 0
  where
    pub acts : (a : Numbers) → Acts f old a v new a w
    pub enough : f ≢ Some fault.NoBuffer

pub record GathersAlone (f : Option PmdFault) (old : List Call) (v : Receive) (new : List Call) (w : Receive) : Type 0
  where
    pub gathers : (a : Numbers) → Gathers f old a v new a w
    pub enough : f ≢ Some fault.NoBuffer
