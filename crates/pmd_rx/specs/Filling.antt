-- How a receive ring is filled: free blocks from an arena are posted one after the other.
use Rattle.std.specs.Prelude.{ℕ, ◌≡◌, ◌+◌, ◌<◌, List, ◌++◌, length}
use Rattle.pmd_access.specs.NicDevice.DmaArena.Numbers.{Numbers, free_count}
use Rattle.pmd_access.specs.DeviceLock.declared.entry.Call.{Call}
use Rattle.pmd_access.specs.Home.{IsDrawn}
use Rattle.pmd_access.specs.declared.fault.PmdFault.{PmdFault}
use Rattle.pmd_access.specs.declared.fault.PmdFault.TheVariants as fault
use Rattle.pmd_rx.specs.Plays.{Plays, PlaysFrom, AllLendFree}
use Rattle.pmd_rx.specs.Receive.{Receive}
use Rattle.pmd_rx.specs.Wrong.{FailsBy}

-- `count` free blocks from the arena were posted, and nothing else changed.
pub record PostsSome (count : ℕ) (a : Numbers) (v : Receive) (b : Numbers) (w : Receive) : Type 0 where
  pub blocks : List ℕ
  pub drawn : IsDrawn a blocks b
  pub many : length blocks ≡ count
  pub left : w ≡ record v { layout = record v.layout { blocks = v.layout.blocks ++ blocks } }

-- All slots of the ring except one were posted.
abbrev pub Fills : Numbers → Receive → Numbers → Receive → Type 0
Fills a v b w = (count : ℕ) × (count + 1 ≡ v.layout.size) × PostsSome count a v b w

-- Fewer blocks were posted than filling requires, because fault `f` prevented the next block from being posted. Every
-- call made is the driver's own or a device step.
pub record StopsFilling (f : PmdFault) (old : List Call) (a : Numbers) (v : Receive) (new : List Call) (b : Numbers)
    (w : Receive) : Type 0 where
  pub count : ℕ
  pub few : count + 1 < v.layout.size
  pub mid : List Call
  pub arena : Numbers
  pub ring : Receive
  pub plays : Plays old v mid ring
  pub free : AllLendFree a plays.0 plays.1
  pub posts : PostsSome count a v arena ring
  pub fails : FailsBy f mid arena ring new b w
  pub made : PlaysFrom a old v new w
  pub none : f ≡ fault.NoBuffer → free_count arena ≡ 0
