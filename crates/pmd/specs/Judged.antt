-- The checks of a driver against a closed history, one after the other.
use Rattle.std.specs.Prelude.{◌*◌, List, ⊤}
use Rattle.pmd_driver.specs.DeviceLock.Alone.{LeavesAlone}
use Rattle.pmd_driver.specs.DeviceLock.declared.entry.Entry.{Entry}
use Rattle.pmd_driver.specs.PmdAccess.Frames.{most_blocks}
use Rattle.pmd.specs.Beginning.{BeginsWell}
use Rattle.pmd.specs.Fitting.{FramesFit}
use Rattle.pmd.specs.Lending.{OthersLendNone, are_from}
use Rattle.pmd.specs.Quiet.{NeverAskedOn}
use Rattle.pmd.specs.declared.verdict.Doubt.{Doubt}
use Rattle.pmd.specs.declared.verdict.Doubt.TheVariants.{Disturbed, BeganOtherwise, AskedOnBefore, LentByOthers, TooLong}
use Rattle.pmd.specs.declared.verdict.Driven.{Driven}

-- The history passes this check.
abbrev pub Clears : Driven → List Entry → Doubt → Type 0
Clears d h Disturbed = LeavesAlone d.watched h
Clears d h BeganOtherwise = BeginsWell d.watched d.from d.given h
Clears d h AskedOnBefore = NeverAskedOn d.watched d.from h
Clears d h LentByOthers = OthersLendNone d.watched d.from (are_from d.first d.count) h
Clears d h TooLong = FramesFit d.watched d.from (2048 * most_blocks d.given.frame) h

-- The history passes all checks before this one.
abbrev pub ClearsBefore : Driven → List Entry → Doubt → Type 0
ClearsBefore d h Disturbed = ⊤
ClearsBefore d h BeganOtherwise = Clears d h Disturbed
ClearsBefore d h AskedOnBefore = Clears d h Disturbed × Clears d h BeganOtherwise
ClearsBefore d h LentByOthers = Clears d h Disturbed × Clears d h BeganOtherwise × Clears d h AskedOnBefore
ClearsBefore d h TooLong =
    Clears d h Disturbed × Clears d h BeganOtherwise × Clears d h AskedOnBefore × Clears d h LentByOthers

-- The history passes all checks.
abbrev pub IsClear : Driven → List Entry → Type 0
IsClear d h = ClearsBefore d h TooLong × Clears d h TooLong

-- This is the first check that the history fails.
abbrev pub IsFirst : Driven → List Entry → Doubt → Type 0
IsFirst d h doubt = ClearsBefore d h doubt × (Clears d h doubt → ⊥)
