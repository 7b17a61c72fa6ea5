-- The fault that ended a step, if any.
use Rattle.std.specs.Prelude.{Option, Some, None, Result, Ok, Err}
use Rattle.pmd_access.specs.DeviceLock.declared.fault.CallFault.{CallFault}
use Rattle.pmd_access.specs.declared.fault.PmdFault.{PmdFault}
use Rattle.pmd_access.specs.declared.fault.PmdFault.TheVariants as fault
use Rattle.pmd_driver.specs.declared.home.StopFailed.{StopFailed}
use Rattle.pmd_driver.specs.declared.rings.Unprepared.{Unprepared}
use Rattle.pmd_driver.specs.declared.start.StartRefused.{StartRefused}

abbrev pub called_in : {T : Type 0} → Result T (CallFault (Unit {0})) → Option PmdFault
called_in (Ok x) = None
called_in (Err refusal) = Some (fault.Call refusal)

abbrev pub unprepared_in : {T : Type 0} → Result T Unprepared → Option PmdFault
unprepared_in (Ok x) = None
unprepared_in (Err e) = Some e.fault

abbrev pub refused_in : {T : Type 0} → Result T StartRefused → Option PmdFault
refused_in (Ok x) = None
refused_in (Err e) = Some e.fault

abbrev pub stopped_in : {T : Type 0} → Result T StopFailed → Option PmdFault
stopped_in (Ok x) = None
stopped_in (Err e) = Some e.fault
