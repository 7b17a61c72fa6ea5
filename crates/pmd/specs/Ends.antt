-- How workers end.
use Rattle.std.specs.Prelude.{◌≡◌, ◌≢◌, ◌≤◌, true, List, [], ◌∷◌, length, Option, Some, IfNone, ⊤}
use Rattle.rtrb.specs.Ring.{sent, SameProducer}
use Rattle.pmd_driver.specs.DeviceLock.Pass.{PassValue}
use Rattle.pmd_driver.specs.Blocks.{IsWhole}
use Rattle.pmd_driver.specs.Started.{left_handed, IsHome}
use Rattle.pmd_driver.specs.declared.start.Rest.{Rest}
use Rattle.pmd.specs.declared.job.Job.{Job}
use Rattle.pmd.specs.declared.reports.Report.{Report}
use Rattle.pmd.specs.Ended.{is_home}
use Rattle.pmd.specs.Lived.{HasRun}
use Rattle.pmd.specs.Reported.{reports_of}
use Rattle.pmd.specs.declared.fault.WorkerFault.{WorkerFault}
use Rattle.pmd.specs.declared.fault.WorkerFault.TheVariants.{NoThread}
use Rattle.pmd.specs.declared.assignment.Back.{Back}
use Rattle.pmd.specs.declared.assignment.Assignment.{Assignment}
use Rattle.pmd.specs.declared.ends.WorkerEnd.{WorkerEnd}

-- The result of a job's worker: the worker's pass, its driver's arena and records or the driver that didn't stop, its
-- reports, and its fault.
pub record IsEndOf (j : Job) (pass : PassValue) (rest : Rest) (reported : List Report) (fault : Option WorkerFault) :
    Type 0 where
  pub bench : pass.bench ≡ j.pass.bench
  pub tag : pass.tag ≡ j.pass.tag
  -- If the worker had a thread, the calls added to its pass are the life of one driver of the job's queue.
  pub lived : fault ≢ Some NoThread
      → HasRun (record { port = j.port; queue = j.queue }) j.size j.frame j.pass.calls j.arena pass.calls rest fault
  -- There is one report for each packet that its driver handed out.
  pub reports : reported ≡ reports_of j.queue (left_handed rest)
  pub few : length reported ≤ j.rounds
  -- If there is no fault, the driver was stopped.
  pub home : IfNone fault (is_home rest ≡ true)
  -- No block is missing: if the arena was returned and no block is lost, the same numbers are free in the arena as
  -- before.
  pub whole : IsWhole j.arena rest
  -- If the worker had no thread, nothing was done.
  pub idle : fault ≡ Some NoThread → (pass ≡ j.pass) × IsHome j.arena rest

-- What an assignment's thread returns.
abbrev pub IsBack : Assignment → Back → Type 0
IsBack d b = IsEndOf d.job b.pass b.rest (sent b.producer) b.fault × SameProducer d.producer b.producer

abbrev pub IsEnd : Job → WorkerEnd → Type 0
IsEnd j e = IsEndOf j e.pass e.rest e.reports.items e.fault

-- Each job has a result, in order.
abbrev pub AreEnds : List Job → List WorkerEnd → Type 0
AreEnds [] [] = ⊤
AreEnds [] (e ∷ ends) = ⊥
AreEnds (j ∷ jobs) [] = ⊥
AreEnds (j ∷ jobs) (e ∷ ends) = IsEnd j e × AreEnds jobs ends
