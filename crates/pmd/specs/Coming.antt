-- Workers in their cells, with the rings for their reports, before and after the run.
use Rattle.std.specs.Prelude.{◌≡◌, ℕ, ◌≤◌, ◌<◌, List, [], ◌∷◌, length, slice_index_or, ⊤}
use Rattle.std.specs.Vec.{vec_capacity}
use Rattle.std.specs.declared.alloc.Global.{Global}
use Rattle.rtrb.specs.Ring.{sent, known_free, IsPair, SameConsumer}
use Rattle.rtrb.specs.declared.AnyItems.{AnyItems}
use Rattle.rtrb.specs.declared.producer.Producer.{Producer}
use Rattle.pmd.specs.declared.cell.TaskCell.{TaskCell}
use Rattle.pmd.specs.declared.cell.TaskCell.TheVariants.{Waits, Ended, Empty}
use Rattle.pmd.specs.declared.job.Job.{Job}
use Rattle.pmd.specs.declared.reports.Collector.{Collector}
use Rattle.pmd.specs.declared.reports.Report.{Report}
use Rattle.pmd.specs.Ends.{IsEndOf}
use Rattle.pmd.specs.declared.assignment.Back.{Back}
use Rattle.pmd.specs.declared.assignment.Assignment.{Assignment}
use Rattle.pmd.specs.declared.ends.WorkerEnd.{WorkerEnd}

-- Each job has a ring for its reports, with room for all of them.
abbrev pub AreWays : List Job → List (Producer Report Global AnyItems) → List Collector → Type 0
AreWays [] [] [] = ⊤
AreWays (j ∷ jobs) (p ∷ producers) (c ∷ collectors) =
    IsPair p c.consumer × (sent p ≡ []) × (j.rounds ≤ known_free p) × (j.rounds ≤ vec_capacity c.reports)
    × AreWays jobs producers collectors
AreWays jobs producers collectors = ⊥

-- The job is in the cell, and its reports arrive at this collector.
abbrev pub Sits : Job → TaskCell Assignment Back → Collector → Type 0
Sits j (Waits d) c = (d.job ≡ j) × IsPair d.producer c.consumer × (j.rounds ≤ vec_capacity c.reports)
Sits j other c = ⊥

abbrev pub AllSit : List Job → List (TaskCell Assignment Back) → List Collector → Type 0
AllSit [] [] [] = ⊤
AllSit (j ∷ jobs) (s ∷ cells) (c ∷ collectors) = Sits j s c × AllSit jobs cells collectors
AllSit jobs cells collectors = ⊥

-- Reports may have been taken, and nothing else changed.
abbrev pub IsDrained : Collector → Collector → Type 0
IsDrained old new = SameConsumer old.consumer new.consumer × (vec_capacity new.reports ≡ vec_capacity old.reports)

abbrev pub AreDrained : List Collector → List Collector → Type 0
AreDrained old new = (length new ≡ length old)
    × ((at : ℕ) (c : Collector) → at < length old → IsDrained (slice_index_or old at c) (slice_index_or new at c))

-- The job's worker has ended, and its remaining reports can be taken.
abbrev pub HasEnded : Job → TaskCell Assignment Back → Collector → Type 0
HasEnded j (Ended b) c =
    IsEndOf j b.pass b.rest (sent b.producer) b.fault × IsPair b.producer c.consumer
    × (j.rounds ≤ vec_capacity c.reports)
HasEnded j other c = ⊥

abbrev pub AllEnded : List Job → List (TaskCell Assignment Back) → List Collector → Type 0
AllEnded [] [] [] = ⊤
AllEnded (j ∷ jobs) (s ∷ cells) (c ∷ collectors) = HasEnded j s c × AllEnded jobs cells collectors
AllEnded jobs cells collectors = ⊥

module _ {T : Type 0} where
  -- A worker's remaining reports can be taken.
  abbrev pub HasCome : TaskCell T Back → Collector → Type 0
  HasCome (Ended b) c = IsPair b.producer c.consumer × (length (sent b.producer) ≤ vec_capacity c.reports)
  HasCome (Waits task) c = ⊥
  HasCome Empty c = ⊥

  abbrev pub HaveCome : List (TaskCell T Back) → List Collector → Type 0
  HaveCome [] [] = ⊤
  HaveCome [] (c ∷ collectors) = ⊥
  HaveCome (s ∷ cells) [] = ⊥
  HaveCome (s ∷ cells) (c ∷ collectors) = HasCome s c × HaveCome cells collectors

  -- A worker's result contains what the worker's thread returned, and all reports.
  abbrev pub IsMade : TaskCell T Back → WorkerEnd → Type 0
  IsMade (Ended b) e =
      (e.pass ≡ b.pass) × (e.rest ≡ b.rest) × (e.reports.items ≡ sent b.producer) × (e.fault ≡ b.fault)
  IsMade (Waits task) e = ⊥
  IsMade Empty e = ⊥

  abbrev pub AreMade : List (TaskCell T Back) → List WorkerEnd → Type 0
  AreMade [] [] = ⊤
  AreMade [] (e ∷ ends) = ⊥
  AreMade (s ∷ cells) [] = ⊥
  AreMade (s ∷ cells) (e ∷ ends) = IsMade s e × AreMade cells ends
