-- Lemmas: jobs are put into cells one after the other.
use Rattle.std.proofs.Common.{◌≡◌, ℕ, zero, suc, ◌<◌, true, List, [], ◌∷◌, ◌++◌, length, slice_index_or, refl, sym, ap, ◌∙◌, subst, append_assoc, append-nil, arith}
use Rattle.std.specs.List.{remove}
use Rattle.std.specs.declared.alloc.Global.{Global}
use Rattle.rtrb.specs.declared.AnyItems.{AnyItems}
use Rattle.rtrb.specs.declared.producer.Producer.{Producer}
use Rattle.pmd.specs.TaskCells.{waits}
use Rattle.pmd.specs.declared.cell.TaskCell.{TaskCell}
use Rattle.pmd.specs.declared.cell.TaskCell.TheVariants.{Waits, Ended, Empty}
use Rattle.pmd.specs.declared.job.Job.{Job}
use Rattle.pmd.specs.declared.reports.Collector.{Collector}
use Rattle.pmd.specs.declared.reports.Report.{Report}
use Rattle.pmd.specs.Coming.{AreWays, Sits, AllSit}
use Rattle.pmd.specs.declared.assignment.Back.{Back}
use Rattle.pmd.specs.declared.assignment.Assignment.{Assignment}

-- If each job is in its cell, this also holds with one more job in a cell.
sit_more : (jobs : List Job) (ss : List (TaskCell Assignment Back)) (cs : List Collector) (j : Job)
    (s : TaskCell Assignment Back) (c : Collector) → AllSit jobs ss cs → Sits j s c
    → AllSit (jobs ++ j ∷ []) (ss ++ s ∷ []) (cs ++ c ∷ [])
sit_more [] [] [] j s c sit sits = (sits, tt)
sit_more (k ∷ jobs) (t ∷ ss) (d ∷ cs) j s c sit sits = (sit.0, sit_more jobs ss cs j s c sit.1 sits)
sit_more [] (t ∷ ss) cs j s c sit sits = absurd sit
sit_more [] [] (d ∷ cs) j s c sit sits = absurd sit
sit_more (k ∷ jobs) [] cs j s c sit sits = absurd sit
sit_more (k ∷ jobs) (t ∷ ss) [] j s c sit sits = absurd sit

-- `IsSitting`: the first jobs are in cells, and the remaining jobs have rings.
pub record IsSitting (all : List Job) (collectors : List Collector) (jobs : List Job)
    (ps : List (Producer Report Global AnyItems)) (ss : List (TaskCell Assignment Back)) : Type 0 where
  pub before : List Job
  pub taken : List Collector
  pub left : List Collector
  pub jobs_are : before ++ jobs ≡ all
  pub collectors_are : taken ++ left ≡ collectors
  pub sit : AllSit before ss taken
  pub ways : AreWays jobs ps left

first_sits : (all : List Job) (collectors : List Collector) (jobs : List Job)
    (ps : List (Producer Report Global AnyItems)) (ss : List (TaskCell Assignment Back)) (d : Assignment) (k : Job)
    (q : Producer Report Global AnyItems) (before : List Job) (taken left : List Collector)
    → before ++ jobs ≡ all → taken ++ left ≡ collectors → AllSit before ss taken
    → AreWays jobs ps left → 0 < length jobs → d.job ≡ slice_index_or jobs 0 k
    → d.producer ≡ slice_index_or ps 0 q
    → IsSitting all collectors (remove jobs 0) (remove ps 0) (ss ++ Waits d ∷ [])
first_sits all collectors (j ∷ jobs) (p ∷ ps) ss d k q before taken (c ∷ left) jobs_are collectors_are sit
    (pair, fresh, free, room, ways) some is here = record {
      before = before ++ j ∷ [];
      taken = taken ++ c ∷ [];
      left = left;
      jobs_are = append_assoc before (j ∷ []) jobs ∙ jobs_are;
      collectors_are = append_assoc taken (c ∷ []) left ∙ collectors_are;
      sit = sit_more before ss taken j (Waits d) c sit (is, rw here pair, room);
      ways = ways;
    }
first_sits all collectors [] ps ss d k q before taken left jobs_are collectors_are sit ways some is here =
    absurd (omega (arith, some))
first_sits all collectors (j ∷ jobs) [] ss d k q before taken left jobs_are collectors_are sit ways some is here =
    absurd ways
first_sits all collectors (j ∷ jobs) (p ∷ ps) ss d k q before taken [] jobs_are collectors_are sit ways some is here =
    absurd ways

-- Putting the first remaining job into a cell preserves `IsSitting`.
pub one_sits : (all : List Job) (collectors : List Collector) (jobs : List Job)
    (ps : List (Producer Report Global AnyItems)) (ss : List (TaskCell Assignment Back)) (d : Assignment) (k : Job)
    (q : Producer Report Global AnyItems) → IsSitting all collectors jobs ps ss → 0 < length jobs → d.job ≡ k
    → k ≡ slice_index_or jobs 0 k → d.producer ≡ q → q ≡ slice_index_or ps 0 q
    → IsSitting all collectors (remove jobs 0) (remove ps 0) (ss ++ Waits d ∷ [])
one_sits all collectors jobs ps ss d k q i some job is producer here =
    first_sits all collectors jobs ps ss d k q i.before i.taken i.left i.jobs_are i.collectors_are i.sit i.ways some
    (job ∙ is) (producer ∙ here)

-- At the start, no job is in a cell, and each job has a ring.
pub none_sits : (all : List Job) (collectors : List Collector) (ps : List (Producer Report Global AnyItems))
    (ss : List (TaskCell Assignment Back)) → ss ≡ [] → AreWays all ps collectors → IsSitting all collectors all ps ss
none_sits all collectors ps ss empty ways = record {
  before = [];
  taken = [];
  left = collectors;
  jobs_are = refl;
  collectors_are = refl;
  sit = subst (λ (l : List (TaskCell Assignment Back)). AllSit [] l []) (sym empty) tt;
  ways = ways;
}

nobody_left : (ps : List (Producer Report Global AnyItems)) (left : List Collector) → AreWays [] ps left → left ≡ []
nobody_left [] [] ways = refl
nobody_left [] (c ∷ left) ways = absurd ways
nobody_left (p ∷ ps) left ways = absurd ways

-- When all jobs are in cells, each job has its collector.
pub all_sit : (all : List Job) (collectors : List Collector) (ps : List (Producer Report Global AnyItems))
    (ss : List (TaskCell Assignment Back)) → IsSitting all collectors [] ps ss → AllSit all ss collectors
all_sit all collectors ps ss i =
    let none = nobody_left ps i.left i.ways in
    subst (λ (l : List Job). AllSit l ss collectors) (sym (append-nil i.before) ∙ i.jobs_are)
    (subst (λ (l : List Collector). AllSit i.before ss l)
    (sym (append-nil i.taken) ∙ (ap (λ (l : List Collector). i.taken ++ l) (sym none) ∙ i.collectors_are)) i.sit)

-- Each cell contains a task.
pub cells_wait : (jobs : List Job) (ss : List (TaskCell Assignment Back)) (cs : List Collector) → AllSit jobs ss cs
    → (k : ℕ) (d : TaskCell Assignment Back) → k < length ss → waits (slice_index_or ss k d) ≡ true
cells_wait (j ∷ jobs) (Waits assignment ∷ ss) (c ∷ cs) sit zero d inside = refl
cells_wait (j ∷ jobs) (Ended b ∷ ss) (c ∷ cs) sit zero d inside = absurd sit.0
cells_wait (j ∷ jobs) (Empty ∷ ss) (c ∷ cs) sit zero d inside = absurd sit.0
cells_wait (j ∷ jobs) (s ∷ ss) (c ∷ cs) sit (suc k) d inside =
    cells_wait jobs ss cs sit.1 k d (omega (arith, inside))
cells_wait [] [] [] sit k d inside = absurd (omega (arith, inside))
cells_wait [] (s ∷ ss) cs sit k d inside = absurd sit
cells_wait [] [] (c ∷ cs) sit k d inside = absurd sit
cells_wait (j ∷ jobs) [] cs sit k d inside = absurd sit
cells_wait (j ∷ jobs) (s ∷ ss) [] sit k d inside = absurd sit

-- There is a cell for each job.
pub sit_count : (jobs : List Job) (ss : List (TaskCell Assignment Back)) (cs : List Collector) → AllSit jobs ss cs
    → length ss ≡ length jobs
sit_count [] [] [] sit = refl
sit_count (j ∷ jobs) (s ∷ ss) (c ∷ cs) sit = ap (λ (n : ℕ). suc n) (sit_count jobs ss cs sit.1)
sit_count [] (s ∷ ss) cs sit = absurd sit
sit_count [] [] (c ∷ cs) sit = absurd sit
sit_count (j ∷ jobs) [] cs sit = absurd sit
sit_count (j ∷ jobs) (s ∷ ss) [] sit = absurd sit
