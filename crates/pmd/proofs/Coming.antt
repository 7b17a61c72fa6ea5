-- Lemmas about workers that have returned, and their results for the jobs.
use Rattle.std.proofs.Common.{◌≡◌, ℕ, zero, suc, ◌<◌, ◌++◌, List, take, refl, ap, [], ◌∷◌, length, set, slice_index_or, inl, inr, sym, ◌∙◌, subst, arith}
use Rattle.std.proofs.Math.Seq.{take-append_seam}
use Rattle.std.proofs.lemmas.Bool.{cases_eq}
use Rattle.std.proofs.lemmas.List.{length-set, get_or-set_same, get_or-set_other}
use Rattle.rtrb.specs.Ring.{sent}
use Rattle.pmd.specs.TaskCells.{IsEnded, EachEnded}
use Rattle.pmd.specs.declared.cell.TaskCell.{TaskCell}
use Rattle.pmd.specs.declared.cell.TaskCell.TheVariants.{Waits, Ended, Empty}
use Rattle.pmd.specs.declared.job.Job.{Job}
use Rattle.pmd.specs.declared.reports.Collector.{Collector}
use Rattle.pmd.specs.Coming.{Sits, AllSit, IsDrained, AreDrained, HasEnded, AllEnded, HasCome, HaveCome, IsMade, AreMade}
use Rattle.pmd.specs.Ends.{IsEndOf, IsBack, IsEnd, AreEnds}
use Rattle.pmd.specs.declared.assignment.Back.{Back}
use Rattle.pmd.specs.declared.assignment.Assignment.{Assignment}
use Rattle.pmd.specs.declared.ends.WorkerEnd.{WorkerEnd}

drained_again : (a b c : Collector) → IsDrained a b → IsDrained b c → IsDrained a c
drained_again a b c (first, kept) (second, again) = (
  (
    (
      second.0.0 ∙ first.0.0,
      second.0.1 ∙ first.0.1,
      second.0.2 ∙ first.0.2,
      second.0.3 ∙ first.0.3,
    ),
    second.1 ∙ first.1,
  ),
  again ∙ kept,
)

same_there : (cs : List Collector) (i : ℕ) (x y : Collector) → i < length cs
    → slice_index_or cs i x ≡ slice_index_or cs i y
same_there [] i x y inside = absurd (omega (arith, inside))
same_there (c ∷ cs) zero x y inside = refl
same_there (c ∷ cs) (suc i) x y inside = same_there cs i x y (omega (arith, inside))

-- If reports of one more worker are taken, the collectors' only change is still that reports were taken.
pub drained_more : (old cs : List Collector) (i : ℕ) (x d : Collector) → i < length cs → AreDrained old cs
    → IsDrained (slice_index_or cs i x) d → AreDrained old (set cs i d)
drained_more old cs i x d inside drained one = (
  length-set cs i d ∙ drained.0,
  λ k c less. elim (cases_eq k i) [
    | inl e ↦ rw (e, get_or-set_same cs i d c inside)
        (drained_again (slice_index_or old i c) (slice_index_or cs i c) d
        (drained.1 i c (omega (arith, e, less)))
        (subst (λ (y : Collector). IsDrained y d) (same_there cs i x c inside) one))
    | inr ne ↦ rw (get_or-set_other cs i k d c ne) (drained.1 k c less)
  ],
)

-- After the run, one job's worker has ended, and its remaining reports can be taken.
one_ended : (j : Job) (s t : TaskCell Assignment Back) (c d : Collector) → Sits j s c → IsEnded IsBack s t →
    IsDrained c d
    → HasEnded j t d
one_ended j (Waits assignment) (Ended b) c d (is, pair, room) (end, ring) (same, kept) = (
  subst (λ (x : Job). IsEndOf x b.pass b.rest (sent b.producer) b.fault) is end,
  (
    same.0.0 ∙ (pair.0 ∙ sym ring.0.0),
    same.0.1 ∙ (pair.1 ∙ sym ring.0.1),
    same.0.2 ∙ (pair.2 ∙ sym ring.0.2),
    same.0.3 ∙ (pair.3 ∙ sym ring.0.3),
  ),
  rw kept room,
)
one_ended j (Waits assignment) (Waits other) c d sits ended drained = absurd ended
one_ended j (Waits assignment) Empty c d sits ended drained = absurd ended
one_ended j (Ended b) t c d sits ended drained = absurd sits
one_ended j Empty t c d sits ended drained = absurd sits

pub all_ended : (jobs : List Job) (cells after : List (TaskCell Assignment Back)) (old new : List Collector)
    → AllSit jobs cells old → length after ≡ length cells → EachEnded IsBack cells after → AreDrained old new
    → AllEnded jobs after new
all_ended [] [] [] [] [] sit count ended drained = tt
all_ended [] [] [] [] (d ∷ new) sit count ended drained = absurd (omega (arith, drained.0))
all_ended [] [] (t ∷ after) old new sit count ended drained = absurd (omega (arith, count))
all_ended (j ∷ jobs) (s ∷ cells) [] old new sit count ended drained = absurd (omega (arith, count))
all_ended (j ∷ jobs) (s ∷ cells) (t ∷ after) (c ∷ old) [] sit count ended drained = absurd (omega (arith, drained.0))
all_ended (j ∷ jobs) (s ∷ cells) (t ∷ after) (c ∷ old) (d ∷ new) sit count ended drained = (
  one_ended j s t c d sit.0 (ended 0 s (omega arith)) (drained.1 0 c (omega arith)),
  all_ended jobs cells after old new sit.1 (omega (arith, count))
      (λ i x less. ended (suc i) x (omega (arith, less)))
      (omega (arith, drained.0), λ i x less. drained.1 (suc i) x (omega (arith, less))),
)
all_ended [] (s ∷ cells) after old new sit count ended drained = absurd sit
all_ended [] [] after (c ∷ old) new sit count ended drained = absurd sit
all_ended (j ∷ jobs) [] after old new sit count ended drained = absurd sit
all_ended (j ∷ jobs) (s ∷ cells) after [] new sit count ended drained = absurd sit

-- The first elements of a vector, after its slice was changed.
taken : {A : Type 0} → (xs rest : List A) (n : ℕ) → n ≡ length xs → take n (xs ++ rest) ≡ xs
taken xs rest n is = ap (λ (k : ℕ). take k (xs ++ rest)) is ∙ take-append_seam xs rest

-- After a run over all cells and collectors, each job's worker has ended.
pub run_over : (jobs : List Job) (cells after : List (TaskCell Assignment Back)) (old new : List Collector) (count : ℕ)
    (left : List Collector) → AllSit jobs cells old → length after ≡ length cells → count ≡ length old
    → EachEnded IsBack cells after → AreDrained old new → AllEnded jobs after (take count (new ++ left))
run_over jobs cells after old new count left sit same has ended drained =
    rw (taken new left count (has ∙ sym drained.0)) (all_ended jobs cells after old new sit same ended drained)

one_come : (j : Job) (t : TaskCell Assignment Back) (d : Collector) → HasEnded j t d → HasCome t d
one_come j (Ended b) d (end, pair, room) = (pair, omega (arith, end.few, room))
one_come j (Waits assignment) d ended = absurd ended
one_come j Empty d ended = absurd ended

-- Each worker's remaining reports can be taken.
pub all_come : (jobs : List Job) (cells : List (TaskCell Assignment Back)) (collectors : List Collector)
    → AllEnded jobs cells collectors → HaveCome cells collectors
all_come [] [] [] ended = tt
all_come (j ∷ jobs) (t ∷ cells) (d ∷ collectors) ended =
    (one_come j t d ended.0, all_come jobs cells collectors ended.1)
all_come [] (t ∷ cells) collectors ended = absurd ended
all_come [] [] (d ∷ collectors) ended = absurd ended
all_come (j ∷ jobs) [] collectors ended = absurd ended
all_come (j ∷ jobs) (t ∷ cells) [] ended = absurd ended

one_end : (j : Job) (t : TaskCell Assignment Back) (d : Collector) (e : WorkerEnd) → HasEnded j t d → IsMade t e →
    IsEnd j e
one_end j (Ended b) d e ended (pass, rest, reports, fault) = rw (pass, rest, reports, fault) ended.0
one_end j (Waits assignment) d e ended made = absurd ended
one_end j Empty d e ended made = absurd ended

-- The collected results are the jobs' results.
pub all_ends : (jobs : List Job) (cells : List (TaskCell Assignment Back)) (collectors : List Collector)
    (ends : List WorkerEnd) → AllEnded jobs cells collectors → AreMade cells ends → AreEnds jobs ends
all_ends [] [] [] [] ended made = tt
all_ends (j ∷ jobs) (t ∷ cells) (d ∷ collectors) (e ∷ ends) ended made =
    (one_end j t d e ended.0 made.0, all_ends jobs cells collectors ends ended.1 made.1)
all_ends [] [] [] (e ∷ ends) ended made = absurd made
all_ends (j ∷ jobs) (t ∷ cells) (d ∷ collectors) [] ended made = absurd made
all_ends [] (t ∷ cells) collectors ends ended made = absurd ended
all_ends [] [] (d ∷ collectors) ends ended made = absurd ended
all_ends (j ∷ jobs) [] collectors ends ended made = absurd ended
all_ends (j ∷ jobs) (t ∷ cells) [] ends ended made = absurd ended
