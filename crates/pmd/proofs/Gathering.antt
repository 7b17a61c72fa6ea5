-- Lemmas: the workers' results are collected one after the other.
use Rattle.std.proofs.Common.{◌≡◌, ◌<◌, List, [], ◌∷◌, ◌++◌, length, slice_index_or, sym, ◌∙◌, subst, append_assoc, append-nil, arith}
use Rattle.std.specs.List.{remove}
use Rattle.pmd.specs.declared.cell.TaskCell.{TaskCell}
use Rattle.pmd.specs.declared.reports.Collector.{Collector}
use Rattle.pmd.specs.Coming.{HasCome, HaveCome, IsMade, AreMade}
use Rattle.pmd.specs.declared.assignment.Back.{Back}
use Rattle.pmd.specs.declared.ends.WorkerEnd.{WorkerEnd}

module _ {T : Type 0} where
  -- If all workers have returned, so has the first one, and so have the others.
  pub first_come : (cells : List (TaskCell T Back)) (cs : List Collector) (s : TaskCell T Back) (c : Collector)
      → 0 < length cells → HaveCome cells cs → s ≡ slice_index_or cells 0 s → c ≡ slice_index_or cs 0 c
      → (0 < length cs) × HasCome s c × HaveCome (remove cells 0) (remove cs 0)
  first_come (t ∷ cells) (d ∷ cs) s c some come is here = (omega arith, rw (is, here) come.0, come.1)
  first_come (t ∷ cells) [] s c some come is here = absurd come
  first_come [] cs s c some come is here = absurd (omega (arith, some))

  made_more : (cells : List (TaskCell T Back)) (ends : List WorkerEnd) (s : TaskCell T Back) (e : WorkerEnd)
      → AreMade cells ends → IsMade s e → AreMade (cells ++ s ∷ []) (ends ++ e ∷ [])
  made_more [] [] s e made one = (one, tt)
  made_more (t ∷ cells) (f ∷ ends) s e made one = (made.0, made_more cells ends s e made.1 one)
  made_more [] (f ∷ ends) s e made one = absurd made
  made_more (t ∷ cells) [] s e made one = absurd made

  -- Some results are collected, and the other workers have returned.
  pub record IsGathered (all cells : List (TaskCell T Back)) (ends : List WorkerEnd) : Type 0 where
    pub before : List (TaskCell T Back)
    pub cells_are : before ++ cells ≡ all
    pub made : AreMade before ends

  -- Collecting the result of the first remaining worker preserves `IsGathered`.
  pub one_gathered : (all cells : List (TaskCell T Back)) (ends : List WorkerEnd) (s : TaskCell T Back) (e : WorkerEnd)
      → IsGathered all cells ends → 0 < length cells → s ≡ slice_index_or cells 0 s → IsMade s e
      → IsGathered all (remove cells 0) (ends ++ e ∷ [])
  one_gathered all (t ∷ cells) ends s e i some is one = record {
    before = i.before ++ t ∷ [];
    cells_are = append_assoc i.before (t ∷ []) cells ∙ i.cells_are;
    made = made_more i.before ends t e i.made (subst (λ (x : TaskCell T Back). IsMade x e) is one);
  }
  one_gathered all [] ends s e i some is one = absurd (omega (arith, some))

  -- If no worker remains, all results are collected.
  pub all_gathered : (all : List (TaskCell T Back)) (ends : List WorkerEnd) → IsGathered all [] ends → AreMade all ends
  all_gathered all ends i =
      subst (λ (l : List (TaskCell T Back)). AreMade l ends) (sym (append-nil i.before) ∙ i.cells_are) i.made
