use Rattle.std.proofs.Common.{◌≡◌, List, [], ◌++◌, ℕ, map}
use Rattle.std.specs.Vec.Iter.{into_iter_items}
use Rattle.pmd_driver.specs.DeviceLock.Pass.{IsOwn}
use Rattle.pmd.specs.Feeding.{HaveArrived, done_in, gained}
use Rattle.pmd.proofs.feeding.feed.Given as goal

abbrev pub invariant-loop-frame : goal.invariant-loop-frame
invariant-loop-frame g l =
    (before : List (List ℕ))
    × (before ++ map (λ frame. frame.items) (into_iter_items l.frame-iterator)
    ≡ map (λ frame. frame.items) l.fn.frames.items)
    × HaveArrived before l.fn.pass l.pass
    × (l.done ≡ done_in (gained l.fn.pass l.pass))
    × (¬ IsOwn l.fn.shared.bench l.fn.shared.passes l.fn.pass → (before ≡ []) × (l.pass ≡ l.fn.pass))
