use Rattle.std.proofs.Common.{◌≡◌}
use Rattle.std.specs.VecDeque.{deque_len}
use Rattle.pmd_access.specs.Begun.{BeganAs, began_handled}
use Rattle.pmd_access.specs.Scheduled.{made_of, IsMadeTo}
use Rattle.pmd_access.proofs.handled.Handled.make_list.Given as goal

abbrev pub invariant-loop-event : goal.invariant-loop-event
invariant-loop-event l =
    IsMadeTo l.fn.self l.fn.list.items l.self l.list.items × (made_of l.self ≡ made_of l.fn.self)
    × BeganAs began_handled l.fn.self l.self

abbrev pub decreases-loop-event : goal.decreases-loop-event
decreases-loop-event l = deque_len l.list
