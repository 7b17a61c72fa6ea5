use Rattle.std.proofs.Common.{◌≡◌, ◌+◌, OnOk, vec_len}
use Rattle.bench.proofs.gathered.gather.Given as goal

abbrev pub invariant-loop-end : goal.invariant-loop-end
invariant-loop-end l = OnOk l.done (vec_len l.gathered.reports + vec_len l.ends ≡ vec_len l.fn.ran.ends)

abbrev pub decreases-loop-end : goal.decreases-loop-end
decreases-loop-end l = goal.left-loop-end l
