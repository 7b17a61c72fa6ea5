use Rattle.std.proofs.Common.{arith}
use Rattle.debugger.proofs.Early.{before-is}
use Rattle.debugger.proofs.snapshots.Snapshots.before.Goals as goal

pub returns-then-steps : goal.returns-then-steps
returns-then-steps c machine all =
    before-is machine c.index-kept-at.result c.args.self.now.kept.items c.as_slice-kept.result.now _ c.steps.result
    c.args.steps all c.as_slice-kept.ensures.value (omega arith) c.index-kept-at.is c.steps.ensures.count (omega arith)
