use Rattle.debugger.proofs.Early.{replayed-on}
use Rattle.debugger.proofs.debugger.Debugger.step.Goals as goal

pub invariant_of-self : goal.invariant_of-self
invariant_of-self c =
    replayed-on c.self.inside.object.items c.self.inside.config c.self.inside.machine c.run_on.new.machine
    c.self.inside.snapshots.kept.items c.run_on.new.snapshots.kept.items c.self.invariant.0 c.self.invariant.1
    c.run_on.ensures.at c.run_on.ensures.of

pub invariant_of-self-in-Err : goal.invariant_of-self-in-Err
invariant_of-self-in-Err c =
    replayed-on c.self.inside.object.items c.self.inside.config c.self.inside.machine c.run_on.new.machine
    c.self.inside.snapshots.kept.items c.run_on.new.snapshots.kept.items c.self.invariant.0 c.self.invariant.1
    c.run_on.ensures.at c.run_on.ensures.of
