use Rattle.std.proofs.Common.{sym, ap, ◌∙◌, arith}
use Rattle.program.specs.Object.{read_of}
use Rattle.debugger.proofs.Back.{back-done}
use Rattle.debugger.proofs.debugger.Debugger.back.Goals as goal

pub replay-requires-clause-of : goal.replay-requires-clause-of
replay-requires-clause-of c machine is =
    c.self.invariant.1 machine (ap read_of (sym c.deref.ensures.value) ∙ is)

pub returns-in-Ok : goal.returns-in-Ok
returns-in-Ok c =
    back-done c.args.self.now _ _ c.self.inside.config c.self.inside.machine c.replace-former.new.dest c.in-Ok.machine
    c.self.inside.breakpoints.items c.steps-steps.result c.args.count c.view.result c.self.view_is c.self.invariant.0
    c.deref.ensures.value c.in-Ok.ensures.program c.in-Ok.ensures.config c.in-Ok.ensures.steps
    c.replace-former.ensures.after
    c.steps-steps.ensures.count (omega arith) c.view.ensures
