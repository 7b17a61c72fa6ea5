use Rattle.std.proofs.Common.{sym, ap, ◌∙◌, arith, Ok}
use Rattle.machine.specs.Course.{Course}
use Rattle.debugger.proofs.Early.{early-is, at-early}
use Rattle.debugger.proofs.running.early.Goals as goal

pub returns-in_ok-machine-in-Some-clause-program : goal.returns-in_ok-machine-in-Some-clause-program
returns-in_ok-machine-in-Some-clause-program c =
    let is = early-is c.args.object.now c.args.config c.args.snapshots.now.kept.items c.in-Some.snapshot.now
    c.args.steps c.requires.object c.requires.of c.in-Some.ensures in
    is.0 ∙ ap (λ (m : Course). Ok m.program) (sym c.in_ok-machine-in-Some.ensures)

pub returns-in_ok-machine-in-Some-clause-config : goal.returns-in_ok-machine-in-Some-clause-config
returns-in_ok-machine-in-Some-clause-config c =
    let is = early-is c.args.object.now c.args.config c.args.snapshots.now.kept.items c.in-Some.snapshot.now
    c.args.steps c.requires.object c.requires.of c.in-Some.ensures in
    ap (λ (m : Course). m.config) c.in_ok-machine-in-Some.ensures ∙ is.1

pub returns-in_ok-machine-in-Some-clause-at : goal.returns-in_ok-machine-in-Some-clause-at
returns-in_ok-machine-in-Some-clause-at c =
    let is = early-is c.args.object.now c.args.config c.args.snapshots.now.kept.items c.in-Some.snapshot.now
    c.args.steps c.requires.object c.requires.of c.in-Some.ensures in
    let same = ap (λ (m : Course). m.config) c.in_ok-machine-in-Some.ensures ∙ is.1 in
    at-early c.in_ok-machine-in-Some.machine c.args.config c.steps-steps.result same c.steps-steps.ensures.count
    c.steps-steps.ensures.at

pub returns-in_ok-machine-in-Some-clause-early : goal.returns-in_ok-machine-in-Some-clause-early
returns-in_ok-machine-in-Some-clause-early c =
    let is = early-is c.args.object.now c.args.config c.args.snapshots.now.kept.items c.in-Some.snapshot.now
    c.args.steps c.requires.object c.requires.of c.in-Some.ensures in
    let same = ap (λ (m : Course). m.state.steps) c.in_ok-machine-in-Some.ensures in
    omega (arith, is.2, same)
