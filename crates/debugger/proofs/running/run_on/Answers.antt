use Rattle.std.proofs.Common.{sym, ◌∙◌, arith}
use Rattle.debugger.proofs.Ran.{all-ran, meets-at, refused-short, refused-takes, stopped-at, stopped-from, stopped-steps, next-at, next-from, next-ran, break-steps}
use Rattle.debugger.proofs.Early.{stay-step}
use Rattle.debugger.proofs.running.run_on.Goals as goal

pub returns-in_err-step-clause-short : goal.returns-in_err-step-clause-short
returns-in_err-step-clause-short c =
    refused-short _ _ _ _ _ c.loop.invariant.ran c.from_residual.result _ c.in_err-step.ensures.unchanged (omega arith)
    c.in_err-step.ensures.memory

pub returns-in_err-step-clause-takes : goal.returns-in_err-step-clause-takes
returns-in_err-step-clause-takes c =
    refused-takes _ _ _ _ _ c.loop.invariant.ran c.from_residual.result _ c.in_err-step.ensures.unchanged
    c.in_err-step.ensures.memory

pub returns-then-branch-clause-at : goal.returns-then-branch-clause-at
returns-then-branch-clause-at c =
    stopped-at _ _ _ _ _ c.loop.invariant.ran _ c.in_ok-step.ensures.state
    (sym c.in_ok-step.ensures.stopped ∙ c.if-branch.true)

pub returns-then-branch-clause-steps : goal.returns-then-branch-clause-steps
returns-then-branch-clause-steps c =
    stopped-steps _ _ _ _ _ c.loop.invariant.ran _ c.in_ok-step.ensures.state
    (sym c.in_ok-step.ensures.stopped ∙ c.if-branch.true)
    (omega arith)

pub returns-then-branch-clause-from : goal.returns-then-branch-clause-from
returns-then-branch-clause-from c =
    stopped-from _ _ _ _ _ c.loop.invariant.ran _ c.in_ok-step.ensures.state
    (sym c.in_ok-step.ensures.stopped ∙ c.if-branch.true)

pub returns-then-has_break-clause-at : goal.returns-then-has_break-clause-at
returns-then-has_break-clause-at c =
    next-at _ _ _ _ _ c.loop.invariant.ran _ c.in_ok-step.ensures.state
    (sym c.in_ok-step.ensures.stopped ∙ c.if-branch.false)

pub returns-then-has_break-clause-steps : goal.returns-then-has_break-clause-steps
returns-then-has_break-clause-steps c =
    break-steps _ _ _ _ _ c.loop.invariant.ran _ c.in_ok-step.ensures.state
    (sym c.in_ok-step.ensures.stopped ∙ c.if-branch.false)
    (meets-at c.args.breakpoints.now.items _ _ _ _ c.pc.ensures c.from.ensures c.has_break.ensures
    ∙ c.if-has_break.true) (omega arith)

pub returns-then-has_break-clause-from : goal.returns-then-has_break-clause-from
returns-then-has_break-clause-from c =
    next-from _ _ _ _ _ c.loop.invariant.ran _ c.in_ok-step.ensures.state
    (sym c.in_ok-step.ensures.stopped ∙ c.if-branch.false)

pub returns-then-has_break-clause-of : goal.returns-then-has_break-clause-of
returns-then-has_break-clause-of c =
    stay-step _ c.loop.machine _ c.args.snapshots.now.kept.items c.loop.snapshots.kept.items _ c.loop.invariant.ran.at
    c.in_ok-step.ensures.state c.loop.invariant.stay c.keep.ensures

pub loop-preserved : goal.loop-preserved
loop-preserved c = record {
  ran = next-ran _ _ _ _ _ c.loop.invariant.ran _ c.in_ok-step.ensures.state
      (sym c.in_ok-step.ensures.stopped ∙ c.if-branch.false)
      (meets-at c.args.breakpoints.now.items _ _ _ _ c.pc.ensures c.from.ensures c.has_break.ensures
      ∙ c.if-has_break.false) (omega arith);
  stay = stay-step _ c.loop.machine _ c.args.snapshots.now.kept.items c.loop.snapshots.kept.items _
      c.loop.invariant.ran.at c.in_ok-step.ensures.state c.loop.invariant.stay c.keep.ensures;
}

pub returns-clause-steps : goal.returns-clause-steps
returns-clause-steps c = all-ran _ _ _ _ _ c.loop.invariant.ran (omega arith)
