use Rattle.std.proofs.Common.{◌∙◌, ap, arith}
use Rattle.device_lock.specs.Pass.{fresh_pass}
use Rattle.device_lock.proofs.Fresh.{fresh_more}
use Rattle.device_lock.proofs.shared.fresh_passes.Goals as goal

pub loop-tag-preserved : goal.loop-tag-preserved
loop-tag-preserved c = (
  omega (arith, c.in_ok-push.ensures.len, c.loop-tag.invariant.0),
  rw c.in_ok-push.ensures.items (fresh_more c.args.bench 0 c.loop-tag.passes.items c.new.result c.loop-tag.invariant.1
      (c.new.ensures ∙ ap (λ n. fresh_pass c.args.bench n) (omega arith))),
)
