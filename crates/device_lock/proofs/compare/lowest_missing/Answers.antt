use Rattle.std.proofs.Common.{below_more, arith, ◌<◌}
use Rattle.device_lock.specs.Closing.{tag_count}
use Rattle.device_lock.proofs.compare.lowest_missing.Goals as goal

pub loop-tag-preserved : goal.loop-tag-preserved
loop-tag-preserved c =
    let some : 0 < tag_count c.args.bench c.loop-tag.tag c.args.passes.now = omega arith in
    below_more _ _ c.loop-tag.invariant some
