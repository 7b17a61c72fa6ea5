use Rattle.std.proofs.Common.{below_more}
use Rattle.device_lock.proofs.compare.lowest_mismatch.Goals as goal

pub loop-tag-preserved : goal.loop-tag-preserved
loop-tag-preserved c = below_more _ _ c.loop-tag.invariant (c.tag_stands.ensures.0 c.if-not-tag_stands.false)
