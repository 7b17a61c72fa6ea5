use Rattle.std.proofs.Common.{below_more, ◌∙◌, sym}
use Rattle.device_lock.proofs.compare.is_each_once.Goals as goal

pub loop-tag-preserved : goal.loop-tag-preserved
loop-tag-preserved c = below_more _ _ c.loop-tag.invariant (sym c.tag_count.ensures ∙ c.if-tag_count-ne1.false)
