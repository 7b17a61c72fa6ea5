use Rattle.std.proofs.Common.{refl}
use Rattle.rss_hash.specs.Flow.{flow_of}
use Rattle.rss_hash.proofs.flow.tagged_frames_are_no_flow.Goals as goal

pub returns : goal.returns
unfolding flow_of
returns c = λ frame tagged. rw tagged refl
