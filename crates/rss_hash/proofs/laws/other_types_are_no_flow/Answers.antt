use Rattle.rss_hash.proofs.EthernetFrames.{flow_of-other}
use Rattle.rss_hash.proofs.laws.other_types_are_no_flow.Goals as goal

pub returns : goal.returns
returns c = flow_of-other
