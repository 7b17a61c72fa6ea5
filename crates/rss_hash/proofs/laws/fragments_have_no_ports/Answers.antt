use Rattle.std.proofs.Common.{◌∙◌}
use Rattle.rss_hash.proofs.EthernetFrames.{flow_of-ipv4}
use Rattle.rss_hash.proofs.Ipv4Frames.{is_ipv4-ipv4, fragments-ipv4}
use Rattle.rss_hash.proofs.laws.fragments_have_no_ports.Goals as goal

pub returns : goal.returns
returns c = λ to from h payload are is fragment.
    flow_of-ipv4 to from _ are (is_ipv4-ipv4 h payload is) ∙ fragments-ipv4 h payload is fragment
