use Rattle.std.proofs.Common.{◌∙◌}
use Rattle.rss_hash.proofs.EthernetFrames.{flow_of-ipv4}
use Rattle.rss_hash.proofs.Ipv4Frames.{is_ipv4-ipv4, udp-ipv4}
use Rattle.rss_hash.proofs.laws.udp_over_ipv4_is_its_fields.Goals as goal

pub returns : goal.returns
returns c = λ to from h source destination payload are is whole seventeen ports.
    flow_of-ipv4 to from _ are (is_ipv4-ipv4 h _ is) ∙ udp-ipv4 h source destination payload is whole seventeen ports
