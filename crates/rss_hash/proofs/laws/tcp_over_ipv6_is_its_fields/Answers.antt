use Rattle.std.proofs.Common.{◌∙◌}
use Rattle.rss_hash.proofs.EthernetFrames.{flow_of-ipv6}
use Rattle.rss_hash.proofs.Ipv6Frames.{is_ipv6-ipv6, tcp-ipv6}
use Rattle.rss_hash.proofs.laws.tcp_over_ipv6_is_its_fields.Goals as goal

pub returns : goal.returns
returns c = λ to from h source destination payload are is six ports.
    flow_of-ipv6 to from _ are (is_ipv6-ipv6 h _ is) ∙ tcp-ipv6 h source destination payload is six ports
