use Rattle.std.proofs.Common.{◌∙◌}
use Rattle.rss_hash.proofs.EthernetFrames.{flow_of-ipv6}
use Rattle.rss_hash.proofs.Ipv6Frames.{is_ipv6-ipv6, others-ipv6}
use Rattle.rss_hash.proofs.laws.other_packets_over_ipv6_are_addresses.Goals as goal

pub returns : goal.returns
returns c = λ to from h payload are is six seventeen.
    flow_of-ipv6 to from _ are (is_ipv6-ipv6 h payload is) ∙ others-ipv6 h payload is six seventeen
