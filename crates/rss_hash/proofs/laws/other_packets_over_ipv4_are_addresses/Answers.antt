use Rattle.std.proofs.Common.{◌∙◌}
use Rattle.rss_hash.proofs.EthernetFrames.{flow_of-ipv4}
use Rattle.rss_hash.proofs.Ipv4Frames.{is_ipv4-ipv4, others-ipv4}
use Rattle.rss_hash.proofs.laws.other_packets_over_ipv4_are_addresses.Goals as goal

pub returns : goal.returns
returns c = λ to from h payload are is six seventeen.
    flow_of-ipv4 to from _ are (is_ipv4-ipv4 h payload is) ∙ others-ipv4 h payload is six seventeen
