use Rattle.std.proofs.Common.{◌∙◌}
use Rattle.rss_hash.proofs.Fields.{contains_bit}
use Rattle.rss_hash.proofs.choice.RssType.is_enabled.Goals as goal

pub returns-in-TcpIpv4 : goal.returns-in-TcpIpv4
returns-in-TcpIpv4 c =
    rw c.in-TcpIpv4.is (c.contains.ensures tt ∙ rw (c.from_bits_retain-fields.ensures tt) (contains_bit c.args.mrqc 16))

pub returns-in-Ipv4 : goal.returns-in-Ipv4
returns-in-Ipv4 c =
    rw c.in-Ipv4.is (c.contains-in-Ipv4.ensures tt
    ∙ rw (c.from_bits_retain-fields.ensures tt) (contains_bit c.args.mrqc 17))

pub returns-in-TcpIpv6 : goal.returns-in-TcpIpv6
returns-in-TcpIpv6 c =
    rw c.in-TcpIpv6.is (c.contains-in-TcpIpv6.ensures tt
    ∙ rw (c.from_bits_retain-fields.ensures tt) (contains_bit c.args.mrqc 21))

pub returns-in-Ipv6 : goal.returns-in-Ipv6
returns-in-Ipv6 c =
    rw c.in-Ipv6.is (c.contains-in-Ipv6.ensures tt
    ∙ rw (c.from_bits_retain-fields.ensures tt) (contains_bit c.args.mrqc 20))

pub returns-in-UdpIpv4 : goal.returns-in-UdpIpv4
returns-in-UdpIpv4 c =
    rw c.in-UdpIpv4.is (c.contains-in-UdpIpv4.ensures tt
    ∙ rw (c.from_bits_retain-fields.ensures tt) (contains_bit c.args.mrqc 22))

pub returns-in-UdpIpv6 : goal.returns-in-UdpIpv6
returns-in-UdpIpv6 c =
    rw c.in-UdpIpv6.is (c.contains-in-UdpIpv6.ensures tt
    ∙ rw (c.from_bits_retain-fields.ensures tt) (contains_bit c.args.mrqc 23))
