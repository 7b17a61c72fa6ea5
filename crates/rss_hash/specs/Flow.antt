-- How receive side scaling classifies a frame.
use Rattle.std.specs.Prelude.{ℕ, ◌==◌, ◌&&◌, ◌||◌, Bool, false, List, [], ◌++◌, if◌then◌else◌}
use Rattle.rss_hash.specs.Frame.{ether_type, packet_of}
use Rattle.rss_hash.specs.Ipv4.{is_ipv4, ipv4_carries, ipv4_addresses, ipv4_ports}
use Rattle.rss_hash.specs.Ipv6.{is_ipv6, ipv6_carries, ipv6_addresses, ipv6_ports}
use Rattle.rss_hash.specs.declared.flow.Flow.{Flow}

-- An IP flow. The flow's input is its addresses, followed by its ports if the flow is TCP or UDP.
abbrev pub ip_flow : (version : ℕ) (tcp udp : Bool) (addresses ports : List ℕ) → Flow
ip_flow version tcp udp addresses ports =
    record { version = version; tcp = tcp; udp = udp; input = addresses ++ (if tcp || udp then ports else []) }

-- The flow of an IP packet. TCP is protocol 6, UDP is 17.
unfoldable pub ipv4_flow : List ℕ → Flow
ipv4_flow packet =
    ip_flow 4 (ipv4_carries 6 packet) (ipv4_carries 17 packet) (ipv4_addresses packet) (ipv4_ports packet)

unfoldable pub ipv6_flow : List ℕ → Flow
ipv6_flow packet =
    ip_flow 6 (ipv6_carries 6 packet) (ipv6_carries 17 packet) (ipv6_addresses packet) (ipv6_ports packet)

-- The flow of any other frame, including tagged frames.
abbrev pub no_flow : Flow
no_flow = record { version = 0; tcp = false; udp = false; input = [] }

-- The flow of a frame, determined by the frame's type and its packet.
unfoldable pub flow_of : List ℕ → Flow
flow_of frame =
    if (ether_type frame == 0x0800) && is_ipv4 (packet_of frame) then ipv4_flow (packet_of frame)
    else (if (ether_type frame == 0x86DD) && is_ipv6 (packet_of frame) then ipv6_flow (packet_of frame) else no_flow)
