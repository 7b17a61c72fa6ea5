-- What a driver author can rely on: a frame that is built from header fields is classified by these fields.
use Rattle.std.specs.Prelude.{◌≡◌, ◌≢◌, ℕ, ◌⊎◌, true, false, List, ◌++◌, length}
use Rattle.rss_hash.specs.Built.{ethernet, Ipv4Header, IsIpv4Header, ipv4_frame, Ipv6Header, IsIpv6Header, ipv6_frame}
use Rattle.rss_hash.specs.Flow.{no_flow}
use Rattle.rss_hash.specs.declared.flow.Flow.{Flow}

-- A TCP flow: its addresses and its ports.
abbrev pub tcp_flow : (version : ℕ) (addresses ports : List ℕ) → Flow
tcp_flow version addresses ports = record { version = version; tcp = true; udp = false; input = addresses ++ ports }

-- A UDP flow: its addresses and its ports.
abbrev pub udp_flow : (version : ℕ) (addresses ports : List ℕ) → Flow
udp_flow version addresses ports = record { version = version; tcp = false; udp = true; input = addresses ++ ports }

-- Any other IP flow: its addresses.
abbrev pub plain_flow : (version : ℕ) (addresses : List ℕ) → Flow
plain_flow version addresses = record { version = version; tcp = false; udp = false; input = addresses }

-- A frame's destination and source addresses. Each address has six bytes.
pub record AreStations (to from : List ℕ) : Type 0 where
  pub destination : length to ≡ 6
  pub source : length from ≡ 6

-- The source and destination ports. Each port has two bytes.
pub record ArePorts (from to : List ℕ) : Type 0 where
  pub source : length from ≡ 2
  pub destination : length to ≡ 2

-- The header's packet isn't a fragment of a larger one.
abbrev pub IsWhole : Ipv4Header → Type 0
IsWhole header = (header.more_fragments ≡ false) × (header.offset ≡ 0)

-- The header's packet is a fragment: more fragments follow the packet, or it isn't the first fragment.
abbrev pub IsFragment : Ipv4Header → Type 0
IsFragment header = (header.more_fragments ≡ true) ⊎ (header.offset ≢ 0)

-- An unfragmented IPv4 packet with a protocol that has ports is classified by its addresses and its ports, whatever
-- follows the ports.
abbrev pub PortsOverIpv4 : (protocol : ℕ) → (ℕ → List ℕ → List ℕ → Flow) → (List ℕ → Flow) → Type 0
PortsOverIpv4 protocol flow classify =
    (to from : List ℕ) (header : Ipv4Header) (source_port destination_port payload : List ℕ) →
    AreStations to from → IsIpv4Header header → IsWhole header → header.protocol ≡ protocol →
    ArePorts source_port destination_port →
    classify (ipv4_frame to from header (source_port ++ (destination_port ++ payload)))
    ≡ flow 4 (header.source ++ header.destination) (source_port ++ destination_port)

-- An IPv4 packet with a protocol other than TCP and UDP is classified by its addresses, whether or not it is a fragment
-- and whatever the packet carries.
abbrev pub OthersOverIpv4 : (List ℕ → Flow) → Type 0
OthersOverIpv4 classify =
    (to from : List ℕ) (header : Ipv4Header) (payload : List ℕ) → AreStations to from → IsIpv4Header header →
    header.protocol ≢ 6 → header.protocol ≢ 17 →
    classify (ipv4_frame to from header payload) ≡ plain_flow 4 (header.source ++ header.destination)

-- A fragment of an IPv4 packet is classified by its addresses, without ports, whatever the fragment's protocol is and
-- whatever the fragment carries.
abbrev pub FragmentsHaveNoPorts : (List ℕ → Flow) → Type 0
FragmentsHaveNoPorts classify =
    (to from : List ℕ) (header : Ipv4Header) (payload : List ℕ) → AreStations to from → IsIpv4Header header →
    IsFragment header →
    classify (ipv4_frame to from header payload) ≡ plain_flow 4 (header.source ++ header.destination)

-- An IPv6 packet whose next header is a protocol with ports is classified by its addresses and its ports, whatever
-- follows the ports.
abbrev pub PortsOverIpv6 : (protocol : ℕ) → (ℕ → List ℕ → List ℕ → Flow) → (List ℕ → Flow) → Type 0
PortsOverIpv6 protocol flow classify =
    (to from : List ℕ) (header : Ipv6Header) (source_port destination_port payload : List ℕ) →
    AreStations to from → IsIpv6Header header → header.next_header ≡ protocol →
    ArePorts source_port destination_port →
    classify (ipv6_frame to from header (source_port ++ (destination_port ++ payload)))
    ≡ flow 6 (header.source ++ header.destination) (source_port ++ destination_port)

-- An IPv6 packet with a next header other than TCP and UDP, including an extension header, is classified by its
-- addresses, whatever the packet carries.
abbrev pub OthersOverIpv6 : (List ℕ → Flow) → Type 0
OthersOverIpv6 classify =
    (to from : List ℕ) (header : Ipv6Header) (payload : List ℕ) → AreStations to from → IsIpv6Header header →
    header.next_header ≢ 6 → header.next_header ≢ 17 →
    classify (ipv6_frame to from header payload) ≡ plain_flow 6 (header.source ++ header.destination)

-- A frame whose EtherType is neither IPv4's nor IPv6's isn't a flow, whatever the frame carries. This includes tagged
-- frames.
abbrev pub OtherTypesAreNoFlow : (List ℕ → Flow) → Type 0
OtherTypesAreNoFlow classify =
    (to from : List ℕ) (type : ℕ) (packet : List ℕ) → AreStations to from → type ≢ 0x0800 → type ≢ 0x86DD →
    classify (ethernet to from type packet) ≡ no_flow
