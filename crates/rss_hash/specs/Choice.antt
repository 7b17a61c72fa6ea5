-- The part of a flow that the register MRQC selects for hashing.
use Rattle.std.specs.Prelude.{ℕ, ◌==◌, ◌&&◌, Bool, true, List, [], ◌∷◌, take, find, unwrap_or, if◌then◌else◌}
use Rattle.rss_hash.specs.Mrqc.{enables, queue_mode_of, is_hashing}
use Rattle.rss_hash.specs.declared.flow.Flow.{Flow}
use Rattle.rss_hash.specs.declared.choice.RssType.{RssType}
use Rattle.rss_hash.specs.declared.choice.RssType.TheVariants.{NoHash, TcpIpv4, Ipv4, TcpIpv6, Ipv6, UdpIpv4, UdpIpv6}

-- The number that stands for a type in a receive descriptor.
abbrev pub code_of : RssType → ℕ
code_of NoHash = 0
code_of TcpIpv4 = 1
code_of Ipv4 = 2
code_of TcpIpv6 = 3
code_of Ipv6 = 5
code_of UdpIpv4 = 7
code_of UdpIpv6 = 8

-- Whether a type applies to a flow.
abbrev pub suits : RssType → Flow → Bool
suits NoHash flow = true
suits TcpIpv4 flow = (flow.version == 4) && flow.tcp
suits Ipv4 flow = flow.version == 4
suits TcpIpv6 flow = (flow.version == 6) && flow.tcp
suits Ipv6 flow = flow.version == 6
suits UdpIpv4 flow = (flow.version == 4) && flow.udp
suits UdpIpv6 flow = (flow.version == 6) && flow.udp

-- Whether MRQC enables a type.
abbrev pub is_enabled : ℕ → RssType → Bool
is_enabled mrqc NoHash = true
is_enabled mrqc TcpIpv4 = enables mrqc 16
is_enabled mrqc Ipv4 = enables mrqc 17
is_enabled mrqc TcpIpv6 = enables mrqc 21
is_enabled mrqc Ipv6 = enables mrqc 20
is_enabled mrqc UdpIpv4 = enables mrqc 22
is_enabled mrqc UdpIpv6 = enables mrqc 23

-- The types in order of precedence: types that hash ports come before types that hash only addresses.
abbrev pub by_precedence : List RssType
by_precedence = TcpIpv4 ∷ UdpIpv4 ∷ TcpIpv6 ∷ UdpIpv6 ∷ Ipv4 ∷ Ipv6 ∷ []

-- The first enabled type that applies to the flow.
unfoldable pub first_enabled : ℕ → Flow → RssType
first_enabled mrqc flow = unwrap_or (find (λ t. suits t flow && is_enabled mrqc t) by_precedence) NoHash

-- The type of a flow, or `NoHash` in a mode that doesn't hash.
unfoldable pub rss_type_of : ℕ → Flow → RssType
rss_type_of mrqc flow = if is_hashing (queue_mode_of mrqc) then first_enabled mrqc flow else NoHash

-- The part of a flow's input that a type hashes: nothing, the addresses, or the addresses and the ports.
abbrev pub hashed_part : RssType → List ℕ → List ℕ
hashed_part NoHash input = []
hashed_part TcpIpv4 input = input
hashed_part Ipv4 input = take 8 input
hashed_part TcpIpv6 input = input
hashed_part Ipv6 input = take 32 input
hashed_part UdpIpv4 input = input
hashed_part UdpIpv6 input = input
