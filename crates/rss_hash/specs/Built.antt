-- Frames as a driver builds them from header fields, each field in network order.
use Rattle.std.specs.Prelude.{◌≡◌, ℕ, ◌+◌, ◌*◌, ◌/◌, ◌%◌, ◌<◌, ◌≤◌, Bool, List, ◌∷◌, ◌++◌, length, if◌then◌else◌}

-- An Ethernet frame: destination, source, type, and the packet that it carries.
unfoldable pub ethernet : (destination source : List ℕ) (type : ℕ) (packet : List ℕ) → List ℕ
ethernet destination source type packet = destination ++ source ++ type / 256 ∷ type % 256 ∷ packet

-- The fields of an IPv4 header. Each address has 4 bytes, the options are whole words, and the offset is below 2^13.
pub record Ipv4Header : Type 0 where
  pub service : ℕ
  pub total_length : ℕ
  pub identification : ℕ
  pub dont_fragment : Bool
  pub more_fragments : Bool
  pub offset : ℕ
  pub time_to_live : ℕ
  pub protocol : ℕ
  pub checksum : ℕ
  pub source : List ℕ
  pub destination : List ℕ
  pub options : List ℕ

-- A valid header of 5 to 15 words.
pub record IsIpv4Header (header : Ipv4Header) : Type 0 where
  pub source : length header.source ≡ 4
  pub destination : length header.destination ≡ 4
  pub options : length header.options ≡ 4 * (length header.options / 4)
  pub words : 5 + length header.options / 4 ≤ 15
  pub offset : header.offset < 8192

-- The flags and the offset as one number. "Don't fragment" is bit 14, "more fragments" bit 13.
abbrev pub fragment_field : Ipv4Header → ℕ
fragment_field header =
    (if header.dont_fragment then 16384 else 0) + (if header.more_fragments then 8192 else 0) + header.offset

-- An IPv4 packet: version 4 and the header's length in words, followed by the other fields, the addresses, the options,
-- and the payload.
unfoldable pub ipv4 : Ipv4Header → List ℕ → List ℕ
ipv4 header payload =
    (16 * 4 + (5 + length header.options / 4)) ∷ header.service ∷ header.total_length / 256 ∷ header.total_length % 256
    ∷ header.identification / 256 ∷ header.identification % 256
    ∷ fragment_field header / 256 ∷ fragment_field header % 256
    ∷ header.time_to_live ∷ header.protocol ∷ header.checksum / 256 ∷ header.checksum % 256
    ∷ (header.source ++ (header.destination ++ (header.options ++ payload)))

-- The fields of an IPv6 header. Each address has 16 bytes.
pub record Ipv6Header : Type 0 where
  pub traffic_class : ℕ
  pub flow_label : ℕ
  pub payload_length : ℕ
  pub next_header : ℕ
  pub hop_limit : ℕ
  pub source : List ℕ
  pub destination : List ℕ

-- The addresses are complete, and the traffic class is a byte.
pub record IsIpv6Header (header : Ipv6Header) : Type 0 where
  pub source : length header.source ≡ 16
  pub destination : length header.destination ≡ 16
  pub traffic_class : header.traffic_class < 256

-- An IPv6 packet: version 6, followed by the other fields, the addresses, and the payload.
unfoldable pub ipv6 : Ipv6Header → List ℕ → List ℕ
ipv6 header payload =
    (16 * 6 + header.traffic_class / 16) ∷ (16 * (header.traffic_class % 16) + header.flow_label / 65536)
    ∷ header.flow_label / 256 % 256 ∷ header.flow_label % 256
    ∷ header.payload_length / 256 ∷ header.payload_length % 256 ∷ header.next_header ∷ header.hop_limit
    ∷ (header.source ++ (header.destination ++ payload))

-- A frame that carries an IPv4 packet.
abbrev pub ipv4_frame : (destination source : List ℕ) → Ipv4Header → (payload : List ℕ) → List ℕ
ipv4_frame destination source header payload = ethernet destination source 0x0800 (ipv4 header payload)

-- A frame that carries an IPv6 packet.
abbrev pub ipv6_frame : (destination source : List ℕ) → Ipv6Header → (payload : List ℕ) → List ℕ
ipv6_frame destination source header payload = ethernet destination source 0x86DD (ipv6 header payload)
