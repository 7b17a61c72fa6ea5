-- Lemmas about the type and the packet of a built frame, and about the ports after a header.
use Rattle.std.proofs.Common.{◌≢◌, ◌==◌}
use Rattle.std.proofs.Common.{◌≡◌, ℕ, ◌+◌, ◌-◌, ◌/◌, ◌%◌, ◌≤◌, Bool, true, false}
use Rattle.std.proofs.Common.{List, ◌∷◌, ◌++◌, length, take, drop, slice_index, slice_range, refl, sym, ap, ◌∙◌, arith}
use Rattle.std.proofs.lemmas.Bool.Decides.{nat_tests}
use Rattle.std.proofs.lemmas.List.{length-append, append_assoc, append-nil, take_at, drop_at, drop-drop}
use Rattle.std.proofs.lemmas.List.{get_or-append_right}
use Rattle.rss_hash.specs.Built.{ethernet}
use Rattle.rss_hash.specs.Flow.{flow_of, ip_flow, ipv4_flow, ipv6_flow, no_flow}
use Rattle.rss_hash.specs.Frame.{ether_type, packet_of}
use Rattle.rss_hash.specs.Ipv4.{is_ipv4}
use Rattle.rss_hash.specs.Ipv6.{is_ipv6}
use Rattle.rss_hash.specs.Laws.{AreStations, ArePorts, plain_flow}
use Rattle.rss_hash.proofs.Parts.{joined_parts}

length-addresses : (to from : List ℕ) → AreStations to from → length (to ++ from) ≡ 12
length-addresses to from are = omega (arith, length-append to from, are.destination, are.source)

ether_type-ethernet : (to from : List ℕ) (type : ℕ) (packet : List ℕ) → AreStations to from →
    ether_type (ethernet to from type packet) ≡ type
unfolding ethernet
ether_type-ethernet to from type packet are =
    let long = length-addresses to from are in
    let rest : List ℕ = type / 256 ∷ type % 256 ∷ packet in
    let high : slice_index (to ++ from ++ rest) 12 ≡ type / 256 =
    get_or-append_right (to ++ from) rest 12 12 0 long (omega arith) in
    let low : slice_index (to ++ from ++ rest) 13 ≡ type % 256 =
    get_or-append_right (to ++ from) rest 12 13 0 long (omega arith) in
    omega (arith, high, low)

packet_of-ethernet : (to from : List ℕ) (type : ℕ) (packet : List ℕ) → AreStations to from →
    packet_of (ethernet to from type packet) ≡ packet
unfolding ethernet
packet_of-ethernet to from type packet are =
    let rest : List ℕ = type / 256 ∷ type % 256 ∷ packet in
    sym (drop-drop 2 12 (to ++ from ++ rest))
    ∙ ap (drop 2) (drop_at (to ++ from) rest 12 (length-addresses to from are))

-- The flow of a frame with a known type is the flow of the frame's packet.
pub flow_of-ipv4 : (to from packet : List ℕ) → AreStations to from → is_ipv4 packet ≡ true →
    flow_of (ethernet to from 0x0800 packet) ≡ ipv4_flow packet
unfolding flow_of
flow_of-ipv4 to from packet are four =
    rw (ether_type-ethernet to from 0x0800 packet are, packet_of-ethernet to from 0x0800 packet are, four) refl

pub flow_of-ipv6 : (to from packet : List ℕ) → AreStations to from → is_ipv6 packet ≡ true →
    flow_of (ethernet to from 0x86DD packet) ≡ ipv6_flow packet
unfolding flow_of
flow_of-ipv6 to from packet are six =
    rw (ether_type-ethernet to from 0x86DD packet are, packet_of-ethernet to from 0x86DD packet are, six) refl

pub flow_of-other : (to from : List ℕ) (type : ℕ) (packet : List ℕ) → AreStations to from →
    type ≢ 2048 → type ≢ 34525 → flow_of (ethernet to from type packet) ≡ no_flow
unfolding flow_of
flow_of-other to from type packet are not_four not_six =
    let four : (type == 2048) ≡ false = grind (arith, nat_tests) in
    let six : (type == 34525) ≡ false = grind (arith, nat_tests) in
    rw (ether_type-ethernet to from type packet are, four, six) refl

-- If the two ports directly follow the header, the four bytes after the header are these ports.
pub ports_after : (packet source destination payload : List ℕ) (header : ℕ) →
    drop header packet ≡ source ++ (destination ++ payload) → ArePorts source destination →
    slice_range packet header (header + 2) ++ slice_range packet (header + 2) (header + 4) ≡ source ++ destination
ports_after packet source destination payload header after are =
    let four : header + 4 - header ≡ 4 = omega arith in
    let long : length (source ++ destination) ≡ 4 =
    omega (arith, length-append source destination, are.source, are.destination) in
    joined_parts packet header (header + 2) (header + 4) (omega arith) (omega arith)
    ∙ ap (λ n. take n (drop header packet)) four
    ∙ ap (take 4) (after ∙ sym (append_assoc source destination payload))
    ∙ take_at (source ++ destination) payload 4 long

pub room_ports : (source destination payload : List ℕ) → ArePorts source destination →
    4 ≤ length (source ++ (destination ++ payload))
room_ports source destination payload are = simp length-append (omega (arith, are.source, are.destination))

-- If two addresses have `n` bytes each, the first `n` bytes and the next `n` bytes are these two addresses.
pub addresses_after : (source destination rest : List ℕ) (n : ℕ) → length source ≡ n → length destination ≡ n →
    take n (source ++ (destination ++ rest)) ++ take n (drop n (source ++ (destination ++ rest)))
    ≡ source ++ destination
addresses_after source destination rest n first second =
    let others = destination ++ rest in
    rw (take_at source others n first, drop_at source others n first, take_at destination rest n second) refl

-- IP flows whose fields are equal are equal.
pub ip_flow_of : (version : ℕ) (tcp udp tcp' udp' : Bool) (addresses ports addresses' ports' : List ℕ) →
    tcp ≡ tcp' → udp ≡ udp' → addresses ≡ addresses' → ports ≡ ports' →
    ip_flow version tcp udp addresses ports ≡ ip_flow version tcp' udp' addresses' ports'
ip_flow_of version tcp udp tcp' udp' addresses ports addresses' ports' t u a p = rw (t, u, a, p) refl

pub ip_flow_plain : (version : ℕ) (tcp udp : Bool) (addresses ports addresses' : List ℕ) →
    tcp ≡ false → udp ≡ false → addresses ≡ addresses' →
    ip_flow version tcp udp addresses ports ≡ plain_flow version addresses'
ip_flow_plain version tcp udp addresses ports addresses' t u a = rw (t, u, a, append-nil addresses') refl
