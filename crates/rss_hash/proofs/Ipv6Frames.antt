-- Lemmas about how a built IPv6 packet is classified.
use Rattle.std.proofs.Common.{◌≡◌, ◌≢◌, ℕ, ◌+◌, ◌/◌, ◌≤◌, true, false}
use Rattle.std.proofs.Common.{List, ◌++◌, length, drop, slice_index, refl, sym, ap, ◌∙◌, arith}
use Rattle.std.proofs.lemmas.Bool.Decides.{nat_tests}
use Rattle.std.proofs.lemmas.List.{length-append, drop_at, drop-drop}
use Rattle.rss_hash.specs.Built.{Ipv6Header, IsIpv6Header, ipv6}
use Rattle.rss_hash.specs.Flow.{ipv6_flow}
use Rattle.rss_hash.specs.Ipv6.{is_ipv6, ipv6_carries, ipv6_addresses, ipv6_ports}
use Rattle.rss_hash.specs.Laws.{ArePorts, tcp_flow, udp_flow, plain_flow}
use Rattle.rss_hash.proofs.EthernetFrames.{ports_after, room_ports, addresses_after, ip_flow_of, ip_flow_plain}

length-ipv6 : (h : Ipv6Header) (payload : List ℕ) → IsIpv6Header h → length (ipv6 h payload) ≡ 40 + length payload
unfolding ipv6
length-ipv6 h payload is = simp length-append (omega (arith, is.source, is.destination))

pub is_ipv6-ipv6 : (h : Ipv6Header) (payload : List ℕ) → IsIpv6Header h → is_ipv6 (ipv6 h payload) ≡ true
unfolding is_ipv6
is_ipv6-ipv6 h payload is =
    let long = length-ipv6 h payload is in
    let version : slice_index (ipv6 h payload) 0 / 16 ≡ 6 = unfold ipv6 in omega (arith, is.traffic_class) in
    grind (arith, nat_tests)

ipv6_addresses-ipv6 : (h : Ipv6Header) (payload : List ℕ) → IsIpv6Header h →
    ipv6_addresses (ipv6 h payload) ≡ h.source ++ h.destination
unfolding ipv6
ipv6_addresses-ipv6 h payload is = addresses_after h.source h.destination payload 16 is.source is.destination

after-ipv6 : (h : Ipv6Header) (payload : List ℕ) → IsIpv6Header h → drop 40 (ipv6 h payload) ≡ payload
unfolding ipv6
after-ipv6 h payload is =
    sym (drop-drop 16 16 (h.source ++ (h.destination ++ payload)))
    ∙ ap (drop 16) (drop_at h.source (h.destination ++ payload) 16 is.source)
    ∙ drop_at h.destination payload 16 is.destination

carries-ipv6 : (h : Ipv6Header) (payload : List ℕ) (protocol : ℕ) → IsIpv6Header h → h.next_header ≡ protocol →
    4 ≤ length payload → ipv6_carries protocol (ipv6 h payload) ≡ true
unfolding ipv6_carries
carries-ipv6 h payload protocol is same room =
    let long = length-ipv6 h payload is in
    let number : slice_index (ipv6 h payload) 6 ≡ protocol = unfold ipv6 in same in
    grind (arith, nat_tests)

other-ipv6 : (h : Ipv6Header) (payload : List ℕ) (protocol : ℕ) → h.next_header ≢ protocol →
    ipv6_carries protocol (ipv6 h payload) ≡ false
unfolding ipv6_carries
other-ipv6 h payload protocol other =
    let number : slice_index (ipv6 h payload) 6 ≡ h.next_header = unfold ipv6 in refl in
    grind (arith, nat_tests)

ipv6_ports-ipv6 : (h : Ipv6Header) (source destination payload : List ℕ) → IsIpv6Header h →
    ArePorts source destination →
    ipv6_ports (ipv6 h (source ++ (destination ++ payload))) ≡ source ++ destination
ipv6_ports-ipv6 h source destination payload is are =
    ports_after (ipv6 h (source ++ (destination ++ payload))) source destination payload 40 (after-ipv6 h _ is) are

pub tcp-ipv6 : (h : Ipv6Header) (source destination payload : List ℕ) → IsIpv6Header h → h.next_header ≡ 6 →
    ArePorts source destination →
    ipv6_flow (ipv6 h (source ++ (destination ++ payload)))
    ≡ tcp_flow 6 (h.source ++ h.destination) (source ++ destination)
unfolding ipv6_flow
tcp-ipv6 h source destination payload is six are =
    ip_flow_of 6 _ _ true false _ _ _ _ (carries-ipv6 h _ 6 is six (room_ports source destination payload are))
    (other-ipv6 h _ 17 (λ same. absurd (omega (arith, six, same)))) (ipv6_addresses-ipv6 h _ is)
    (ipv6_ports-ipv6 h source destination payload is are)

pub udp-ipv6 : (h : Ipv6Header) (source destination payload : List ℕ) → IsIpv6Header h → h.next_header ≡ 17 →
    ArePorts source destination →
    ipv6_flow (ipv6 h (source ++ (destination ++ payload)))
    ≡ udp_flow 6 (h.source ++ h.destination) (source ++ destination)
unfolding ipv6_flow
udp-ipv6 h source destination payload is seventeen are =
    ip_flow_of 6 _ _ false true _ _ _ _ (other-ipv6 h _ 6 (λ same. absurd (omega (arith, seventeen, same))))
    (carries-ipv6 h _ 17 is seventeen (room_ports source destination payload are)) (ipv6_addresses-ipv6 h _ is)
    (ipv6_ports-ipv6 h source destination payload is are)

pub others-ipv6 : (h : Ipv6Header) (payload : List ℕ) → IsIpv6Header h → h.next_header ≢ 6 → h.next_header ≢ 17 →
    ipv6_flow (ipv6 h payload) ≡ plain_flow 6 (h.source ++ h.destination)
unfolding ipv6_flow
others-ipv6 h payload is six seventeen =
    ip_flow_plain 6 _ _ _ _ _ (other-ipv6 h payload 6 six) (other-ipv6 h payload 17 seventeen)
    (ipv6_addresses-ipv6 h payload is)
