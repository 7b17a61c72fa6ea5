-- Lemmas about how a built IPv4 packet is classified.
use Rattle.std.proofs.Common.{Bool, ◌≡◌, ◌≢◌, ℕ, ◌+◌, ◌*◌, ◌/◌, ◌%◌, ◌<◌, ◌≤◌, ◌==◌, inl, inr, true, false, cond}
use Rattle.std.proofs.Common.{List, ◌++◌, length, drop, slice_index, refl, sym, ap, ◌∙◌, arith}
use Rattle.std.proofs.lemmas.Bool.Decides.{nat_tests}
use Rattle.std.proofs.lemmas.List.{length-append, drop_at, drop-drop}
use Rattle.rss_hash.specs.Built.{Ipv4Header, IsIpv4Header, ipv4, fragment_field}
use Rattle.rss_hash.specs.Flow.{ipv4_flow}
use Rattle.rss_hash.specs.Ipv4.{header_len, is_ipv4, is_whole, ipv4_carries, ipv4_addresses, ipv4_ports}
use Rattle.rss_hash.specs.Laws.{IsWhole, IsFragment, ArePorts, tcp_flow, udp_flow, plain_flow}
use Rattle.rss_hash.proofs.EthernetFrames.{ports_after, room_ports, addresses_after, ip_flow_of, ip_flow_plain}

header_len-ipv4 : (h : Ipv4Header) (payload : List ℕ) → IsIpv4Header h →
    header_len (ipv4 h payload) ≡ 20 + length h.options
unfolding ipv4
header_len-ipv4 h payload is = omega (arith, is.options, is.words)

length-ipv4 : (h : Ipv4Header) (payload : List ℕ) → IsIpv4Header h →
    length (ipv4 h payload) ≡ 20 + length h.options + length payload
unfolding ipv4
length-ipv4 h payload is = simp length-append (omega (arith, is.source, is.destination))

pub is_ipv4-ipv4 : (h : Ipv4Header) (payload : List ℕ) → IsIpv4Header h → is_ipv4 (ipv4 h payload) ≡ true
unfolding is_ipv4
is_ipv4-ipv4 h payload is =
    let words = header_len-ipv4 h payload is in
    let long = length-ipv4 h payload is in
    let version : slice_index (ipv4 h payload) 0 / 16 ≡ 4 = unfold ipv4 in omega (arith, is.words) in
    grind (arith, nat_tests)

ipv4_addresses-ipv4 : (h : Ipv4Header) (payload : List ℕ) → IsIpv4Header h →
    ipv4_addresses (ipv4 h payload) ≡ h.source ++ h.destination
unfolding ipv4
ipv4_addresses-ipv4 h payload is =
    addresses_after h.source h.destination (h.options ++ payload) 4 is.source is.destination

after-ipv4 : (h : Ipv4Header) (payload : List ℕ) → IsIpv4Header h →
    drop (20 + length h.options) (ipv4 h payload) ≡ payload
unfolding ipv4
after-ipv4 h payload is =
    let rest = h.options ++ payload in
    sym (drop-drop (length h.options) 20 (ipv4 h payload))
    ∙ ap (drop (length h.options)) (
    sym (drop-drop 4 4 (h.source ++ (h.destination ++ rest)))
    ∙ ap (drop 4) (drop_at h.source (h.destination ++ rest) 4 is.source)
    ∙ drop_at h.destination rest 4 is.destination
    )
    ∙ drop_at h.options payload (length h.options) refl

ipv4_ports-ipv4 : (h : Ipv4Header) (source destination payload : List ℕ) → IsIpv4Header h →
    ArePorts source destination →
    ipv4_ports (ipv4 h (source ++ (destination ++ payload))) ≡ source ++ destination
ipv4_ports-ipv4 h source destination payload is are =
    let packet = ipv4 h (source ++ (destination ++ payload)) in
    ports_after packet source destination payload (header_len packet) (
    ap (λ n. drop n packet) (header_len-ipv4 h _ is) ∙ after-ipv4 h _ is
    ) are

-- ---- fragments

low_bits : (d m : Bool) (offset : ℕ) → offset < 8192 →
    (cond d 16384 0 + cond m 8192 0 + offset) % 16384 ≡ cond m 8192 0 + offset
low_bits true true offset low = omega arith
low_bits true false offset low = omega arith
low_bits false true offset low = omega arith
low_bits false false offset low = omega arith

is_whole-ipv4 : (h : Ipv4Header) (payload : List ℕ) → IsIpv4Header h →
    is_whole (ipv4 h payload) ≡ (cond h.more_fragments 8192 0 + h.offset == 0)
unfolding ipv4
is_whole-ipv4 h payload is =
    let field : 256 * (fragment_field h / 256) + fragment_field h % 256 ≡ fragment_field h = omega arith in
    ap (λ n. n % 16384 == 0) field ∙ ap (λ n. n == 0) (low_bits h.dont_fragment h.more_fragments h.offset is.offset)

whole-ipv4 : (h : Ipv4Header) (payload : List ℕ) → IsIpv4Header h → IsWhole h → is_whole (ipv4 h payload) ≡ true
whole-ipv4 h payload is whole = is_whole-ipv4 h payload is ∙ rw (whole.0, whole.1) refl

fragment-ipv4 : (h : Ipv4Header) (payload : List ℕ) → IsIpv4Header h → IsFragment h → is_whole (ipv4 h payload) ≡ false
fragment-ipv4 h payload is (inl more) = is_whole-ipv4 h payload is ∙ rw more (grind (arith, nat_tests))
fragment-ipv4 h payload is (inr later) = is_whole-ipv4 h payload is ∙ grind (arith, nat_tests)

-- ---- the payload's protocol

carries-ipv4 : (h : Ipv4Header) (payload : List ℕ) (protocol : ℕ) → IsIpv4Header h → IsWhole h → h.protocol ≡ protocol →
    4 ≤ length payload → ipv4_carries protocol (ipv4 h payload) ≡ true
unfolding ipv4_carries
carries-ipv4 h payload protocol is whole same room =
    let words = header_len-ipv4 h payload is in
    let long = length-ipv4 h payload is in
    let all = whole-ipv4 h payload is whole in
    let number : slice_index (ipv4 h payload) 9 ≡ protocol = unfold ipv4 in same in
    grind (arith, nat_tests)

other-ipv4 : (h : Ipv4Header) (payload : List ℕ) (protocol : ℕ) → h.protocol ≢ protocol →
    ipv4_carries protocol (ipv4 h payload) ≡ false
unfolding ipv4_carries
other-ipv4 h payload protocol other =
    let number : slice_index (ipv4 h payload) 9 ≡ h.protocol = unfold ipv4 in refl in
    grind (arith, nat_tests)

fragment_carries : (h : Ipv4Header) (payload : List ℕ) (protocol : ℕ) → IsIpv4Header h → IsFragment h →
    ipv4_carries protocol (ipv4 h payload) ≡ false
unfolding ipv4_carries
fragment_carries h payload protocol is fragment =
    let part = fragment-ipv4 h payload is fragment in
    grind (arith, nat_tests)

pub tcp-ipv4 : (h : Ipv4Header) (source destination payload : List ℕ) → IsIpv4Header h → IsWhole h → h.protocol ≡ 6 →
    ArePorts source destination →
    ipv4_flow (ipv4 h (source ++ (destination ++ payload)))
    ≡ tcp_flow 4 (h.source ++ h.destination) (source ++ destination)
unfolding ipv4_flow
tcp-ipv4 h source destination payload is whole six are =
    ip_flow_of 4 _ _ true false _ _ _ _ (carries-ipv4 h _ 6 is whole six (room_ports source destination payload are))
    (other-ipv4 h _ 17 (λ same. absurd (omega (arith, six, same))))
    (ipv4_addresses-ipv4 h _ is) (ipv4_ports-ipv4 h source destination payload is are)

pub udp-ipv4 : (h : Ipv4Header) (source destination payload : List ℕ) → IsIpv4Header h → IsWhole h → h.protocol ≡ 17 →
    ArePorts source destination →
    ipv4_flow (ipv4 h (source ++ (destination ++ payload)))
    ≡ udp_flow 4 (h.source ++ h.destination) (source ++ destination)
unfolding ipv4_flow
udp-ipv4 h source destination payload is whole seventeen are =
    ip_flow_of 4 _ _ false true _ _ _ _ (other-ipv4 h _ 6 (λ same. absurd (omega (arith, seventeen, same))))
    (carries-ipv4 h _ 17 is whole seventeen (room_ports source destination payload are))
    (ipv4_addresses-ipv4 h _ is) (ipv4_ports-ipv4 h source destination payload is are)

pub others-ipv4 : (h : Ipv4Header) (payload : List ℕ) → IsIpv4Header h → h.protocol ≢ 6 → h.protocol ≢ 17 →
    ipv4_flow (ipv4 h payload) ≡ plain_flow 4 (h.source ++ h.destination)
unfolding ipv4_flow
others-ipv4 h payload is six seventeen =
    ip_flow_plain 4 _ _ _ _ _ (other-ipv4 h payload 6 six) (other-ipv4 h payload 17 seventeen)
    (ipv4_addresses-ipv4 h payload is)

pub fragments-ipv4 : (h : Ipv4Header) (payload : List ℕ) → IsIpv4Header h → IsFragment h →
    ipv4_flow (ipv4 h payload) ≡ plain_flow 4 (h.source ++ h.destination)
unfolding ipv4_flow
fragments-ipv4 h payload is fragment =
    ip_flow_plain 4 _ _ _ _ _ (fragment_carries h payload 6 is fragment) (fragment_carries h payload 17 is fragment)
    (ipv4_addresses-ipv4 h payload is)
