-- The protocol headers of a frame, by its bytes.
use Rattle.std.proofs.Common.{◌≡◌, ◌<◌, ◌+◌, ◌-◌, ◌/◌, ◌==◌, ◌&&◌, ◌||◌, ℕ, Bool, true, false, cond, nat_le, List, length, drop, slice_index, [], ◌++◌, take, refl, ap, sym, subst, ◌∙◌, arith, length-drop}
use Rattle.std.proofs.lemmas.List.{get_or-drop, drop-drop}
use Rattle.nic_device.specs.RssHash.Flow.{flow_of, ipv4_flow, ipv6_flow, no_flow}
use Rattle.nic_device.specs.RssHash.declared.flow.Flow.{Flow}
use Rattle.nic_device.specs.RssHash.Frame.{ether_type, packet_of}
use Rattle.nic_device.specs.RssHash.Ipv4 as four
use Rattle.nic_device.specs.RssHash.Ipv6 as six
use Rattle.datasheet_laws.proofs.FramePrelude.{cond-false, cond-true, cond_both, nat_tests}
use Rattle.datasheet_laws.specs.Packets.{pair_at, header_bytes, is_ipv4, is_ipv6, over_ipv4, over_ipv6, is_tcp, is_udp}
use Rattle.datasheet_laws.specs.Packets.{bytes_at, ipv4_addresses, ipv4_ports, ipv6_addresses, ipv6_ports}

pub record Reads (frame : List ℕ) (flow : Flow) : Type 0 where
  pub four : (flow.version == 4) ≡ is_ipv4 frame
  pub six : (flow.version == 6) ≡ is_ipv6 frame
  pub tcp_4 : (flow.version == 4 && flow.tcp) ≡ over_ipv4 6 frame
  pub udp_4 : (flow.version == 4 && flow.udp) ≡ over_ipv4 17 frame
  pub tcp_6 : (flow.version == 6 && flow.tcp) ≡ over_ipv6 6 frame
  pub udp_6 : (flow.version == 6 && flow.udp) ≡ over_ipv6 17 frame
  pub tcp : flow.tcp ≡ is_tcp frame
  pub udp : flow.udp ≡ is_udp frame

byte-in : (frame : List ℕ) (k : ℕ) → slice_index (packet_of frame) k ≡ slice_index frame (14 + k)
byte-in frame k = get_or-drop 14 frame k 0

room-in : (frame : List ℕ) (n : ℕ) → 0 < n → nat_le n (length (packet_of frame)) ≡ nat_le (14 + n) (length frame)
room-in frame n some = let rest = length-drop 14 frame in grind (arith, nat_tests)

regrouped : (type version whole room room' : Bool) → (whole ≡ true → room ≡ room')
    → (type && (version && whole && room)) ≡ (type && version && whole && room')
regrouped type version whole room room' same = grind arith

ipv4-is : (frame : List ℕ) → (ether_type frame == 0x0800 && four.is_ipv4 (packet_of frame)) ≡ is_ipv4 frame
unfolding four.is_ipv4
ipv4-is frame =
    let first = byte-in frame 0 in
    rw first (regrouped (pair_at frame 12 == 0x0800) (slice_index frame 14 / 16 == 4) (nat_le 20 (header_bytes frame))
    (nat_le (header_bytes frame) (length (packet_of frame))) (nat_le (14 + header_bytes frame) (length frame))
    (λ whole. room-in frame (header_bytes frame) (grind (arith, nat_tests))))

grouped : (type version room : Bool) → (type && (version && room)) ≡ (type && version && room)
grouped false version room = refl
grouped true version room = refl

ipv6-is : (frame : List ℕ) → (ether_type frame == 0x86DD && six.is_ipv6 (packet_of frame)) ≡ is_ipv6 frame
unfolding six.is_ipv6
ipv6-is frame =
    let first = byte-in frame 0 in
    rw (first, room-in frame 40 (omega arith))
    (grouped (pair_at frame 12 == 0x86DD) (slice_index frame 14 / 16 == 6) (nat_le 54 (length frame)))

ipv4-carries : (protocol : ℕ) (frame : List ℕ) → is_ipv4 frame ≡ true
    → four.ipv4_carries protocol (packet_of frame) ≡ over_ipv4 protocol frame
unfolding four.ipv4_carries
ipv4-carries protocol frame is =
    let room = room-in frame (header_bytes frame + 4) (omega arith) in
    let reach : 14 + (header_bytes frame + 4) ≡ 18 + header_bytes frame = omega arith in
    rw (byte-in frame 0, byte-in frame 9, byte-in frame 6, byte-in frame 7, room, reach, is) refl

ipv6-carries : (protocol : ℕ) (frame : List ℕ) → is_ipv6 frame ≡ true
    → six.ipv6_carries protocol (packet_of frame) ≡ over_ipv6 protocol frame
unfolding six.ipv6_carries
ipv6-carries protocol frame is = rw (byte-in frame 6, room-in frame 44 (omega arith), is) refl

-- A frame isn't both IPv4 and IPv6.
one-version : (frame : List ℕ) → is_ipv4 frame ≡ true → is_ipv6 frame ≡ false
one-version frame is = grind (arith, nat_tests)

no-ipv4 : (protocol : ℕ) (frame : List ℕ) → is_ipv4 frame ≡ false → over_ipv4 protocol frame ≡ false
no-ipv4 protocol frame lacks = rw lacks refl

no-ipv6 : (protocol : ℕ) (frame : List ℕ) → is_ipv6 frame ≡ false → over_ipv6 protocol frame ≡ false
no-ipv6 protocol frame lacks = rw lacks refl

or-none : (a b c : Bool) → a ≡ b → c ≡ false → a ≡ (b || c)
or-none a true c same none = same
or-none a false c same none = same ∙ sym none

none-or : (a b c : Bool) → b ≡ false → a ≡ c → a ≡ (b || c)
none-or a true c none same = cc
none-or a false c none same = same

reads-ipv4 : (frame : List ℕ) → is_ipv4 frame ≡ true → Reads frame (ipv4_flow (packet_of frame))
unfolding ipv4_flow
reads-ipv4 frame is =
    let tcp = ipv4-carries 6 frame is in
    let udp = ipv4-carries 17 frame is in
    let lacks = one-version frame is in
    record {
      four = sym is;
      six = sym lacks;
      tcp_4 = tcp;
      udp_4 = udp;
      tcp_6 = sym (no-ipv6 6 frame lacks);
      udp_6 = sym (no-ipv6 17 frame lacks);
      tcp = or-none _ _ _ tcp (no-ipv6 6 frame lacks);
      udp = or-none _ _ _ udp (no-ipv6 17 frame lacks);
    }

reads-ipv6 : (frame : List ℕ) → is_ipv4 frame ≡ false → is_ipv6 frame ≡ true
    → Reads frame (ipv6_flow (packet_of frame))
unfolding ipv6_flow
reads-ipv6 frame lacks is =
    let tcp = ipv6-carries 6 frame is in
    let udp = ipv6-carries 17 frame is in
    record {
      four = sym lacks;
      six = sym is;
      tcp_4 = sym (no-ipv4 6 frame lacks);
      udp_4 = sym (no-ipv4 17 frame lacks);
      tcp_6 = tcp;
      udp_6 = udp;
      tcp = none-or _ _ _ (no-ipv4 6 frame lacks) tcp;
      udp = none-or _ _ _ (no-ipv4 17 frame lacks) udp;
    }

reads-none : (frame : List ℕ) → is_ipv4 frame ≡ false → is_ipv6 frame ≡ false → Reads frame no_flow
reads-none frame four six = record {
  four = sym four;
  six = sym six;
  tcp_4 = sym (no-ipv4 6 frame four);
  udp_4 = sym (no-ipv4 17 frame four);
  tcp_6 = sym (no-ipv6 6 frame six);
  udp_6 = sym (no-ipv6 17 frame six);
  tcp = none-or _ _ _ (no-ipv4 6 frame four) (sym (no-ipv6 6 frame six));
  udp = none-or _ _ _ (no-ipv4 17 frame four) (sym (no-ipv6 17 frame six));
}

abbrev of_version : List ℕ → Flow
of_version frame =
    cond (is_ipv4 frame) (ipv4_flow (packet_of frame)) (cond (is_ipv6 frame) (ipv6_flow (packet_of frame)) no_flow)

flow-is : (frame : List ℕ) → flow_of frame ≡ of_version frame
unfolding flow_of
flow-is frame = rw (ipv4-is frame, ipv6-is frame) refl

pub flow-reads : (frame : List ℕ) → Reads frame (flow_of frame)
flow-reads frame =
    subst (Reads frame) (sym (flow-is frame))
    (cond_both (is_ipv4 frame) (ipv4_flow (packet_of frame))
    (cond (is_ipv6 frame) (ipv6_flow (packet_of frame)) no_flow)
    (Reads frame) (reads-ipv4 frame)
    (λ lacks. cond_both (is_ipv6 frame) (ipv6_flow (packet_of frame)) no_flow (Reads frame) (reads-ipv6 frame lacks)
    (reads-none frame lacks)))

-- Which of a frame's bytes are hashed.

abbrev pub with_ports : Bool → (addresses ports : List ℕ) → List ℕ
with_ports has addresses ports = addresses ++ cond has ports []

after : (frame : List ℕ) (k n : ℕ) → take n (drop k (packet_of frame)) ≡ bytes_at frame (14 + k) n
after frame k n = ap (take n) (drop-drop k 14 frame)

ipv4-addresses : (frame : List ℕ) → four.ipv4_addresses (packet_of frame) ≡ ipv4_addresses frame
ipv4-addresses frame = rw (after frame 12 4, after frame 16 4) refl

ipv4-ports : (frame : List ℕ) → four.ipv4_ports (packet_of frame) ≡ ipv4_ports frame
ipv4-ports frame =
    let first = header_bytes frame in
    let two : first + 2 - first ≡ 2 = omega arith in
    let other : first + 4 - (first + 2) ≡ 2 = omega arith in
    let further : 14 + (first + 2) ≡ 16 + first = omega arith in
    rw (byte-in frame 0, two, other, after frame first 2, after frame (first + 2) 2, further) refl

pub ipv4-input : (frame : List ℕ) → is_ipv4 frame ≡ true
    → (flow_of frame).input
    ≡ with_ports (over_ipv4 6 frame || over_ipv4 17 frame) (ipv4_addresses frame) (ipv4_ports frame)
unfolding ipv4_flow
ipv4-input frame is =
    ap (λ (flow : Flow). flow.input) (flow-is frame ∙ cond-true (is_ipv4 frame) (ipv4_flow (packet_of frame)) _ is)
    ∙ (λ k. with_ports (ipv4-carries 6 frame is k || ipv4-carries 17 frame is k) (ipv4-addresses frame k)
    (ipv4-ports frame k))

ipv6-addresses : (frame : List ℕ) → six.ipv6_addresses (packet_of frame) ≡ ipv6_addresses frame
ipv6-addresses frame = rw (after frame 8 16, after frame 24 16) refl

ipv6-ports : (frame : List ℕ) → six.ipv6_ports (packet_of frame) ≡ ipv6_ports frame
ipv6-ports frame = rw (after frame 40 2, after frame 42 2) refl

pub ipv6-input : (frame : List ℕ) → is_ipv6 frame ≡ true
    → (flow_of frame).input
    ≡ with_ports (over_ipv6 6 frame || over_ipv6 17 frame) (ipv6_addresses frame) (ipv6_ports frame)
unfolding ipv6_flow
ipv6-input frame is =
    let lacks : is_ipv4 frame ≡ false = grind (arith, nat_tests) in
    ap (λ (flow : Flow). flow.input)
    (flow-is frame ∙ cond-false (is_ipv4 frame) (ipv4_flow (packet_of frame)) _ lacks
    ∙ cond-true (is_ipv6 frame) (ipv6_flow (packet_of frame)) no_flow is)
    ∙ (λ k. with_ports (ipv6-carries 6 frame is k || ipv6-carries 17 frame is k) (ipv6-addresses frame k)
    (ipv6-ports frame k))
