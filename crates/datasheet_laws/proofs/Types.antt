-- The RSS type and the hash of a frame, by its bytes.
use Rattle.std.proofs.Common.{◌≡◌, ◌≤◌, ◌+◌, ◌%◌, ◌==◌, ◌&&◌, ◌||◌, ℕ, Bool, true, false, not, cond, List, ◌++◌, length, take, drop, Some, None, Ok, Err, unwrap_or, ◌⊎◌, inl, inr, refl, ap, sym, subst, ◌∙◌, arith, length-drop, length-append}
use Rattle.std.specs.Prelude.{Result}
use Rattle.std.proofs.lemmas.List.{take_at, length-take-le}
use Rattle.nic_device.specs.RssHash.Choice.{code_of, first_enabled, rss_type_of, hashed_part}
use Rattle.nic_device.specs.RssHash.Mrqc.{enables, queue_mode_of, is_hashing}
use Rattle.nic_device.specs.RssHash.declared.choice.RssType.TheVariants.{NoHash, TcpIpv4, Ipv4, TcpIpv6, Ipv6, UdpIpv4, UdpIpv6}
use Rattle.nic_device.specs.RxFilter.Fields.{PCSD}
use Rattle.nic_device.specs.RxFilter.Pools.{chosen_pool}
use Rattle.nic_device.specs.RxFilter.Sorting.{rss_hash, target_of, pool_target, sorted}
use Rattle.nic_device.proofs.RxFilter.Sorted.{sorted-let_in}
use Rattle.datasheet_laws.specs.FramePrelude.{Done, Mrqc, Outcome, Registers, Rss, RssType, Rssrk, Rxcsum, Single, State}
use Rattle.datasheet_laws.specs.FramePrelude.{Target}
use Rattle.datasheet_laws.specs.FramePrelude.{Unwanted, Vmdq32Rss, Vmdq64, Vmdq64Rss, bytes_of_registers, flow_of, has_bit}
use Rattle.datasheet_laws.specs.FramePrelude.{let_in, passes, row_words, step_of, toeplitz_hash, word_of}
use Rattle.datasheet_laws.proofs.FramePrelude.{and_parts, arrived_cases, cond-false, cond-true, cond_both, nat_tests}
use Rattle.datasheet_laws.specs.Bits.{bit, field}
use Rattle.datasheet_laws.specs.Packets.{is_ipv4, is_ipv6, over_ipv4, over_ipv6, ipv4_addresses, ipv4_ports, ipv6_addresses}
use Rattle.datasheet_laws.specs.Packets.{ipv6_ports}
use Rattle.datasheet_laws.specs.Types.{hashes, has, type_of, hashed_bytes, hash_of, JoinsTyped, FramesHaveTypes}
use Rattle.datasheet_laws.proofs.FrameBits.{has-one, has-zero}
use Rattle.datasheet_laws.proofs.Packets.{flow-reads, with_ports, ipv4-input, ipv6-input}

-- The codes that hash.

by-code : (one eight ten eleven : Bool) → (eight ≡ true → ten ≡ false) → (eight ≡ true → eleven ≡ false)
    → is_hashing (cond one Rss (cond eight Vmdq64 (cond ten Vmdq32Rss (cond eleven Vmdq64Rss Single))))
    ≡ (one || ten || eleven)
by-code true eight ten eleven not_ten not_eleven = refl
by-code false true ten eleven not_ten not_eleven = rw (not_ten refl, not_eleven refl) refl
by-code false false true eleven not_ten not_eleven = refl
by-code false false false true not_ten not_eleven = refl
by-code false false false false not_ten not_eleven = refl

hashing-is : (mrqc : ℕ) → is_hashing (queue_mode_of mrqc) ≡ hashes mrqc
unfolding queue_mode_of
hashing-is mrqc =
    let code = field 3 0 mrqc in
    let low : mrqc % 16 ≡ code = omega arith in
    rw low (by-code (code == 1) (code == 0x8) (code == 0xA) (code == 0xB) (λ is. grind (arith, nat_tests))
    (λ is. grind (arith, nat_tests)))

-- The first type that applies to a flow.

abbrev chosen : (a b c d e f : Bool) → RssType
chosen a b c d e f = cond a TcpIpv4 (cond b UdpIpv4 (cond c TcpIpv6
    (cond d UdpIpv6 (cond e Ipv4 (cond f Ipv6 NoHash)))))

abbrev number : (a b c d e f : Bool) → ℕ
number a b c d e f = cond a 1 (cond b 7 (cond c 3 (cond d 8 (cond e 2 (cond f 5 0)))))

first-of-six : (a b c d e f : Bool)
    → unwrap_or (cond a (Some TcpIpv4) (cond b (Some UdpIpv4) (cond c (Some TcpIpv6) (cond d (Some UdpIpv6)
    (cond e (Some Ipv4) (cond f (Some Ipv6) None)))))) NoHash ≡ chosen a b c d e f
first-of-six a b c d e f = grind arith

number-is : (a b c d e f : Bool) → code_of (chosen a b c d e f) ≡ number a b c d e f
number-is a b c d e f = grind arith

module _ (mrqc : ℕ) (frame : List ℕ) where
  first-is : first_enabled mrqc (flow_of frame)
      ≡ chosen (over_ipv4 6 frame && has mrqc 16) (over_ipv4 17 frame && has mrqc 22) (over_ipv6 6 frame && has mrqc 21)
      (over_ipv6 17 frame && has mrqc 23) (is_ipv4 frame && has mrqc 17) (is_ipv6 frame && has mrqc 20)
  unfolding first_enabled
  first-is =
      let reads = flow-reads frame in
      let flow = flow_of frame in
      first-of-six ((flow.version == 4 && flow.tcp) && enables mrqc 16)
      ((flow.version == 4 && flow.udp) && enables mrqc 22)
      ((flow.version == 6 && flow.tcp) && enables mrqc 21) ((flow.version == 6 && flow.udp) && enables mrqc 23)
      (flow.version == 4 && enables mrqc 17) (flow.version == 6 && enables mrqc 20)
      ∙ (λ k. chosen (reads.tcp_4 k && has mrqc 16) (reads.udp_4 k && has mrqc 22) (reads.tcp_6 k && has mrqc 21)
      (reads.udp_6 k && has mrqc 23) (reads.four k && has mrqc 17) (reads.six k && has mrqc 20))

  abbrev first_number : ℕ
  first_number =
      number (over_ipv4 6 frame && has mrqc 16) (over_ipv4 17 frame && has mrqc 22) (over_ipv6 6 frame && has mrqc 21)
      (over_ipv6 17 frame && has mrqc 23) (is_ipv4 frame && has mrqc 17) (is_ipv6 frame && has mrqc 20)

  type-is : code_of (rss_type_of mrqc (flow_of frame)) ≡ type_of mrqc frame
  unfolding rss_type_of
  type-is =
      ap (λ b. code_of (cond b (first_enabled mrqc (flow_of frame)) NoHash)) (hashing-is mrqc)
      ∙ cond_both (hashes mrqc) (first_enabled mrqc (flow_of frame)) NoHash (λ t. code_of t ≡ type_of mrqc frame)
      (λ on. ap code_of first-is ∙ number-is _ _ _ _ _ _
      ∙ sym (cond-false (not (hashes mrqc)) 0 first_number (ap not on)))
      (λ off. sym (cond-true (not (hashes mrqc)) 0 first_number (ap not off)))

-- Which bytes are hashed.

parts-are : (frame input : List ℕ) (a b c d e f : Bool)
    → (a ≡ true → input ≡ ipv4_addresses frame ++ ipv4_ports frame)
    → (b ≡ true → input ≡ ipv4_addresses frame ++ ipv4_ports frame)
    → (c ≡ true → input ≡ ipv6_addresses frame ++ ipv6_ports frame)
    → (d ≡ true → input ≡ ipv6_addresses frame ++ ipv6_ports frame)
    → (e ≡ true → take 8 input ≡ ipv4_addresses frame) → (f ≡ true → take 32 input ≡ ipv6_addresses frame)
    → hashed_part (chosen a b c d e f) input ≡ hashed_bytes (number a b c d e f) frame
parts-are frame input true b c d e f tcp_4 udp_4 tcp_6 udp_6 four six = tcp_4 refl
parts-are frame input false true c d e f tcp_4 udp_4 tcp_6 udp_6 four six = udp_4 refl
parts-are frame input false false true d e f tcp_4 udp_4 tcp_6 udp_6 four six = tcp_6 refl
parts-are frame input false false false true e f tcp_4 udp_4 tcp_6 udp_6 four six = udp_6 refl
parts-are frame input false false false false true f tcp_4 udp_4 tcp_6 udp_6 four six = four refl
parts-are frame input false false false false false true tcp_4 udp_4 tcp_6 udp_6 four six = six refl
parts-are frame input false false false false false false tcp_4 udp_4 tcp_6 udp_6 four six = refl

over-4 : (protocol : ℕ) (frame : List ℕ) → over_ipv4 protocol frame ≡ true → is_ipv4 frame ≡ true
over-4 protocol frame is = (and_parts _ _ (and_parts _ _ (and_parts _ _ is).0).0).0

over-6 : (protocol : ℕ) (frame : List ℕ) → over_ipv6 protocol frame ≡ true → is_ipv6 frame ≡ true
over-6 protocol frame is = (and_parts _ _ (and_parts _ _ is).0).0

part-long : (frame : List ℕ) (at n : ℕ) → at + n ≤ length frame → length (take n (drop at frame)) ≡ n
part-long frame at n within =
    let rest = length-drop at frame in
    length-take-le n (drop at frame) (omega arith)

four-long : (frame : List ℕ) → is_ipv4 frame ≡ true → length (ipv4_addresses frame) ≡ 8
four-long frame is =
    let whole : 34 ≤ length frame = grind (arith, nat_tests) in
    length-append (take 4 (drop 26 frame)) (take 4 (drop 30 frame))
    ∙ (λ k. part-long frame 26 4 (omega arith) k + part-long frame 30 4 (omega arith) k)

six-long : (frame : List ℕ) → is_ipv6 frame ≡ true → length (ipv6_addresses frame) ≡ 32
six-long frame is =
    let whole : 54 ≤ length frame = grind (arith, nat_tests) in
    length-append (take 16 (drop 22 frame)) (take 16 (drop 38 frame))
    ∙ (λ k. part-long frame 22 16 (omega arith) k + part-long frame 38 16 (omega arith) k)

with-ports : (a b : Bool) (addresses ports : List ℕ) → (a ≡ true) ⊎ (b ≡ true)
    → with_ports (a || b) addresses ports ≡ addresses ++ ports
with-ports true b addresses ports is = refl
with-ports false true addresses ports is = refl
with-ports false false addresses ports (inl is) = cc
with-ports false false addresses ports (inr is) = cc

module _ (mrqc : ℕ) (frame : List ℕ) where
  four-input : (is_ipv4 frame ≡ true) → (over_ipv4 6 frame ≡ true) ⊎ (over_ipv4 17 frame ≡ true)
      → (flow_of frame).input ≡ ipv4_addresses frame ++ ipv4_ports frame
  four-input is has_ports = ipv4-input frame is ∙ with-ports _ _ _ _ has_ports

  six-input : (is_ipv6 frame ≡ true) → (over_ipv6 6 frame ≡ true) ⊎ (over_ipv6 17 frame ≡ true)
      → (flow_of frame).input ≡ ipv6_addresses frame ++ ipv6_ports frame
  six-input is has_ports = ipv6-input frame is ∙ with-ports _ _ _ _ has_ports

  part-is : hashed_part (first_enabled mrqc (flow_of frame)) (flow_of frame).input
      ≡ hashed_bytes (first_number mrqc frame) frame
  part-is =
      ap (λ t. hashed_part t (flow_of frame).input) (first-is mrqc frame)
      ∙ parts-are frame (flow_of frame).input _ _ _ _ _ _
      (λ is. let over = (and_parts _ _ is).0 in four-input (over-4 6 frame over) (inl over))
      (λ is. let over = (and_parts _ _ is).0 in four-input (over-4 17 frame over) (inr over))
      (λ is. let over = (and_parts _ _ is).0 in six-input (over-6 6 frame over) (inl over))
      (λ is. let over = (and_parts _ _ is).0 in six-input (over-6 17 frame over) (inr over))
      (λ is. let four = (and_parts _ _ is).0 in
      ap (take 8) (ipv4-input frame four) ∙ take_at (ipv4_addresses frame) _ 8 (four-long frame four))
      (λ is. let six = (and_parts _ _ is).0 in
      ap (take 32) (ipv6-input frame six) ∙ take_at (ipv6_addresses frame) _ 32 (six-long frame six))

  hashed-is : hashed_part (rss_type_of mrqc (flow_of frame)) (flow_of frame).input
      ≡ hashed_bytes (type_of mrqc frame) frame
  unfolding rss_type_of
  hashed-is =
      ap (λ b. hashed_part (cond b (first_enabled mrqc (flow_of frame)) NoHash) (flow_of frame).input) (hashing-is mrqc)
      ∙ cond_both (hashes mrqc) (first_enabled mrqc (flow_of frame)) NoHash
      (λ t. hashed_part t (flow_of frame).input ≡ hashed_bytes (type_of mrqc frame) frame)
      (λ on. part-is
      ∙ ap (λ n. hashed_bytes n frame) (sym (cond-false (not (hashes mrqc)) 0 (first_number mrqc frame) (ap not on))))
      (λ off. ap (λ n. hashed_bytes n frame) (sym (cond-true (not (hashes mrqc)) 0
      (first_number mrqc frame) (ap not off))))

-- An accepted frame.

record HasType (r : Registers) (frame : List ℕ) (t : Target) : Type 0 where
  pub type : t.rss ≡ type_of (word_of r Mrqc 0) frame
  pub reported : bit 13 (word_of r Rxcsum 0) ≡ 1 → t.hash ≡ hash_of r frame
  pub unreported : bit 13 (word_of r Rxcsum 0) ≡ 0 → t.hash ≡ 0

target-has : (r : Registers) (frame : List ℕ) (pool : ℕ) → HasType r frame (target_of r frame pool)
unfolding target_of
target-has r frame pool =
    let tells = has_bit PCSD (word_of r Rxcsum 0) in
    let key = bytes_of_registers (row_words r.words Rssrk) in
    record {
      type = type-is (word_of r Mrqc 0) frame;
      reported = λ on. cond-true tells (rss_hash r frame) 0 (has-one 13 (word_of r Rxcsum 0) on)
          ∙ ap (toeplitz_hash key) (hashed-is (word_of r Mrqc 0) frame);
      unreported = λ off. cond-false tells (rss_hash r frame) 0 (has-zero 13 (word_of r Rxcsum 0) off);
    }

pool-has : (r : Registers) (frame : List ℕ) (t : Target) (c : Result ℕ Unwanted) → pool_target r frame c ≡ Ok t
    → HasType r frame t
pool-has r frame t (Err why) e = cc
pool-has r frame t (Ok pool) e =
    let same : target_of r frame pool ≡ t = cc in
    subst (HasType r frame) same (target-has r frame pool)

sorted-has : (r : Registers) (frame : List ℕ) (t : Target) → sorted r frame ≡ Ok t → HasType r frame t
unfolding sorted
sorted-has r frame t e =
    pool-has r frame t (chosen_pool r frame)
    (sorted-let_in (passes r frame) (pool_target r frame (chosen_pool r frame)) t e)

abbrev Joins : State → List ℕ → Outcome → Type 0
Joins s frame o = o.reply ≡ Done → JoinsTyped s frame o.state

pub have_types : FramesHaveTypes
unfolding step_of
have_types s frame = arrived_cases (Joins s frame) s frame (record {
  dropped = λ why e. cc;
  short = λ e. cc;
  long = λ e. cc;
  missed = λ e. cc;
  joined = λ t is room enough within e.
      let has_type = sorted-has s.registers frame t is in
      record {
        last = let_in frame t;
        waiting = refl;
        type = has_type.type;
        reported = has_type.reported;
        unreported = has_type.unreported;
      };
})
