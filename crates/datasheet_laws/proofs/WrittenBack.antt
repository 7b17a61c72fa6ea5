-- The bytes of a receive descriptor that is written back.
use Rattle.std.proofs.Common.{◌≡◌, ◌<◌, ◌+◌, ◌*◌, ◌/◌, ◌%◌, ◌^◌, ℕ, Bool, true, false, cond, List, [], ◌∷◌, ◌++◌, take, Ok, refl, ap, sym, subst, ◌∙◌, arith, length, slice_index, inl, inr}
use Rattle.nic_device.proofs.DmaArena.Bus.{is_lent-same, SameLent-write_at, IsWhole-write_at, read_at-write_at_same}
use Rattle.nic_device.specs.DmaRing.Receive.{reported_of, written_back, buffer_of}
use Rattle.nic_device.specs.DmaRing.declared.receive.Packet.{Packet}
use Rattle.nic_device.proofs.DmaRing.Fields.{halves_come_back, packet_is_reported}
use Rattle.nic_device.specs.RssHash.declared.choice.RssType.TheVariants.{NoHash}
use Rattle.nic_device.proofs.RxRing.Fills.{takes_piece, driver_reads, fill_keeps_blocks}
use Rattle.nic_device.proofs.RegisterLaws.SoundWords.{rings_aligned}
use Rattle.nic_device.specs.Receive.{packet_of, rest_of, slot_done}
use Rattle.nic_device.specs.Sound.{IsSound, IsWaiting, AreWaiting}
use Rattle.datasheet_laws.specs.FramePrelude.{Block, Filled, Memory, Outcome, Reply, RssType, Rx, State, Waiting, Wrote}
use Rattle.datasheet_laws.specs.FramePrelude.{code_of}
use Rattle.datasheet_laws.specs.FramePrelude.{first_half, is_lent, of_halves, read_at, step_of, to_le_bytes, w64, write_at}
use Rattle.datasheet_laws.proofs.FramePrelude.{cases_lt, eq-eqb, filled_by, get_or_past, received_cases}
use Rattle.datasheet_laws.specs.Packets.{is_ipv4, is_ipv6, is_tcp, is_udp}
use Rattle.datasheet_laws.specs.WrittenBack.{one_if, byte, written_bytes, ShowsPiece, DescriptorsAreWrittenBack}
use Rattle.datasheet_laws.proofs.Packets.{flow-reads}
use Rattle.nic_device.proofs.Blocks.{read_at-small}
use Rattle.datasheet_laws.proofs.TransmitBytes.{first-is}
use Rattle.datasheet_laws.proofs.Shown.{peek-is, answer}

one-small : (b : Bool) → one_if b < 2
one-small true = omega arith
one-small false = omega arith

one-times : (b : Bool) (n : ℕ) → cond b n 0 ≡ n * one_if b
one-times true n = omega arith
one-times false n = omega arith

-- The first half.

abbrev reported_number : (rss a b c d hash : ℕ) → ℕ
reported_number rss a b c d hash = rss + 16 * a + 64 * b + 256 * c + 512 * d + 2 ^ 32 * hash

reported-is : (packet : Packet) → reported_of packet
    ≡ reported_number packet.rss (one_if packet.ipv4) (one_if packet.ipv6) (one_if packet.tcp) (one_if packet.udp)
    packet.hash
reported-is packet =
    λ k. packet.rss + one-times packet.ipv4 16 k + one-times packet.ipv6 64 k + one-times packet.tcp 256 k
    + one-times packet.udp 512 k + 2 ^ 32 * packet.hash

first-bytes : (rss a b c d hash : ℕ) → rss < 16 → a < 2 → b < 2 → c < 2 → d < 2 → hash < 2 ^ 32
    → to_le_bytes w64 (reported_number rss a b c d hash)
    ≡ (rss + 16 * a + 64 * b) ∷ (c + 2 * d) ∷ 0 ∷ 0 ∷ byte 0 hash ∷ byte 1 hash ∷ byte 2 hash ∷ byte 3 hash ∷ []
first-bytes rss a b c d hash type four six tcp udp word =
    let n = reported_number rss a b c d hash in
    let e0 : n % 256 ≡ rss + 16 * a + 64 * b = omega arith in
    let e1 : n / 2 ^ 8 % 256 ≡ c + 2 * d = omega arith in
    let e2 : n / 2 ^ 16 % 256 ≡ 0 = omega arith in
    let e3 : n / 2 ^ 24 % 256 ≡ 0 = omega arith in
    let e4 : n / 2 ^ 32 % 256 ≡ byte 0 hash = omega arith in
    let e5 : n / 2 ^ 40 % 256 ≡ byte 1 hash = omega arith in
    let e6 : n / 2 ^ 48 % 256 ≡ byte 2 hash = omega arith in
    let e7 : n / 2 ^ 56 % 256 ≡ byte 3 hash = omega arith in
    λ k. e0 k ∷ e1 k ∷ e2 k ∷ e3 k ∷ e4 k ∷ e5 k ∷ e6 k ∷ e7 k ∷ []

packet-is : (w : Waiting) → reported_of (packet_of w)
    ≡ reported_number w.rss (one_if (is_ipv4 w.frame)) (one_if (is_ipv6 w.frame)) (one_if (is_tcp w.frame))
    (one_if (is_udp w.frame)) w.hash
packet-is w =
    let reads = flow-reads w.frame in
    reported-is (packet_of w)
    ∙ (λ k. reported_number w.rss (one_if (reads.four k)) (one_if (reads.six k)) (one_if (reads.tcp k))
    (one_if (reads.udp k)) w.hash)

-- The second half.

piece-is : (len : ℕ) (end : Bool) → written_back len end ≡ 1 + 2 * one_if end + 2 ^ 32 * len
piece-is len true = refl
piece-is len false = refl

second-bytes : (len : ℕ) (end : Bool) → len < 2 ^ 16
    → to_le_bytes w64 (written_back len end)
    ≡ (1 + 2 * one_if end) ∷ 0 ∷ 0 ∷ 0 ∷ byte 0 len ∷ byte 1 len ∷ 0 ∷ 0 ∷ []
second-bytes len end short =
    let one = one-small end in
    let n = 1 + 2 * one_if end + 2 ^ 32 * len in
    let e0 : n % 256 ≡ 1 + 2 * one_if end = omega arith in
    let e1 : n / 2 ^ 8 % 256 ≡ 0 = omega arith in
    let e2 : n / 2 ^ 16 % 256 ≡ 0 = omega arith in
    let e3 : n / 2 ^ 24 % 256 ≡ 0 = omega arith in
    let e4 : n / 2 ^ 32 % 256 ≡ byte 0 len = omega arith in
    let e5 : n / 2 ^ 40 % 256 ≡ byte 1 len = omega arith in
    let e6 : n / 2 ^ 48 % 256 ≡ 0 = omega arith in
    let e7 : n / 2 ^ 56 % 256 ≡ 0 = omega arith in
    rw (piece-is len end) (λ k. e0 k ∷ e1 k ∷ e2 k ∷ e3 k ∷ e4 k ∷ e5 k ∷ e6 k ∷ e7 k ∷ [])

halves-are : (w : Waiting) (end : Bool) (len : ℕ) → w.rss < 16 → w.hash < 2 ^ 32 → len < 2 ^ 16
    → of_halves (reported_of (packet_of w)) (written_back len end) ≡ written_bytes w end len
unfolding of_halves
halves-are w end len type word short =
    let first = ap (to_le_bytes w64) (packet-is w) ∙ first-bytes w.rss _ _ _ _ w.hash type (one-small (is_ipv4 w.frame))
    (one-small (is_ipv6 w.frame)) (one-small (is_tcp w.frame)) (one-small (is_udp w.frame)) word in
    let second = second-bytes len end short in
    λ k. first k ++ second k

-- The bytes of a descriptor.
pub byte-small : (s : State) → IsSound s → (a k : ℕ) → slice_index (read_at s.memory a 16) k < 256
byte-small s h a k =
    let d : List ℕ = read_at s.memory a 16 in
    elim (cases_lt k (length d)) as (λ _. slice_index d k < 256) [
      | inl inside ↦ read_at-small s.memory h.blocks a 16 k 0 inside
      | inr past ↦ rw (get_or_past d k 0 past) (omega arith)
    ]

-- A filled slot.

code-small : (type : RssType) → code_of type < 16
code-small NoHash = omega arith
code-small other = omega arith

module _ (s : State) (h : IsSound s) (w : Waiting) (others : List Waiting) (e : s.waiting ≡ w ∷ others) (f : Filled)
    (is : (filled_by s w).answer ≡ Ok f) where
  abbrev left : State
  left = (slot_done s w others (Ok f) (filled_by s w).memory).state

  waits : IsWaiting w
  waits = (subst AreWaiting e h.waiting).0

  type : w.rss < 16
  type = subst (λ n. n < 16) waits.rss.1 (code-small waits.rss.0)

  abbrev between : Memory
  between = write_at s.memory f.at (take f.len (rest_of w).bytes)

  lent : is_lent between f.desc 16 ≡ true
  lent =
      let taken = takes_piece _ _ _ _ f is in
      is_lent-same between s.memory (SameLent-write_at s.memory f.at _) f.desc 16 ∙ taken.descriptor_lent

  aligned : f.desc % 16 ≡ 0
  aligned =
      let taken = takes_piece _ _ _ _ f is in
      let base = (rings_aligned s.registers h.registers Rx w.queue).base in
      omega (arith, taken.desc)

  read-back : read_at left.memory f.desc 16 ≡ written_bytes w f.end f.len
  read-back =
      let taken = takes_piece _ _ _ _ f is in
      let short : f.len < 2 ^ 16 = omega (arith, taken.len) in
      let bytes = of_halves (reported_of (packet_of w)) (written_back f.len f.end) in
      let size = (halves_come_back (reported_of (packet_of w)) (written_back f.len f.end)).size in
      ap (λ m. read_at m f.desc 16) taken.memory
      ∙ rw size at
      (read_at-write_at_same between f.desc bytes (IsWhole-write_at s.memory f.at _ h.blocks.whole) (rw size lent))
      ∙ halves-are w f.end f.len type waits.hash short

  piece-shown : ShowsPiece s w f.end f.desc f.at f.len left
  unfolding step_of
  piece-shown =
      let taken = takes_piece _ _ _ _ f is in
      let reported = packet_is_reported (packet_of w) type waits.hash in
      let still : is_lent left.memory f.desc 16 ≡ true =
      is_lent-same left.memory s.memory (fill_keeps_blocks _ _ _ _).0 f.desc 16 ∙ taken.descriptor_lent in
      record {
        descriptor =
            peek-is left f.desc
            ∙ ap (λ b. answer b (is_lent left.memory f.desc 16) (read_at left.memory f.desc 16))
            (eq-eqb (f.desc % 16) 0 aligned)
            ∙ ap (λ b. answer true b (read_at left.memory f.desc 16)) still
            ∙ ap (answer true true) read-back;
        buffer =
            taken.at ∙ ap (λ a. buffer_of (first_half (read_at s.memory a 16))) (sym taken.desc)
            ∙ ap buffer_of (first-is (read_at s.memory f.desc 16) (λ k. byte-small s h f.desc k));
        bytes = (driver_reads _ _ _ (rest_of w) f h.blocks.whole reported.fits is).bytes;
      }

abbrev Written : State → Outcome → Type 0
Written s o =
    (w : Waiting) (others : List Waiting) → s.waiting ≡ w ∷ others → (queue slot : ℕ) (end : Bool) (desc at len : ℕ)
    → o.reply ≡ Wrote queue slot end desc at len → ShowsPiece s w end desc at len o.state

reported-as : (s : State) (own : Waiting) (f : Filled) (new : State) → ShowsPiece s own f.end f.desc f.at f.len new
    → (w : Waiting) → own ≡ w → (queue slot : ℕ) (end : Bool) (desc at len : ℕ)
    → ◌≡◌ {A = Reply Block} (Wrote own.queue f.slot f.end f.desc f.at f.len) (Wrote queue slot end desc at len)
    → ShowsPiece s w end desc at len new
reported-as s own f new shown w same queue slot end desc at len e =
    let b : f.end ≡ end = cc in
    let c : f.desc ≡ desc = cc in
    let d : f.at ≡ at = cc in
    let l : f.len ≡ len = cc in
    rw (← same, ← b, ← c, ← d, ← l) shown

pub written_back_so : DescriptorsAreWrittenBack
unfolding step_of
written_back_so s h = received_cases (Written s) s (record {
  idle = λ w others first queue slot end desc at len e. cc;
  dropped = λ own rest waits why w others first queue slot end desc at len e. cc;
  slotless = λ own rest waits w others first queue slot end desc at len e. cc;
  fault = λ own rest waits fault w others first queue slot end desc at len e. cc;
  filled = λ own rest waits f is w others first queue slot end desc at len e.
      let same : own ≡ w = cc in
      reported-as s own f _ (piece-shown s h own rest waits f is) w same queue slot end desc at len e;
})
