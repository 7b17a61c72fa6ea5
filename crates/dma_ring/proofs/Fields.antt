-- Lemmas about the fields of descriptors.
use Rattle.std.proofs.Common.{◌≡◌, ℕ, ◌+◌, ◌*◌, ◌/◌, ◌%◌, ◌^◌, ◌<◌, Bool, true, false, if◌then◌else◌, refl, ◌∙◌, arith}
use Rattle.std.specs.Prelude.{◌==◌}
use Rattle.std.specs.Int.{w64, bit_at}
use Rattle.std.specs.Int.RustNames.{bit_or}
use lib.Bits.{bit_and}
use Rattle.std.proofs.lemmas.Bool.Decides.{nat_tests}
use Rattle.std.proofs.lemmas.Bool.{cond_both}
use Rattle.std.proofs.lemmas.Nat.{from_le_bytes-to_le_bytes_8, or_disjoint}
use Rattle.std.proofs.lemmas.Nat.Bits.{bit_at-lt, and_pow, bit_at_set_same, bit_at_set_other}
use Rattle.dma_ring.specs.Bits.{has_bit}
use Rattle.dma_ring.specs.Descriptor.{first_half, second_half, of_halves}
use Rattle.dma_ring.specs.Receive.{reported_of, written_back}
use Rattle.dma_ring.specs.Transmit.{command_of}
use Rattle.dma_ring.specs.declared.receive.Packet.{Packet}
use Rattle.dma_ring.specs.Laws.{HalvesComeBack, PacketIsReported, PieceIsReported, CommandIsAsked, SetsDone, DoneIsSet}

-- Both halves of a descriptor are read back.
pub halves_come_back : HalvesComeBack
unfolding first_half second_half of_halves
halves_come_back low high = record {
  size = refl;
  first = λ fits. from_le_bytes-to_le_bytes_8 low fits;
  second = λ fits. from_le_bytes-to_le_bytes_8 high fits;
}

-- A bit as a number, and back.
number : Bool → ℕ
number bit = if bit then 1 else 0

is_one : (n : ℕ) (bit : Bool) → n ≡ number bit → (n == 1) ≡ bit
unfolding number
is_one n true e = rw e refl
is_one n false e = rw e refl

not_one : (n : ℕ) → n < 2 → (n == 1) ≡ false → n ≡ 0
not_one n small other = grind (arith, nat_tests)

is_set : (n : ℕ) → n ≡ 1 → (n == 1) ≡ true
is_set n e = rw e refl

is_none : (n : ℕ) → n ≡ 0 → (n == 1) ≡ false
is_none n e = rw e refl

number_small : (bit : Bool) → number bit < 2
unfolding number
number_small true = omega arith
number_small false = omega arith

number_times : (bit : Bool) (n : ℕ) → (if bit then n else 0) ≡ n * number bit
unfolding number
number_times true n = omega arith
number_times false n = omega arith

-- The word that reports a packet, and the bits of its fields.
packet_word : (packet : Packet)
    → reported_of packet ≡ packet.rss + 16 * number packet.ipv4 + 64 * number packet.ipv6 + 256 * number packet.tcp
    + 512 * number packet.udp + 2 ^ 32 * packet.hash
packet_word packet = simp number_times

pub packet_is_reported : PacketIsReported
packet_is_reported packet rss hash =
    let w = packet_word packet in
    let a = number_small packet.ipv4 in
    let b = number_small packet.ipv6 in
    let c = number_small packet.tcp in
    let d = number_small packet.udp in
    let none : reported_of packet / 2 ^ 5 % 2 ≡ 0 = omega arith in
    let none_above : reported_of packet / 2 ^ 7 % 2 ≡ 0 = omega arith in
    record {
      fits = omega arith;
      rss = omega arith;
      ipv4 = is_one _ packet.ipv4 (omega arith);
      ipv6 = is_one _ packet.ipv6 (omega arith);
      tcp = is_one _ packet.tcp (omega arith);
      udp = is_one _ packet.udp (omega arith);
      hash = omega arith;
      rest = (is_none _ none, is_none _ none_above, omega arith);
    }

-- The second half that is written back.
piece_word : (bytes : ℕ) (ends : Bool) → written_back bytes ends ≡ 1 + 2 * number ends + 2 ^ 32 * bytes
unfolding number
piece_word bytes true = refl
piece_word bytes false = refl

pub piece_is_reported : PieceIsReported
piece_is_reported bytes ends short =
    let w = piece_word bytes ends in
    let a = number_small ends in
    let one : written_back bytes ends % 2 ≡ 1 = omega arith in
    record {
      fits = omega arith;
      done = is_set _ one;
      end = is_one _ ends (omega arith);
      len = omega arith;
      rest = (omega arith, omega arith);
    }

pub command_is_asked : CommandIsAsked
unfolding command_of
command_is_asked word = record {
  len = omega arith;
  kind = refl;
  end = refl;
  report = refl;
  extended = refl;
  offload = refl;
}

-- The done bit.
with_one : (word : ℕ) → has_bit 32 word ≡ false → SetsDone word (word + 2 ^ 32)
with_one word clear =
    let zero : bit_at word 32 ≡ 0 = not_one _ (bit_at-lt word 32) clear in
    let apart : bit_and word (2 ^ 32) ≡ 0 = and_pow word 32 ∙ omega (arith, zero) in
    let sum : bit_or word (2 ^ 32) ≡ word + 2 ^ 32 = or_disjoint word (2 ^ 32) apart in
    record {
      fits = λ h. omega arith;
      done = rw (← sum, bit_at_set_same w64 word 32 (omega arith)) refl;
      others = λ bit ne. rw (← sum, bit_at_set_other w64 word 32 (omega arith) bit ne) refl;
    }

pub done_is_set : DoneIsSet
done_is_set word =
    cond_both (has_bit 32 word) _ _ (SetsDone word)
    (λ set. record { fits = λ h. h; done = set; others = λ bit ne. refl }) (with_one word)
