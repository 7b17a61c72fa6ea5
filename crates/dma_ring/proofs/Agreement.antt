-- Lemmas about what a driver writes into descriptors and reads from them.
use Rattle.std.proofs.Common.{◌≡◌, ℕ, ◌/◌, ◌%◌, ◌^◌, Bool, true, false, refl, ap, ◌∙◌, arith}
use Rattle.std.specs.Prelude.{◌+◌, ◌*◌, ◌<◌, ◌==◌, not, ◌||◌}
use Rattle.dma_ring.specs.Transmit.{command_of}
use Rattle.dma_ring.specs.declared.driver.TheConstants.{DATA, LAST, PAYLEN}
use Rattle.dma_ring.specs.Driver.{PostedIsTheBuffer, ReportedIsRead, IsDataWord, data_word, data_command, DataIsAsked}
use Rattle.dma_ring.proofs.Fields.{packet_is_reported}

pub posted_is_the_buffer : PostedIsTheBuffer
posted_is_the_buffer address even = omega (arith, even)

pub reported_is_read : ReportedIsRead
reported_is_read packet rss hash =
    let t = packet_is_reported packet rss hash in
    let fits = t.fits in
    let kind = t.rss in
    let value = t.hash in
    record { rss = omega arith; hash = omega arith }

-- A bit that is set.
is_one : (n : ℕ) → n ≡ 1 → (n == 1) ≡ true
is_one n e = rw e refl

is_zero : (n : ℕ) → n ≡ 0 → (n == 1) ≡ false
is_zero n e = rw e refl

none_asked : (n : ℕ) → n ≡ 0 → not (n == 0) ≡ false
none_asked n e = rw e refl

-- Two commands with equal fields are equal.
same_command : (len kind : ℕ) (end report extended vlan segment checks : Bool) (n : ℕ) (last : Bool)
    → len ≡ n → kind ≡ 3 → end ≡ last → report ≡ last → extended ≡ true → vlan ≡ false → segment ≡ false
    → checks ≡ false
    → record {
      len = len;
      kind = kind;
      end = end;
      report = report;
      extended = extended;
      offload = vlan || segment
          || checks;
    }
    ≡ data_command n last
same_command len kind end report extended vlan segment checks n last a b c d e f g h = rw (a, b, c, d, e, f, g, h) refl

-- The command in a data word with or without the bits of a packet's end.
asked : (len payload mark w : ℕ) (last : Bool) → len < 2 ^ 16 → payload < 2 ^ 18 → mark < 2
    → w ≡ DATA + LAST * mark + len + 2 ^ PAYLEN * payload → (mark == 1) ≡ last
    → IsDataWord w len last payload
unfolding command_of
asked len payload mark w last short small one is marked =
    let bytes : w % 2 ^ 16 ≡ len = omega arith in
    let kind : w / 2 ^ 20 % 2 ^ 4 ≡ 3 = omega arith in
    let end : w / 2 ^ 24 % 2 ≡ mark = omega arith in
    let report : w / 2 ^ 27 % 2 ≡ mark = omega arith in
    let extended : w / 2 ^ 29 % 2 ≡ 1 = omega arith in
    let vlan : w / 2 ^ 30 % 2 ≡ 0 = omega arith in
    let segment : w / 2 ^ 31 % 2 ≡ 0 = omega arith in
    let checks : w / 2 ^ 40 % 2 ^ 6 ≡ 0 = omega arith in
    let done : w / 2 ^ 32 % 2 ≡ 0 = omega arith in
    let sequence : w / 2 ^ 25 % 2 ≡ 1 = omega arith in
    record {
      fits = omega arith;
      command =
          same_command _ _ _ _ _ _ _ _ len last bytes kind (ap (λ n. n == 1) end ∙ marked)
          (ap (λ n. n == 1) report ∙ marked) (is_one _ extended) (is_zero _ vlan) (is_zero _ segment)
          (none_asked _ checks);
      waits = is_zero _ done;
      sequence = is_one _ sequence;
      whole = omega arith;
    }

pub data_is_asked : DataIsAsked
data_is_asked len true payload short small =
    asked len payload 1 (data_word len true payload) true short small (omega arith) (omega arith) refl
data_is_asked len false payload short small =
    asked len payload 0 (data_word len false payload) false short small (omega arith) (omega arith) refl
