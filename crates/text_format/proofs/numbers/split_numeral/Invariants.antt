use Rattle.std.proofs.Common.{◌≡◌, ◌≤◌, ◌^◌, length, take, drop}
use Rattle.text_format.specs.Number.{capped_numeral, digits_in_front}
use Rattle.text_format.proofs.numbers.split_numeral.Given as goal

abbrev pub invariant-each : goal.invariant-each
invariant-each l = record {
  capped : l.value ≤ 2 ^ 32;
  front : capped_numeral l.radix l.value (take (digits_in_front l.radix l.rest) l.rest)
      ≡ capped_numeral l.radix 0 (take (digits_in_front l.radix l.bytes) l.bytes);
  after : drop (digits_in_front l.radix l.rest) l.rest ≡ drop (digits_in_front l.radix l.bytes) l.bytes;
}

abbrev pub decreases-each : goal.decreases-each
decreases-each l = length l.rest
