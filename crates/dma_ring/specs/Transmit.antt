-- The fields of a transmit descriptor's second half.
use Rattle.std.specs.Prelude.{ℕ, ◌+◌, ◌/◌, ◌%◌, ◌^◌, not, ◌||◌, ◌==◌, if◌then◌else◌}
use Rattle.dma_ring.specs.declared.transmit.TheConstants.{DTYP, EOP, RS, DEXT, VLE, TSE, DD, POPTS}
use Rattle.dma_ring.specs.declared.transmit.Command.{Command}
use Rattle.dma_ring.specs.Bits.{has_bit}

-- The command in a second half: the length, the type, EOP, RS and DEXT. An offload is requested if VLE or TSE is 1 or
-- POPTS isn't 0.
unfoldable pub command_of : ℕ → Command
command_of second = record {
  len = second % 2 ^ 16;
  kind = second / 2 ^ DTYP % 2 ^ 4;
  end = has_bit EOP second;
  report = has_bit RS second;
  extended = has_bit DEXT second;
  offload = has_bit VLE second || has_bit TSE second || not (second / 2 ^ POPTS % 2 ^ 6 == 0);
}

-- The second half with DD set.
abbrev pub with_done : ℕ → ℕ
with_done second = if has_bit DD second then second else second + 2 ^ DD
