use Rattle.std.proofs.Common.{◌≡◌, ◌+◌, List, ℕ, length, refl, arith}
use Rattle.std.proofs.lemmas.List.{length-append}
use Rattle.dma_arena.specs.Memory.{read_at}
use Rattle.dma_arena.proofs.Bus.{length-read_at}
use Rattle.tx_ring.proofs.staged.Staged.stage.Goals as goal

pub add_zeros-requires : goal.add_zeros-requires
add_zeros-requires c =
    let old : List ℕ = c.reserve.new.self.items in
    let bytes : List ℕ = read_at c.args.memory.now c.args.address c.args.len in
    let size : length c.append_to.new.bytes.items ≡ length old + c.args.len =
    rw (
      c.append_to.ensures.appended,
      length-append old bytes,
      length-read_at c.args.memory.now c.args.address c.args.len,
    ) refl in
    record { room = omega (arith, size, c.in_ok-reserve.ensures.ok, c.append_to.ensures.capacity) }
