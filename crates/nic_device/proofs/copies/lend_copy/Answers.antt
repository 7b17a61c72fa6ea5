use Rattle.std.proofs.Common.{List, ℕ, sym, ap, ◌∙◌}
use Rattle.rx_ring.specs.DmaArena.Block.{Block}
use Rattle.rx_ring.specs.DmaArena.Memory.{put_bytes}
use Rattle.rx_ring.specs.DmaArena.LendRefused.{back_of}
use Rattle.nic_device.proofs.Leaving.{lent-whole, put-back}
use Rattle.nic_device.proofs.copies.lend_copy.Goals as goal

pub returns-in-Ok-clause-lent : goal.returns-in-Ok-clause-lent
returns-in-Ok-clause-lent c =
    let put = c.put.ensures ∙ ap (λ (xs : List ℕ). let b : Block =
    record c.in-Some.buf { bytes = put_bytes c.in-Some.buf.bytes 0 xs } in b) c.bytes.ensures in
    lent-whole c.args.memory.now _ c.args.number c.in-Some.buf c.put.new.self c.args.bytes.now c.in-Some.ensures.zero
    put c.requires.whole c.in-Ok.ensures.lent

pub returns-in-Err-OutOfMemory-clause-kept : goal.returns-in-Err-OutOfMemory-clause-kept
returns-in-Err-OutOfMemory-clause-kept c =
    let back = sym (ap back_of c.in-Err-OutOfMemory.field-0-is) ∙ c.in-Err-OutOfMemory.ensures.back in
    put-back c.args.arena.now c.take_at.new.self _ c.args.number c.in-Some.buf c.put.new.self c.in-Err-OutOfMemory.buf
    c.bytes.result.now c.requires.free c.in-Some.ensures.zero c.put.ensures back c.in-Some.ensures.taken
    c.give_back.ensures
