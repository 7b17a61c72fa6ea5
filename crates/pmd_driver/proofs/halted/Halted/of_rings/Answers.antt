use Rattle.std.proofs.Common.{◌<◌, ◌++◌, length, arith}
use Rattle.pmd_rx.specs.Keeping as receive
use Rattle.pmd_tx.specs.Leaving as transmit
use Rattle.pmd_driver.proofs.HaltedBlocks.{first_halted, rings_out}
use Rattle.pmd_driver.proofs.halted.Halted.of_rings.Goals as goal

pub invariant_of-result : goal.invariant_of-result
invariant_of-result c =
    let small : length c.args.arena.free < 4294967296 = omega (arith, c.count-count.ensures, c.count-count.type_inv) in
    first_halted c.args.arena small (receive.lent_of c.args.receive ++ transmit.lent_of c.args.transmit)
    (receive.blocks_held c.args.receive ++ transmit.waiting_of c.args.transmit) c.args.receive.handed
    c.args.transmit.accepted
    (rings_out c.args.arena c.args.receive c.args.transmit c.requires)
