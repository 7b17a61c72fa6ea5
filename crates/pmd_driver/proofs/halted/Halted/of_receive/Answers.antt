use Rattle.std.proofs.Common.{◌<◌, ◌++◌, [], length, arith}
use Rattle.pmd_rx.specs.Keeping as receive
use Rattle.pmd_driver.proofs.Blocks.{second_out}
use Rattle.pmd_driver.proofs.Few.{out_few}
use Rattle.pmd_driver.proofs.HaltedBlocks.{first_halted, ring_out}
use Rattle.pmd_driver.proofs.halted.Halted.of_receive.Goals as goal

pub of-requires : goal.of-requires
of-requires c =
    omega (
      arith,
      out_few c.args.arena c.args.lent.items
          (second_out c.args.arena (receive.blocks_out c.args.receive) c.args.lent.items c.requires),
      c.count-count.ensures,
      c.count-count.type_inv,
    )

pub invariant_of-result : goal.invariant_of-result
invariant_of-result c =
    let small : length c.args.arena.free < 4294967296 = omega (arith, c.count-count.ensures, c.count-count.type_inv) in
    rw c.of.ensures
    (first_halted c.args.arena small (receive.lent_of c.args.receive ++ c.args.lent.items)
    (receive.blocks_held c.args.receive ++ []) c.args.receive.handed c.new.result.items
    (ring_out c.args.arena c.args.receive c.args.lent.items c.requires))
