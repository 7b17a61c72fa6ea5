use Rattle.std.proofs.Common.{ℕ, List, ◌<◌, ◌++◌, length, [], arith}
use Rattle.pmd_access.proofs.Outside.{out_fewer, times-append}
use Rattle.pmd_driver.proofs.Few.{out_few}
use Rattle.pmd_driver.proofs.HaltedBlocks.{first_halted}
use Rattle.pmd_driver.proofs.halted.Halted.of_blocks.Goals as goal

pub of-requires : goal.of-requires
of-requires c =
    omega (
      arith,
      out_few c.args.arena c.args.lent.items c.requires,
      c.count-count.ensures,
      c.count-count.type_inv,
    )

pub invariant_of-result : goal.invariant_of-result
invariant_of-result c =
    let small : length c.args.arena.free < 4294967296 = omega (arith, c.count-count.ensures, c.count-count.type_inv) in
    let lent : List ℕ = c.args.lent.items in
    rw (c.of.ensures, c.new-2.ensures)
    (first_halted c.args.arena small (lent ++ []) [] c.new.result.items c.new-3.result.items
    (out_fewer c.args.arena lent ((lent ++ []) ++ []) c.requires
    (λ k. omega (arith, times-append (lent ++ []) [] k, times-append lent [] k))))
