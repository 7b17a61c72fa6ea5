use Rattle.std.proofs.Common.{ℕ, sym, subst}
use Rattle.pmd_driver.specs.Runs.{AreRuns}
use Rattle.pmd_access.proofs.NicDevice.DmaArena.Runs.{found_after}
use Rattle.pmd_driver.proofs.start.find_places.Goals as goal

pub returns-clause-runs : goal.returns-clause-runs
returns-clause-runs c =
    subst (λ (n : ℕ). AreRuns c.args.arena.now n c.in_ok-receive.receive c.in_ok-transmit.transmit)
    c.blocks_for-count.ensures.blocks (record {
      one = found_after _ _ _ _ (sym c.in_ok-receive.ensures.run);
      two = found_after _ _ _ _ (sym c.in_ok-transmit.ensures.run);
      apart = c.in_ok-transmit.ensures.found.0;
      low = c.in_ok-transmit.ensures.found.1;
    })
