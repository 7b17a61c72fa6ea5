use Rattle.driver_tests.proofs.driver.+free_blocks.Given as goal

abbrev pub decreases-free_blocks : goal.decreases-free_blocks
decreases-free_blocks g l = l.most
