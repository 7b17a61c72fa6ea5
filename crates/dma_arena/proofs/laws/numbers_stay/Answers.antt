use Rattle.dma_arena.proofs.Cuts.{given_back, cut_law}
use Rattle.dma_arena.proofs.laws.numbers_stay.Goals as goal

pub returns-clause-given_back : goal.returns-clause-given_back
returns-clause-given_back c = given_back

pub returns-clause-parted : goal.returns-clause-parted
returns-clause-parted c = cut_law
