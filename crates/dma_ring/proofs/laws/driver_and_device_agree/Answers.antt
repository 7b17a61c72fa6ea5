use Rattle.dma_ring.proofs.Agreement.{posted_is_the_buffer, reported_is_read, data_is_asked}
use Rattle.dma_ring.proofs.laws.driver_and_device_agree.Goals as goal

pub returns-clause-posted : goal.returns-clause-posted
returns-clause-posted c = posted_is_the_buffer

pub returns-clause-reported : goal.returns-clause-reported
returns-clause-reported c = reported_is_read

pub returns-clause-asked : goal.returns-clause-asked
returns-clause-asked c = data_is_asked
