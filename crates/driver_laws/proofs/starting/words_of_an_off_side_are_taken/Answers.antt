use Rattle.pmd_driver.specs.NicDevice.DmaRing.declared.dir.Dir.TheVariants.{Rx, Tx}
use Rattle.driver_laws.proofs.Ground.{words_taken}

pub returns : Rattle.driver_laws.proofs.starting.words_of_an_off_side_are_taken.Goals.returns
returns c = record { receive = words_taken Rx; transmit = words_taken Tx }
